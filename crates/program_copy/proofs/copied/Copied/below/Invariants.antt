use Rattle.std.proofs.Common.{◌≡◌, true}
use Rattle.std.specs.List.{list_all}
use Rattle.notify_paths.specs.Path.{is_prefix}
use Rattle.program_copy.proofs.copied.Copied.below.Given as goal

-- all that was found so far lies there
abbrev pub invariant-loop-key : goal.invariant-loop-key
invariant-loop-key l = list_all (λ e. is_prefix l.path e.0) l.found.items ≡ true
