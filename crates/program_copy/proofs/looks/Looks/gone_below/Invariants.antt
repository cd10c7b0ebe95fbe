use Rattle.std.proofs.Common.{◌≡◌, length, true}
use Rattle.std.specs.List.{list_all}
use Rattle.std.specs.Vec.Iter.{into_iter_items, into_iter_len}
use Rattle.notify_paths.specs.Path.{is_prefix}
use Rattle.program_copy.proofs.looks.Looks.gone_below.Given as goal

-- what goes so far lies there, and so does what is left
abbrev pub invariant-loop-below : goal.invariant-loop-below
invariant-loop-below l = record {
  gone : list_all (is_prefix l.path) l.gone.items ≡ true;
  left : list_all (λ e. is_prefix l.path e.0) (into_iter_items l.below-iterator) ≡ true;
  counted : length (into_iter_items l.below-iterator) ≡ into_iter_len l.below-iterator;
}
