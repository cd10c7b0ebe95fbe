use Rattle.std.proofs.Common.{◌≡◌, drop}
use Rattle.notify_paths.specs.TextSteps.{names_follow}
use Rattle.notify_paths.proofs.text.names_follow.Given as goal

abbrev pub invariant-loop-i : goal.invariant-loop-i
invariant-loop-i l = names_follow l.text ≡ names_follow (drop l.i l.text)
