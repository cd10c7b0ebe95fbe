use Rattle.std.proofs.Common.{◌≡◌, ◌≤◌, ◌-◌, take}
use Rattle.notify_paths.proofs.first_words.order_by_words.Given as goal

-- the bytes so far are the same
abbrev pub invariant-loop-i : goal.invariant-loop-i
invariant-loop-i l = record { within : l.i ≤ l.both; same : take l.i l.a ≡ take l.i l.b }

abbrev pub decreases-loop-i : goal.decreases-loop-i
decreases-loop-i l = l.both - l.i
