use Rattle.std.proofs.Common.{◌≡◌, ◌*◌, take}
use Rattle.notify_paths.proofs.order.common_words.Given as goal

-- the bytes so far are the same
abbrev pub invariant-loop-k : goal.invariant-loop-k
invariant-loop-k l = take (l.k * 8) l.a ≡ take (l.k * 8) l.b
