-- No line so far begins with the word.
use Rattle.std.proofs.Common.{◌≡◌, ◌<◌, ℕ, nat_eq, false, codes, drop}
use Rattle.std.specs.List.{starts_with}
use Rattle.mirror_threads.specs.Threads.{BeginsLine}
use Rattle.mirror_threads.proofs.scripts.counts_line.Given as goal

abbrev pub invariant-loop-at : goal.invariant-loop-at
invariant-loop-at l = (k : ℕ) → k < l.at → BeginsLine l.bytes k → starts_with nat_eq (drop k l.bytes) (codes "counts")
    ≡ false
