use Rattle.std.proofs.Common.{◌≡◌, length}
use Rattle.poll_rounds.specs.Beside.{put_in}
use Rattle.poll_rounds.proofs.beside.Beside.drop_before.Given as goal

-- nothing was put in, and the last listing is the same
abbrev pub invariant-loop-alloc : goal.invariant-loop-alloc
invariant-loop-alloc g l = record {
  same : put_in l.self ≡ put_in l.fn.self;
  last : l.self.last ≡ l.fn.self.last;
}

abbrev pub decreases-loop-alloc : goal.decreases-loop-alloc
decreases-loop-alloc g l = length l.self.left
