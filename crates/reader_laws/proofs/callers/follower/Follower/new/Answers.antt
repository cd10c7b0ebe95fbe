-- It begins with the listing of nothing.
use Rattle.std.proofs.Common.{refl}
use Rattle.reader_laws.proofs.CallersLemmas.Following.{followed_nothing}
use Rattle.reader_laws.proofs.callers.follower.Follower.new.Goals as goal

pub invariant_of-result : goal.invariant_of-result
invariant_of-result g c =
    rw (c.new-2.ensures, c.new-3.ensures)
    (followed_nothing c.new-core.result c.waiting-waiting.ensures.laws (rw c.new-core.ensures refl))
