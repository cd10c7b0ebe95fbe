use Rattle.std.specs.Map.Iter.{deref_pair}
use Rattle.poll_rounds.proofs.LaterLemmas.{taken-sorted}
use Rattle.poll_rounds.proofs.later.Later.next.Goals as goal

pub invariant_of-self : goal.invariant_of-self
invariant_of-self g c =
    taken-sorted deref_pair c.self.inside.entries c.next.new.self c.next.result c.self.invariant c.next.ensures.steps
