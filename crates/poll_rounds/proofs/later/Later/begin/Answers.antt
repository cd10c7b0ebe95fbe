use Rattle.std.proofs.Common.{◌∙◌, ap, subst, sym}
use Rattle.poll_listing.proofs.UpdateLemmas.{Ascends}
use Rattle.poll_rounds.specs.Beside.{within}
use Rattle.poll_rounds.proofs.LaterLemmas.{from_path-sorted, within-from}
use Rattle.poll_rounds.proofs.later.Later.begin.Goals as goal

pub invariant_of-result : goal.invariant_of-result
invariant_of-result g c =
    let path = c.args.path.now in
    let last = c.args.last.now in
    subst Ascends (sym c.iter_from.ensures.value) (from_path-sorted path last c.iter_from.ensures.law.ordered)

pub returns-clause-ok : goal.returns-clause-ok
returns-clause-ok g c =
    let path = c.args.path.now in
    ap (λ es. within es path) c.iter_from.ensures.value ∙ within-from path c.args.last.now
