use Rattle.std.proofs.Common.{◌∙◌, [], ap, sym, subst}
use Rattle.poll_listing.specs.Updates.{updated}
use Rattle.poll_rounds.specs.Beside.{IsBeside, without}
use Rattle.poll_rounds.proofs.BesideLemmas.{begun, without-none}
use Rattle.poll_rounds.proofs.beside.Beside.new.Goals as goal

pub invariant_of-result : goal.invariant_of-result
invariant_of-result g c =
    let last = c.args.last.now in
    subst (λ us. IsBeside (record { last = last; left = []; updates = us })) (sym c.new.ensures.empty)
    (begun last c.begin.ensures.law)

pub returns-clause-ok : goal.returns-clause-ok
returns-clause-ok g c =
    let last = c.args.last.now in
    ap (λ us. updated (without last []) us) c.new.ensures.empty ∙ without-none last
