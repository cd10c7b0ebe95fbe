use Rattle.std.proofs.Common.{◌∙◌, subst, sym}
use Rattle.program_copy.specs.Looked.{AreSeen}
use Rattle.program_copy.proofs.LookLemmas.{seen_others, seen_standing}
use Rattle.program_copy.proofs.looks.Looks.note.Goals as goal

pub returns-in_ok-insert-in-Some-clause-seen : goal.returns-in_ok-insert-in-Some-clause-seen
returns-in_ok-insert-in-Some-clause-seen g c =
    let self = c.args.self.now in
    let sees = g.C.FolderAndCopy.sees c.args.copy.now in
    λ before. subst (λ st. AreSeen sees self.wanted.entries st self.others.entries)
    (sym c.in_ok-insert-in-Some.ensures.entries)
    (seen_standing sees self.wanted.entries self.standing.entries self.others.entries c.args.path c.in-Some.standing
    c.args.seen c.requires.seen (sym c.in-Some.is ∙ c.copied_of.ensures) before)

pub returns-in_ok-insert-in-None-clause-seen : goal.returns-in_ok-insert-in-None-clause-seen
returns-in_ok-insert-in-None-clause-seen g c =
    let self = c.args.self.now in
    let sees = g.C.FolderAndCopy.sees c.args.copy.now in
    λ before. subst (λ ot. AreSeen sees self.wanted.entries self.standing.entries ot)
    (sym c.in_ok-insert-in-None.ensures.entries)
    (seen_others sees self.wanted.entries self.standing.entries self.others.entries c.args.path c.args.seen
    c.requires.seen (sym c.in-None.is ∙ c.copied_of.ensures) c.requires.new before)
