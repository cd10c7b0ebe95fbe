use Rattle.std.proofs.Common.{◌∷◌, ◌∙◌, subst, sym}
use Rattle.std.specs.Map.{values_of}
use Rattle.debounce_model.specs.Play.{events_of}
use Rattle.program_copy.proofs.MovingLemmas.{MadeSoFar, made_all, made_first, made_next}
use Rattle.program_copy.proofs.mirror.Mirror.make_each.Goals as goal

pub loop-found-init : goal.loop-found-init
loop-found-init g c =
    let self = c.args.self.now in
    let left = events_of c.args.left.now.items in
    let sees = g.C.FolderAndCopy.sees in
    let moves = g.C.FolderAndCopy.moves in
    subst (λ rest. MadeSoFar sees moves c.args.sources.now.entries (values_of c.args.moves.now) rest self.kept.copy
    self.kept.copied left self.kept.copy self.kept.copied left)
    (sym (c.into_iter-found-iterator.ensures.into_iter_gives ∙ c.pairs-found-items.ensures.all))
    (made_first sees moves c.args.sources.now.entries (values_of c.args.moves.now) self.kept.copy self.kept.copied left)

pub loop-found-preserved : goal.loop-found-preserved
loop-found-preserved g c =
    let self = c.args.self.now in
    let l = c.loop-found in
    let all = values_of c.args.moves.now in
    let left = events_of c.args.left.now.items in
    let sees = g.C.FolderAndCopy.sees in
    let moves = g.C.FolderAndCopy.moves in
    let so_far : MadeSoFar sees moves c.args.sources.now.entries all (c.in-Some.found.now ∷ c.next.new.self)
    self.kept.copy self.kept.copied left l.self.kept.copy l.self.kept.copied (events_of l.left.items) =
    subst (λ rest. MadeSoFar sees moves c.args.sources.now.entries all rest self.kept.copy self.kept.copied left
    l.self.kept.copy l.self.kept.copied (events_of l.left.items)) c.in-Some.ensures.steps l.invariant in
    made_next sees moves c.args.sources.now.entries all c.in-Some.found.now c.next.new.self
    self.kept.copy self.kept.copied left l.self.kept.copy l.self.kept.copied (events_of l.left.items)
    c.make_move.new.self.kept.copy c.make_move.new.self.kept.copied (events_of c.make_move.new.left.items) so_far
    c.in_ok-make_move.ensures.made c.in_ok-make_move.ensures.others

pub returns-clause-made : goal.returns-clause-made
returns-clause-made g c =
    let self = c.args.self.now in
    let l = c.loop-found in
    (made_all g.C.FolderAndCopy.sees g.C.FolderAndCopy.moves c.args.sources.now.entries (values_of c.args.moves.now)
    l.found-iterator self.kept.copy self.kept.copied (events_of c.args.left.now.items) l.self.kept.copy
    l.self.kept.copied (events_of l.left.items) c.in-None.ensures.steps.0 l.invariant).0

pub returns-clause-others : goal.returns-clause-others
returns-clause-others g c =
    let self = c.args.self.now in
    let l = c.loop-found in
    (made_all g.C.FolderAndCopy.sees g.C.FolderAndCopy.moves c.args.sources.now.entries (values_of c.args.moves.now)
    l.found-iterator self.kept.copy self.kept.copied (events_of c.args.left.now.items) l.self.kept.copy
    l.self.kept.copied (events_of l.left.items) c.in-None.ensures.steps.0 l.invariant).1
