use Rattle.std.specs.Map.{values_of}
use Rattle.debounce_model.specs.Play.{events_of}
use Rattle.program_copy.proofs.MovingLemmas.{MadeSoFar}
use Rattle.program_copy.proofs.mirror.Mirror.make_each.Given as goal

-- of all moves, those but the ones that are left were made
abbrev pub invariant-loop-found : goal.invariant-loop-found
invariant-loop-found g l =
    MadeSoFar g.C.FolderAndCopy.sees g.C.FolderAndCopy.moves l.sources.entries (values_of l.moves) l.found-iterator
    l.fn.self.kept.copy l.fn.self.kept.copied (events_of l.fn.left.items) l.self.kept.copy l.self.kept.copied
    (events_of l.left.items)
