use Rattle.std.proofs.Common.{subst, sym}
use Rattle.notify_paths.specs.Path.{is_prefix}
use Rattle.debounce_model.specs.Play.{events_of}
use Rattle.program_copy.specs.Moving.{IsMade, LeavesOthers}
use Rattle.program_copy.proofs.KeptLemmas.{on_any}
use Rattle.program_copy.proofs.mirror.Mirror.make_move.Goals as goal

pub returns-clause-made : goal.returns-clause-made
returns-clause-made g c =
    on_any _ c.say_move.result
    (subst (λ kept. IsMade g.C.FolderAndCopy.sees g.C.FolderAndCopy.moves c.args.found.now c.args.self.now.kept.copy
    c.args.self.now.kept.copied kept.copy kept.copied) (sym c.say_move.ensures.same) c.in_ok-made.ensures.made)

pub returns-clause-others : goal.returns-clause-others
returns-clause-others g c =
    on_any _ c.say_move.result
    (subst (λ kept. LeavesOthers (is_prefix c.args.found.now.from) c.args.sources.now.entries
    c.args.self.now.kept.copied (events_of c.args.left.now.items) kept.copied
    (events_of c.try_move.new.left.items)) (sym c.say_move.ensures.same) c.in_ok-made.ensures.others)
