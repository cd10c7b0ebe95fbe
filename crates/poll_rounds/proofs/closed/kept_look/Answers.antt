use Rattle.poll_rounds.proofs.ClosedLemmas.{look-keeps}
use Rattle.poll_rounds.proofs.RoundLemmas.{refusal}
use Rattle.poll_rounds.proofs.closed.kept_look.Goals as goal

pub returns-clause-kept : goal.returns-clause-kept
returns-clause-kept g c = λ well.
    look-keeps (λ u. u.entries) c.list_near-found.result (g.D.Folders.told c.args.folders.now)
    (g.D.Folders.told c.forget_closed.new.self) c.args.roots.now c.args.paths.now
    (g.D.NotesClosed.closed c.list_near-found.new.folders) c.closed.result.now c.args.last.now c.pass_on.new.last
    c.closed.ensures c.forget_closed.ensures.same c.list_near-found.ensures.shown (c.pass_on.ensures.kept well)

pub returns-clause-refused : goal.returns-clause-refused
returns-clause-refused g c = λ bad.
    refusal g.H.EventHandler.handles c.list_near-found.result (g.D.Folders.failed c.args.folders.now)
    (g.D.Folders.failed c.forget_closed.new.self) (g.D.Folders.failed c.list_near-found.new.folders)
    c.args.handler.now c.pass_on.new.handler c.forget_closed.ensures.counted c.list_near-found.ensures.err
    (c.pass_on.ensures.refused bad)
