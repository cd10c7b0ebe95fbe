use Rattle.std.proofs.Common.{◌∙◌, refl}
use Rattle.poll_rounds.proofs.RoundLemmas.{refusal, round-shows}
use Rattle.poll_rounds.proofs.round.poll_round.Goals as goal

pub returns-clause-shown : goal.returns-clause-shown
returns-clause-shown g c =
    round-shows (λ u. u.entries) c.list_beside-found.result (g.D.Folders.told c.args.folders.now) c.args.roots.now
    c.args.last.now c.pass_on.new.last c.pass_on.result c.list_beside-found.ensures.shown (c.pass_on.ensures.whole
    (c.as_slice.ensures.value ∙ c.new-closed.ensures.items))

pub returns-clause-refused : goal.returns-clause-refused
returns-clause-refused g c = λ bad.
    refusal g.H.EventHandler.handles c.list_beside-found.result (g.D.Folders.failed c.args.folders.now)
    (g.D.Folders.failed c.args.folders.now) (g.D.Folders.failed c.list_beside-found.new.folders)
    c.args.handler.now c.pass_on.new.handler refl c.list_beside-found.ensures.err (c.pass_on.ensures.refused bad)
