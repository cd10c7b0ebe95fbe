-- The work from its beginning to its end.
use Rattle.std.proofs.Common.{sym, subst}
use Rattle.poll_watcher.specs.Work.{EndsPolling}
use Rattle.poll_watcher.proofs.WorkLemmas.{all_called, all_reported}
use Rattle.poll_watcher.proofs.watcher.RoundTaskTask.run.Goals as goal

pub returns : goal.returns
returns g c = λ begun config made.
    let handles = g.F.EventHandler.handles in
    let ready = g.F.EventHandler.ready in
    let handler = c.args.self.handler in
    let own = c.args.self.own in
    let rounds = c.make_rounds-looks_last in
    let last = c.find_last-found in
    let found = last.result.polled.last in
    let now = last.new.self.handler in
    let called = all_called handles ready begun config handler now rounds.new.self.handler own rounds.new.self.own
    found made rounds.ensures.works last.ensures.works in
    let reported = all_reported handles ready begun config handler now rounds.new.self.handler own
    rounds.new.self.own found made rounds.ensures.works last.ensures.works in (
      subst (λ h. EndsPolling handles begun config h found) (sym c.into_handler.ensures) (called, reported),
      last.ensures.tree,
    )
