-- One round after the other; a watch and its end leave the last listing in between.
use Rattle.std.proofs.Common.{◌≡◌, ◌∙◌, [], ap, subst, sym, None}
use Rattle.poll_watcher.specs.Roots.Polled.{PolledValue}
use Rattle.poll_rounds.specs.Reports.{Reported}
use Rattle.reader_laws.proofs.callers.overlapping.watch_both.Goals as goal

pub returns : goal.returns
returns g c =
    let handles = g.H.EventHandler.handles in
    let law = c.law_of_reports.ensures in
    let begun = c.args.handler.now in
    let none : c.watch_reported.new.self.last ≡ [] =
    c.watch_reported.ensures.last ∙ ap (λ (p : PolledValue). p.last) c.new-polled.ensures in
    let begins : Reported handles begun c.watch_reported.new.self.last begun =
    subst (λ l. Reported handles begun l begun) (sym none) (law.begins begun) in
    let one = law.goes_on begun _ _ _ _ None begins c.last.ensures.law c.round.ensures.reports in
    let watched : Reported handles begun c.watch_reported-3.new.self.last c.round.new.handler =
    subst (λ l. Reported handles begun l c.round.new.handler) (sym c.watch_reported-3.ensures.last) one in
    let two = law.goes_on begun _ _ _ _ None watched c.last-2.ensures.law c.round-2.ensures.reports in
    let unwatched : Reported handles begun c.unwatch_reported.new.self.last c.round-2.new.handler =
    subst (λ l. Reported handles begun l c.round-2.new.handler) (sym c.unwatch_reported.ensures.last) two in
    law.goes_on begun _ _ _ _ None unwatched c.last-3.ensures.law c.round-3.ensures.reports
