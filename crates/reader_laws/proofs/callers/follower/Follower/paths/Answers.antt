-- The law of listings, for the run that led here.
use Rattle.std.proofs.Common.{◌∙◌, ap, []}
use Rattle.std.specs.Map.{keys_of}
use Rattle.debounce_model.specs.Play.{events_of, play}
use Rattle.reader_laws.proofs.callers.follower.Follower.paths.Goals as goal

pub returns-clause-ok : goal.returns-clause-ok
returns-clause-ok g c =
    let i = c.self.invariant in
    let outlook = c.in_ok-outlook.outlook.items in
    let law = c.law_of_listings.ensures i.start c.self.inside.core i.commands i.replies [] i.others outlook i.run
    i.laws i.none i.listings i.told c.in_ok-outlook.ensures.outlook in
    rw (← c.self.view_is)
    (c.in_ok-play.ensures.ok
    ∙ ap (λ p. play p (events_of c.as_slice.result.now)) c.in_ok-paths.ensures.ok
    ∙ ap (λ es. play c.self.inside.reader (events_of es)) c.as_slice.ensures.value
    ∙ ap (λ p. play p (events_of outlook)) i.read ∙ law ∙ ap keys_of i.ends)

pub returns-clause-read : goal.returns-clause-read
returns-clause-read g c =
    let reads = c.in_ok-play.ensures.ok
    ∙ ap (λ p. play p (events_of c.as_slice.result.now)) c.in_ok-paths.ensures.ok
    ∙ ap (λ es. play c.self.inside.reader (events_of es)) c.as_slice.ensures.value in
    rw (← c.self.view_is) (c.in_ok-outlook.outlook.items, c.in_ok-outlook.ensures.outlook, reads)
