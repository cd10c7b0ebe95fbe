use Rattle.std.proofs.Common.{◌≡◌, ◌∙◌, ap, subst, sym}
use Rattle.std.proofs.lemmas.Result.{IfOk-weaker}
use Rattle.poll_listing.specs.Changes.{changes}
use Rattle.poll_listing.specs.Moves.{tracked_changes}
use Rattle.poll_listing.specs.Tracked.{put_trackers}
use Rattle.poll_listing.specs.Updates.{updated}
use Rattle.poll_listing.proofs.moves.tracked.Goals as goal

pub returns : goal.returns
returns g c =
    let old = c.args.old.now in
    let new = updated old c.args.updates.now.entries in
    let first = c.args.first in
    let places = c.in_ok-places.places.items in
    IfOk-weaker c.put_trackers.result
    (λ told. told.items ≡ put_trackers first c.as_slice-2.result.now c.args.events.items)
    (λ told. told.items ≡ tracked_changes first old new)
    (λ told is. is ∙ (ap (λ ps. put_trackers first ps c.args.events.items) c.as_slice-2.ensures.value
    ∙ (ap (put_trackers first places) (sym c.as_slice.ensures.value) ∙ c.in_ok-places.ensures first)))
    c.put_trackers.ensures
