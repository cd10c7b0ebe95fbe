use mathlib.Core.List.{append-nil}
use Rattle.std.proofs.Common.{rules, ◌≡◌, ◌∙◌, ◌∷◌, ◌++◌, List, [], ap, arith, drop, length, subst, suc, sym}
use Rattle.std.proofs.lemmas.List.{nil_from_length}
use Rattle.std.specs.Prelude.{option_and_then, slice_get}
use Rattle.std.specs.Vec.Iter.{into_iter_items}
use Rattle.notify_types.specs.Event.{EventValue}
use Rattle.poll_listing.specs.Tracked.{put_trackers, track}
use Rattle.poll_listing.proofs.TrackLemmas.{put_none, put_step}
use Rattle.poll_listing.proofs.moves.put_trackers.Goals as goal

pub loop-event-preserved : goal.loop-event-preserved
loop-event-preserved g c =
    let told = c.loop-event.told.items in
    let first = c.args.first in
    let places = c.args.places.now in
    let steps = c.in-Some.ensures.steps in
    let rest : List EventValue = into_iter_items c.next.new.self in
    let one : length (into_iter_items c.loop-event.event-iterator) ≡ suc (length rest) = ap length steps.0 in
    let is : c.push.new.self.items ≡ told ++ track first c.place_at-place.result c.in-Some.event ∷ [] =
    c.in_ok-push.ensures.items ∙ ap (λ t. told ++ t ∷ []) c.track.ensures in
    record {
      put = subst (λ es. es ++ put_trackers first (drop (length es) places) rest
          ≡ put_trackers first places c.args.events.items) (sym is)
          (put_step first places told c.place_at-place.result c.in-Some.event rest
          (into_iter_items c.loop-event.event-iterator) (put_trackers first places c.args.events.items)
          (c.place_at-place.ensures ∙ ap (λ n. option_and_then (λ p. p) (slice_get places n)) search rules) steps.0
          c.loop-event.invariant.put);
      counted = omega (arith, one, steps.1, c.loop-event.invariant.counted);
    }

pub returns : goal.returns
returns g c =
    let told = c.loop-event.told.items in
    let none : into_iter_items c.loop-event.event-iterator ≡ [] =
    nil_from_length (into_iter_items c.loop-event.event-iterator)
    (c.loop-event.invariant.counted ∙ c.in-None.ensures.steps.0) in
    let places = drop (length told) c.args.places.now in
    sym (append-nil told)
    ∙ (ap (λ es. told ++ es) (sym (ap (put_trackers c.args.first places) none ∙ put_none c.args.first places))
    ∙ c.loop-event.invariant.put)
