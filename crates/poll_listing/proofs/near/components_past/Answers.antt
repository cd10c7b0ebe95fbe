use Rattle.std.proofs.Common.{◌∙◌, ap, sym, drop, length, map}
use Rattle.std.specs.Path.{components_remaining, component_bytes}
use Rattle.notify_paths.specs.PathText.{part_of}
use Rattle.poll_listing.proofs.NearLemmas.{past_begun, past_next}
use Rattle.poll_listing.proofs.near.components_past.Goals as goal

pub loop-part-init : goal.loop-part-init
loop-part-init g c =
    let same = ap (λ s. map part_of (components_remaining s)) c.into_iter-part-iterator.ensures.into_iter_gives
    ∙ c.components-part-items.ensures.value in
    past_begun c.args.root.now c.args.path.now (components_remaining c.into_iter-part-iterator.result)
    (components_remaining c.components-rest.result) same c.components-rest.ensures.value

pub loop-part-preserved : goal.loop-part-preserved
loop-part-preserved g c =
    past_next (components_remaining c.loop-part._part-iterator) (components_remaining c.next.new.self)
    (components_remaining c.loop-part.rest) (components_remaining c.next-in-loop-part.new.self)
    (component_bytes c.in-Some._part) c.next-in-loop-part.result c.in-Some.ensures.steps.0
    c.next-in-loop-part.ensures.steps
    ∙ c.loop-part.invariant

pub returns : goal.returns
returns g c =
    sym (ap (λ xs. drop (length xs) (map part_of (components_remaining c.loop-part.rest)))
    c.in-None.ensures.steps.0) ∙ c.loop-part.invariant
