use Rattle.std.proofs.Common.{◌≡◌, ◌∙◌, ◌∷◌, ◌++◌, ap, sym, None}
use Rattle.notify_paths.specs.Path.{PathValue}
use Rattle.poll_listing.specs.declared.updates.Update.{Update}
use Rattle.poll_listing.specs.Changes.{changes}
use Rattle.poll_listing.specs.Pairs.{PartsValue, walk, joined, updated_pairs}
use Rattle.poll_listing.specs.Updates.{updated}
use Rattle.poll_listing.proofs.WalkLemmas.{joined-none}
use Rattle.poll_listing.proofs.UpdatedPairs.{from_path, no_updates, updates_walked, walked-from}
use Rattle.poll_listing.proofs.comparing.update_events.Goals as goal

pub returns : goal.returns
returns g c =
    let parts = c.loop-pair.parts in
    let old = c.args.old.now.entries in
    let us = c.args.updates.now.entries in
    let all : parts ≡ walk None (updated_pairs old us) =
    sym (joined-none parts)
    ∙ ap (λ w. joined parts w) (sym c.in_default-next_told.ensures)
    ∙ c.loop-pair.invariant in
    let same : parts.removed ++ (parts.created ++ parts.rewritten) ≡ changes old (updated old us) =
    ap (λ (p : PartsValue). p.removed ++ (p.created ++ p.rewritten)) (all
    ∙ updates_walked old us c.requires.0 c.requires.1) in
    rw (← same) c.into_events.ensures

pub returns-in_default : goal.returns-in_default
returns-in_default g c =
    c.new.ensures.items
    ∙ sym (no_updates c.args.old.now.entries c.args.updates.now.entries c.requires.0
    (sym c.iter.ensures.rest ∙ c.in_default.ensures.steps.0))

pub loop-pair-init : goal.loop-pair-init
loop-pair-init g c =
    let old = c.args.old.now.entries in
    let first : PathValue × Update = (c.in-Some.first.now, c.in-Some._update.now) in
    let is : c.args.updates.now.entries ≡ first ∷ c.next.new.self =
    sym c.iter.ensures.rest ∙ c.in-Some.ensures.steps in
    rw c.new-parts.ensures
    (ap (λ ps. walk None ps) (c.new-pairs.ensures ∙ ap (updated_pairs (from_path first.0 old)) is)
    ∙ (walked-from first c.next.new.self old c.requires.0.ordered
    ∙ ap (λ us. walk None (updated_pairs old us)) (sym is)))
