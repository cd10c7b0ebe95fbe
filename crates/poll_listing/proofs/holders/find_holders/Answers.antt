use Rattle.std.proofs.Common.{◌≡◌, ◌∙◌, [], None, ap, refl, subst}
use Rattle.std.proofs.lemmas.List.{nil_from_length}
use Rattle.std.specs.Option.{option_map}
use Rattle.poll_listing.specs.Holders.{ChangesEach, counted, held_from, holder_at}
use Rattle.poll_listing.specs.Listing.{IsListing}
use Rattle.poll_listing.specs.Pairs.{updated_pairs}
use Rattle.poll_listing.proofs.HolderLemmas.{tell_moves}
use Rattle.poll_listing.proofs.holders.find_holders.Goals.{then-not-is_empty, else-not-is_empty}
use Rattle.poll_listing.proofs.holders.find_holders.Goals as goal

pub returns : goal.returns
returns g c =
    let old = c.args.old.now in
    let us = c.args.updates.now.entries in
    let hs = c.in_ok-holders.holders.entries in
    let each : ChangesEach (counted (updated_pairs old us)) hs c.if-not-is_empty.holders.entries =
    elim c.if-not-is_empty.branch [
      | then-not-is_empty w ↦ λ k. ap (λ m. holder_at m.entries k) w.holders-is ∙ (w.count.ensures k
          ∙ ap (λ ps. option_map (counted ps k) (holder_at hs k)) (w.all.ensures
          ∙ ap (λ os. updated_pairs os us) c.old.view_is))
      | else-not-is_empty w ↦ λ k.
          let none : hs ≡ [] = nil_from_length hs (c.is_empty.ensures.0 w.if-not-is_empty.false) in
          ap (λ m. holder_at m.entries k) w.holders-is ∙ rw none refl
    ] in
    tell_moves old us hs c.if-not-is_empty.holders.entries (subst IsListing c.old.view_is c.old.invariant)
    c.requires.update (λ k. c.in_ok-holders.ensures k ∙ ap (held_from old k 0 None) c.requires.events) each
