use Rattle.std.proofs.Common.{rules, ◌≡◌, ◌∙◌, ◌++◌, ◌∷◌, [], not, ap, subst, sym, true}
use Rattle.std.proofs.lemmas.Map.Made.{filter_same_pairs}
use Rattle.std.specs.BTreeMap.{insert_entry}
use Rattle.notify_paths.specs.Path.{is_below, path_cmp}
use Rattle.poll_listing.specs.Listing.{ListingValue, entry_at}
use Rattle.listing_looks.specs.Looks.{LookerValue, has_place, is_of_other_kind, said}
use Rattle.listing_looks.proofs.LookerLemmas.{anew_looker, anew_says}
use Rattle.listing_looks.proofs.SaidLemmas.{not_below}
use Rattle.listing_looks.proofs.looker.Looker.find_anew.Goals as goal

pub invariant_of-self-2 : goal.invariant_of-self-2
invariant_of-self-2 g c =
    let l : LookerValue = record {
      known = c.self.inside.known;
      lost = c.self.inside.lost.items;
      found = c.self.inside.found.entries;
      trackers = c.self.inside.trackers;
      told = c.self.inside.told.items;
      handed = c.self.inside.handed;
      begun = c.self.inside.begun;
    } in
    let p = c.args.path.now in
    let f = c.args.found in
    let place : has_place (said l) p ≡ true =
    subst (λ (v : LookerValue). has_place (said v) p ≡ true) (sym c.self.view_is) c.requires.place in
    let gone : c.push_reserved.new.self.items ≡ l.lost ++ (p, true) ∷ [] =
    c.push_reserved.ensures.items ∙ (ap (λ ps. ps ++ (c.in_ok-top.top, true) ∷ []) c.reserve.ensures.items
    ∙ ap (λ t. l.lost ++ (t, true) ∷ []) c.in_ok-top.ensures.ok) in
    let put : c.insert.new.self.entries ≡ insert_entry path_cmp l.found p f =
    c.in-Ok-insert.ensures.entries ∙ ap (λ t. insert_entry path_cmp l.found t f) c.in_ok-here.ensures.ok in
    let here : c.retain.new.self.entries ≡ not_below (insert_entry path_cmp l.found p f) p =
    filter_same_pairs _ (λ e. not (is_below e.0 p)) _ (λ k v b w f' t. search rules) c.insert.new.self.entries
    c.retain.new.self.entries c.retain.ensures.filtered ∙ ap (λ (es : ListingValue). not_below es p) put in
    (anew_looker l c.self.invariant p c.push_reserved.new.self.items c.retain.new.self.entries f place gone here).0

pub returns-clause-ok : goal.returns-clause-ok
returns-clause-ok g c =
    let l : LookerValue = record {
      known = c.self.inside.known;
      lost = c.self.inside.lost.items;
      found = c.self.inside.found.entries;
      trackers = c.self.inside.trackers;
      told = c.self.inside.told.items;
      handed = c.self.inside.handed;
      begun = c.self.inside.begun;
    } in
    let p = c.args.path.now in
    let f = c.args.found in
    let place : has_place (said l) p ≡ true =
    subst (λ (v : LookerValue). has_place (said v) p ≡ true) (sym c.self.view_is) c.requires.place in
    let other : is_of_other_kind (entry_at (said l) p) f ≡ true =
    subst (λ (v : LookerValue). is_of_other_kind (entry_at (said v) p) f ≡ true) (sym c.self.view_is)
    c.requires.other in
    let gone : c.push_reserved.new.self.items ≡ l.lost ++ (p, true) ∷ [] =
    c.push_reserved.ensures.items ∙ (ap (λ ps. ps ++ (c.in_ok-top.top, true) ∷ []) c.reserve.ensures.items
    ∙ ap (λ t. l.lost ++ (t, true) ∷ []) c.in_ok-top.ensures.ok) in
    let put : c.insert.new.self.entries ≡ insert_entry path_cmp l.found p f =
    c.in-Ok-insert.ensures.entries ∙ ap (λ t. insert_entry path_cmp l.found t f) c.in_ok-here.ensures.ok in
    let here : c.retain.new.self.entries ≡ not_below (insert_entry path_cmp l.found p f) p =
    filter_same_pairs _ (λ e. not (is_below e.0 p)) _ (λ k v b w f' t. search rules) c.insert.new.self.entries
    c.retain.new.self.entries c.retain.ensures.filtered ∙ ap (λ (es : ListingValue). not_below es p) put in
    anew_says l c.args.self.now c.self.invariant c.self.view_is p c.push_reserved.new.self.items
    c.retain.new.self.entries f place other gone here
