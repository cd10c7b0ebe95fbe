use Rattle.std.proofs.Common.{◌≡◌, ◌∙◌, ap, subst, sym, true, false}
use Rattle.std.specs.BTreeMap.{insert_entry}
use Rattle.notify_paths.specs.Path.{path_cmp}
use Rattle.poll_listing.specs.Listing.{entry_at}
use Rattle.listing_looks.specs.Looks.{LookerValue, has_place, is_of_other_kind, said}
use Rattle.listing_looks.proofs.LookerLemmas.{still_looker, still_says}
use Rattle.listing_looks.proofs.looker.Looker.find_still.Goals as goal

pub invariant_of-self-2 : goal.invariant_of-self-2
invariant_of-self-2 g c =
    let l : LookerValue = record {
      known = c.self.inside.known;
      lost = c.self.inside.lost.items;
      found = c.self.inside.found.entries;
      trackers = c.self.inside.trackers;
      told = c.self.inside.told.items;
      handed = c.self.inside.handed;
      begun = c.self.inside.begun;
    } in
    let p = c.args.path.now in
    let f = c.args.found in
    let place : has_place (said l) p ≡ true =
    subst (λ (v : LookerValue). has_place (said v) p ≡ true) (sym c.self.view_is) c.requires.place in
    let here : c.insert.new.self.entries ≡ insert_entry path_cmp l.found p f =
    c.in-Ok.ensures.entries ∙ ap (λ t. insert_entry path_cmp l.found t f) c.in_ok-here.ensures.ok in
    (still_looker l c.self.invariant p f c.insert.new.self.entries place here).0

pub returns-clause-ok : goal.returns-clause-ok
returns-clause-ok g c =
    let l : LookerValue = record {
      known = c.self.inside.known;
      lost = c.self.inside.lost.items;
      found = c.self.inside.found.entries;
      trackers = c.self.inside.trackers;
      told = c.self.inside.told.items;
      handed = c.self.inside.handed;
      begun = c.self.inside.begun;
    } in
    let p = c.args.path.now in
    let f = c.args.found in
    let place : has_place (said l) p ≡ true =
    subst (λ (v : LookerValue). has_place (said v) p ≡ true) (sym c.self.view_is) c.requires.place in
    let other : is_of_other_kind (entry_at (said l) p) f ≡ false =
    subst (λ (v : LookerValue). is_of_other_kind (entry_at (said v) p) f ≡ false) (sym c.self.view_is)
    c.requires.other in
    let here : c.insert.new.self.entries ≡ insert_entry path_cmp l.found p f =
    c.in-Ok.ensures.entries ∙ ap (λ t. insert_entry path_cmp l.found t f) c.in_ok-here.ensures.ok in
    still_says l c.args.self.now c.self.invariant c.self.view_is p f c.insert.new.self.entries place other here
