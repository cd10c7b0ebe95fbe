use Rattle.std.proofs.Common.{rules, ◌≡◌, ◌∙◌, ◌++◌, ◌∷◌, [], false, true, not, ap, subst, sym}
use Rattle.std.proofs.lemmas.Map.Made.{filter_same_pairs}
use Rattle.notify_paths.specs.Path.{is_prefix}
use Rattle.listing_looks.specs.Looks.{LookerValue, has_place, said}
use Rattle.listing_looks.proofs.KeptLemmas.{kept_looker, kept_says}
use Rattle.listing_looks.proofs.SaidLemmas.{found_outside}
use Rattle.listing_looks.proofs.looker.Looker.keep.Goals as goal

pub invariant_of-self-2 : goal.invariant_of-self-2
invariant_of-self-2 g c =
    let l : LookerValue = record {
      known = c.self.inside.known;
      lost = c.self.inside.lost.items;
      found = c.self.inside.found.entries;
      trackers = c.self.inside.trackers;
      told = c.self.inside.told.items;
      handed = c.self.inside.handed;
      begun = c.self.inside.begun;
    } in
    let p = c.args.path.now in
    let place : has_place (said l) p ≡ true =
    subst (λ (v : LookerValue). has_place (said v) p ≡ true) (sym c.self.view_is) c.requires in
    let stays : c.push.new.self.items ≡ l.lost ++ (p, false) ∷ [] =
    c.in-Ok.ensures.items ∙ ap (λ t. l.lost ++ (t, false) ∷ []) c.in_ok-top.ensures.ok in
    let left : c.retain.new.self.entries ≡ found_outside l.found p =
    filter_same_pairs _ (λ e. not (is_prefix p e.0)) _ (λ k v b w f' t. search rules) l.found
    c.retain.new.self.entries c.retain.ensures.filtered in
    (kept_looker l c.self.invariant p c.push.new.self.items c.retain.new.self.entries place stays left).0

pub returns-clause-ok : goal.returns-clause-ok
returns-clause-ok g c =
    let l : LookerValue = record {
      known = c.self.inside.known;
      lost = c.self.inside.lost.items;
      found = c.self.inside.found.entries;
      trackers = c.self.inside.trackers;
      told = c.self.inside.told.items;
      handed = c.self.inside.handed;
      begun = c.self.inside.begun;
    } in
    let p = c.args.path.now in
    let place : has_place (said l) p ≡ true =
    subst (λ (v : LookerValue). has_place (said v) p ≡ true) (sym c.self.view_is) c.requires in
    let stays : c.push.new.self.items ≡ l.lost ++ (p, false) ∷ [] =
    c.in-Ok.ensures.items ∙ ap (λ t. l.lost ++ (t, false) ∷ []) c.in_ok-top.ensures.ok in
    let left : c.retain.new.self.entries ≡ found_outside l.found p =
    filter_same_pairs _ (λ e. not (is_prefix p e.0)) _ (λ k v b w f' t. search rules) l.found
    c.retain.new.self.entries c.retain.ensures.filtered in
    kept_says l c.args.self.now c.self.invariant c.self.view_is p c.push.new.self.items c.retain.new.self.entries
    place stays left
