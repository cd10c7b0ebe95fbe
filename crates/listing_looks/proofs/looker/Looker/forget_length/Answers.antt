use Rattle.std.proofs.Common.{◌≡◌, ◌∙◌, ◌∷◌, [], ap, Some, subst, sym}
use Rattle.std.specs.Prelude.{OnOk}
use Rattle.std.specs.BTreeMap.{insert_entry}
use Rattle.std.specs.Map.{keys_of}
use Rattle.notify_paths.specs.Path.{path_cmp}
use Rattle.poll_listing.specs.declared.updates.Update.TheVariants.{Changed}
use Rattle.poll_listing.specs.Listing.{entry_at}
use Rattle.poll_listing.specs.Updates.{IsUpdate, UpdatesValue, updated}
use Rattle.listing_looks.specs.Looks.{LookerValue, unmeasured}
use Rattle.listing_looks.proofs.WrittenLemmas.{one_update, over_result, paths_result}
use Rattle.listing_looks.proofs.looker.Looker.forget_length.Goals as goal

pub update-requires : goal.update-requires
update-requires g c =
    let l : LookerValue = record {
      known = c.self.inside.known;
      lost = c.self.inside.lost.items;
      found = c.self.inside.found.entries;
      trackers = c.self.inside.trackers;
      told = c.self.inside.told.items;
      handed = c.self.inside.handed;
      begun = c.self.inside.begun;
    } in
    let p = c.args.path.now in
    let f = unmeasured c.args.found in
    let here : entry_at l.known p ≡ Some c.args.found =
    subst (λ (v : LookerValue). entry_at v.known p ≡ Some c.args.found) (sym c.self.view_is) c.requires in
    let one : c.insert.new.self.entries ≡ (p, Changed f) ∷ [] =
    c.in-Ok.ensures.entries
    ∙ (ap (λ (us : UpdatesValue). insert_entry path_cmp us c.in_ok-here.here (Changed f)) c.new-updates.ensures.empty
    ∙ ap (λ k. (k, Changed f) ∷ []) c.in_ok-here.ensures.ok) in
    subst (IsUpdate l.known) (sym one) (one_update l.known p c.args.found f c.self.invariant.known here)

pub invariant_of-self : goal.invariant_of-self
invariant_of-self g c =
    let l : LookerValue = record {
      known = c.self.inside.known;
      lost = c.self.inside.lost.items;
      found = c.self.inside.found.entries;
      trackers = c.self.inside.trackers;
      told = c.self.inside.told.items;
      handed = c.self.inside.handed;
      begun = c.self.inside.begun;
    } in
    let p = c.args.path.now in
    let f = unmeasured c.args.found in
    let here : entry_at l.known p ≡ Some c.args.found =
    subst (λ (v : LookerValue). entry_at v.known p ≡ Some c.args.found) (sym c.self.view_is) c.requires in
    let one : c.insert.new.self.entries ≡ (p, Changed f) ∷ [] =
    c.in-Ok.ensures.entries
    ∙ (ap (λ (us : UpdatesValue). insert_entry path_cmp us c.in_ok-here.here (Changed f)) c.new-updates.ensures.empty
    ∙ ap (λ k. (k, Changed f) ∷ []) c.in_ok-here.ensures.ok) in
    over_result c.update.result l c.self.invariant p c.args.found f here c.update.new.self
    (subst (λ us. OnOk c.update.result (c.update.new.self ≡ updated l.known us)) one c.update.ensures.ok)
    c.update.ensures.unchanged

pub returns-clause-paths : goal.returns-clause-paths
returns-clause-paths g c =
    let l : LookerValue = record {
      known = c.self.inside.known;
      lost = c.self.inside.lost.items;
      found = c.self.inside.found.entries;
      trackers = c.self.inside.trackers;
      told = c.self.inside.told.items;
      handed = c.self.inside.handed;
      begun = c.self.inside.begun;
    } in
    let p = c.args.path.now in
    let f = unmeasured c.args.found in
    let here : entry_at l.known p ≡ Some c.args.found =
    subst (λ (v : LookerValue). entry_at v.known p ≡ Some c.args.found) (sym c.self.view_is) c.requires in
    let one : c.insert.new.self.entries ≡ (p, Changed f) ∷ [] =
    c.in-Ok.ensures.entries
    ∙ (ap (λ (us : UpdatesValue). insert_entry path_cmp us c.in_ok-here.here (Changed f)) c.new-updates.ensures.empty
    ∙ ap (λ k. (k, Changed f) ∷ []) c.in_ok-here.ensures.ok) in
    subst (λ (v : LookerValue). OnOk c.update.result (keys_of c.update.new.self ≡ keys_of v.known)) c.self.view_is
    (paths_result c.update.result l c.self.invariant p c.args.found f here c.update.new.self
    (subst (λ us. OnOk c.update.result (c.update.new.self ≡ updated l.known us)) one c.update.ensures.ok))
