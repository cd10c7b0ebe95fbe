use Rattle.std.proofs.Common.{◌≡◌, ◌∙◌, Some, None, ap, sym, true, false}
use Rattle.poll_listing.specs.Listing.{entry_at}
use Rattle.listing_looks.specs.Looks.{LookerValue, is_lost, said}
use Rattle.listing_looks.proofs.SaidLemmas.{said-finds, said_at}
use Rattle.listing_looks.proofs.looker.Looker.said_at.Goals as goal

pub returns-in-Some : goal.returns-in-Some
returns-in-Some g c =
    let l : LookerValue = record {
      known = c.self.inside.known;
      lost = c.self.inside.lost.items;
      found = c.self.inside.found.entries;
      trackers = c.self.inside.trackers;
      told = c.self.inside.told.items;
      handed = c.self.inside.handed;
      begun = c.self.inside.begun;
    } in
    let p = c.args.path.now in
    let here : entry_at l.found p ≡ Some c.in-Some.found.now = sym c.in-Some.ensures.value in
    sym (ap (λ (v : LookerValue). entry_at (said v) p) (sym c.self.view_is)
    ∙ (said-finds l.known l.lost l.found c.self.invariant.found p
    ∙ ap (λ o. said_at o (is_lost l.lost p) (entry_at l.known p)) here))

pub returns-then-is_lost : goal.returns-then-is_lost
returns-then-is_lost g c =
    let l : LookerValue = record {
      known = c.self.inside.known;
      lost = c.self.inside.lost.items;
      found = c.self.inside.found.entries;
      trackers = c.self.inside.trackers;
      told = c.self.inside.told.items;
      handed = c.self.inside.handed;
      begun = c.self.inside.begun;
    } in
    let p = c.args.path.now in
    let none : entry_at l.found p ≡ None = sym c.in_default.ensures.value in
    let lost : is_lost l.lost p ≡ true =
    ap (λ ts. is_lost ts p) (sym c.as_slice.ensures.value) ∙ (sym c.is_lost.ensures ∙ c.if-is_lost.true) in
    sym (ap (λ (v : LookerValue). entry_at (said v) p) (sym c.self.view_is)
    ∙ (said-finds l.known l.lost l.found c.self.invariant.found p
    ∙ (ap (λ o. said_at o (is_lost l.lost p) (entry_at l.known p)) none
    ∙ ap (λ b. said_at None b (entry_at l.known p)) lost)))

pub returns : goal.returns
returns g c =
    let l : LookerValue = record {
      known = c.self.inside.known;
      lost = c.self.inside.lost.items;
      found = c.self.inside.found.entries;
      trackers = c.self.inside.trackers;
      told = c.self.inside.told.items;
      handed = c.self.inside.handed;
      begun = c.self.inside.begun;
    } in
    let p = c.args.path.now in
    let none : entry_at l.found p ≡ None = sym c.in_default.ensures.value in
    let lost : is_lost l.lost p ≡ false =
    ap (λ ts. is_lost ts p) (sym c.as_slice.ensures.value) ∙ (sym c.is_lost.ensures ∙ c.if-is_lost.false) in
    c.get-2.ensures
    ∙ sym (ap (λ (v : LookerValue). entry_at (said v) p) (sym c.self.view_is)
    ∙ (said-finds l.known l.lost l.found c.self.invariant.found p
    ∙ (ap (λ o. said_at o (is_lost l.lost p) (entry_at l.known p)) none
    ∙ ap (λ b. said_at None b (entry_at l.known p)) lost)))
