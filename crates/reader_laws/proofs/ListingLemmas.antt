-- Events that lead from one set of paths to the next lead from the first to the last.
use Rattle.std.proofs.Common.{◌≡◌, ◌∙◌, ap, refl, true, List, [], ◌∷◌, ◌++◌}
use Rattle.std.specs.List.{AllByRecursion}
use Rattle.std.specs.List.Sorted.{IsStrictlySortedBy}
use Rattle.std.specs.Map.{keys_of}
use Rattle.notify_paths.specs.Path.{path_cmp}
use Rattle.notify_types.specs.Event.{EventValue, Timed}
use Rattle.debounce_model.specs.Cache.{Rules}
use Rattle.debounce_model.specs.Command.{CommandValue, ReplyValue}
use Rattle.debounce_model.specs.Honest.{are_honest}
use Rattle.debounce_model.specs.PathsLaw.{read_paths}
use Rattle.debounce_model.specs.Play.{Paths, accepted, play}
use Rattle.debounce_model.specs.Run.{Run}
use Rattle.debounce_model.specs.State.{Core, waiting}
use Rattle.debounce_model.specs.Tick.{IsOutlook}
use Rattle.debounce_model.specs.WellFormed.{IsWellFormed}
use Rattle.debounce_laws.proofs.PlayAt.{play-append}
use Rattle.debounce_laws.proofs.ReaderLaw.{reader_has_raw_paths}
use Rattle.poll_listing.specs.Changes.{LeadsTo, changes}
use Rattle.poll_listing.specs.Listing.{ListingValue, IsListing}
use Rattle.poll_listing.proofs.HonestLemmas.{changes_lead}
use Rattle.reader_paths.proofs.ReplyLemmas.{are_honest-append}
use Rattle.reader_laws.specs.Listings.{changes_through, last_of}

-- one way after the other
pub lead-append : (a b c : Paths) (xs ys : List EventValue) → LeadsTo a b xs → LeadsTo b c ys →
    LeadsTo a c (xs ++ ys)
lead-append a b c xs ys x y = record {
  closed = x.closed;
  honest = are_honest-append a xs ys ∙ rw (x.honest, x.played) y.honest;
  played = play-append a xs ys ∙ ap (λ p. play p ys) x.played ∙ y.played;
}

-- the changes lead from the first listing's paths to the last one's
lead-through : (first : ListingValue) (others : List ListingValue) → AllByRecursion IsListing (first ∷ others) →
    LeadsTo (keys_of first) (keys_of (last_of first others)) (changes_through first others)
lead-through first [] h = record {
  closed = h.0.closed;
  honest = refl;
  played = refl;
}
lead-through first (next ∷ others) h =
    lead-append (keys_of first) (keys_of next) (keys_of (last_of next others)) (changes first next)
    (changes_through next others) (changes_lead first next h.0 h.1.0) (lead-through next others h.1)

-- a reader of a run that takes events which lead from some paths to others has these
pub reader_led : {C : Type 0} (r : Rules C) (s t : Core C) (commands : List CommandValue) (replies : List ReplyValue)
    (first last : Paths) (events : List EventValue) (outlook : List Timed) → Run r s commands replies t →
    IsWellFormed s.state → waiting s.state ≡ 0 → IsStrictlySortedBy path_cmp first → LeadsTo first last events →
    accepted commands replies ≡ events → IsOutlook t.state outlook → read_paths first replies outlook ≡ last
reader_led r s t commands replies first last events outlook run laws none sorted lead told shown =
    let honest : are_honest first (accepted commands replies) ≡ true = rw told lead.honest in
    reader_has_raw_paths r s t commands replies laws none run first outlook sorted
    (record { closed = lead.closed; events = honest }) shown
    ∙ ap (λ es. play first es) told ∙ lead.played

-- so a reader of a run that takes the changes has the last listing's
pub reader_has_the_last : {C : Type 0} (r : Rules C) (s t : Core C) (commands : List CommandValue)
    (replies : List ReplyValue) (first : ListingValue) (others : List ListingValue) (outlook : List Timed) →
    Run r s commands replies t → IsWellFormed s.state → waiting s.state ≡ 0 →
    AllByRecursion IsListing (first ∷ others) → accepted commands replies ≡ changes_through first others →
    IsOutlook t.state outlook → read_paths (keys_of first) replies outlook ≡ keys_of (last_of first others)
reader_has_the_last r s t commands replies first others outlook run laws none listings told shown =
    reader_led r s t commands replies (keys_of first) (keys_of (last_of first others)) (changes_through first others)
    outlook run laws none listings.0.ordered (lead-through first others listings) told shown
