-- Listings one after the other, as events: what a reader has in the end.
use Rattle.std.specs.Prelude.{◌≡◌, List, [], ◌∷◌, ◌++◌}
use Rattle.std.specs.List.{AllByRecursion}
use Rattle.std.specs.Map.{keys_of}
use Rattle.notify_types.specs.Event.{EventValue, Timed}
use Rattle.debounce_model.specs.Cache.{Rules}
use Rattle.debounce_model.specs.Command.{CommandValue, ReplyValue}
use Rattle.debounce_model.specs.PathsLaw.{read_paths}
use Rattle.debounce_model.specs.Play.{accepted}
use Rattle.debounce_model.specs.Run.{Run}
use Rattle.debounce_model.specs.State.{Core, waiting}
use Rattle.debounce_model.specs.Tick.{IsOutlook}
use Rattle.debounce_model.specs.WellFormed.{IsWellFormed}
use Rattle.poll_listing.specs.Changes.{changes}
use Rattle.poll_listing.specs.Listing.{ListingValue, IsListing}

-- the changes from each listing to the next, in a row
abbrev pub changes_through : ListingValue → List ListingValue → List EventValue
changes_through first [] = []
changes_through first (next ∷ others) = changes first next ++ changes_through next others

-- the last of these listings
abbrev pub last_of : ListingValue → List ListingValue → ListingValue
last_of first [] = first
last_of first (next ∷ others) = last_of next others

-- a run from where nothing waits that takes just these changes leaves a reader of the first listing's paths, after the
-- batches and the outlook, with the last listing's
abbrev pub ReaderHasTheLast : {C : Type 0} → Rules C → Type 0
ReaderHasTheLast {C} r =
    (s t : Core C) (commands : List CommandValue) (replies : List ReplyValue)
    (first : ListingValue) (others : List ListingValue) (outlook : List Timed) →
    Run r s commands replies t →
    IsWellFormed s.state →
    waiting s.state ≡ 0 →
    AllByRecursion IsListing (first ∷ others) →
    accepted commands replies ≡ changes_through first others →
    IsOutlook t.state outlook →
    read_paths (keys_of first) replies outlook ≡ keys_of (last_of first others)
