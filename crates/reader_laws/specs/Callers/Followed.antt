-- What goes from listings through a debouncer to a reader.
use Rattle.std.specs.Prelude.{◌≡◌, ℕ, true, List, [], ◌∷◌, map}
use Rattle.std.specs.List.{AllByRecursion}
use Rattle.debounce_cache.specs.declared.cache.NoCache.{NoCache}
use Rattle.notify_types.specs.Event.{EventValue, Timed}
use Rattle.debounce_model.specs.Cache.{no_numbers}
use Rattle.debounce_model.specs.Command.{CommandValue, EventCommand, ReplyValue}
use Rattle.debounce_model.specs.PathsLaw.{emitted}
use Rattle.debounce_model.specs.Play.{Paths, accepted, events_of, play}
use Rattle.debounce_model.specs.Run.{Run}
use Rattle.debounce_model.specs.State.{Core, State, waiting}
use Rattle.debounce_model.specs.Tick.{IsOutlook}
use Rattle.debounce_model.specs.WellFormed.{IsWellFormed}
use Rattle.poll_listing.specs.Listing.{ListingValue, IsListing}
use Rattle.reader_laws.specs.Listings.{changes_through, last_of}

-- the events as commands at one moment; their paths exist
abbrev pub commands_at : List EventValue → ℕ → List CommandValue
commands_at events now = map (λ event. EventCommand event now true) events

-- from s a debouncer without a cache takes all these events at one moment, and emits nothing
abbrev pub TakesAll : Core NoCache → List EventValue → ℕ → Core NoCache → Type 0
TakesAll s events now t =
    (replies : List ReplyValue) × Run no_numbers s (commands_at events now) replies t
    × (accepted (commands_at events now) replies ≡ events) × (emitted replies ≡ [])

-- these are the paths that a reader has who had some, once it has also played what is pending
abbrev pub ReadsTheRest : State → Paths → Paths → Type 0
ReadsTheRest state reader paths =
    (outlook : List Timed) × IsOutlook state outlook × (paths ≡ play reader (events_of outlook))

-- a debouncer, the last listing that it was told of, and what a reader has who played its batches
pub record Followed : Type 0 where
  pub core : Core NoCache
  pub last : ListingValue
  pub reader : Paths

-- the debouncer took just the changes from the listing of nothing on to this one, and the reader played its batches
pub record IsFollowed (core : Core NoCache) (last : ListingValue) (reader : Paths) : Type 0 where
  pub start : Core NoCache
  pub commands : List CommandValue
  pub replies : List ReplyValue
  pub others : List ListingValue
  pub run : Run no_numbers start commands replies core
  pub laws : IsWellFormed start.state
  pub none : waiting start.state ≡ 0
  pub listings : AllByRecursion IsListing ([] ∷ others)
  pub told : accepted commands replies ≡ changes_through [] others
  pub ends : last_of [] others ≡ last
  pub read : reader ≡ play [] (events_of (emitted replies))
