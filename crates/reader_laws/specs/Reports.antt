-- What a reader has of the steps of a watcher that reports all.
use Rattle.std.specs.Prelude.{◌≡◌, List, [], Result}
use Rattle.std.specs.Map.{keys_of}
use Rattle.notify_paths.specs.Errors.{ErrorValue}
use Rattle.notify_types.specs.Event.{EventValue, Timed}
use Rattle.debounce_model.specs.Cache.{Rules}
use Rattle.debounce_model.specs.Command.{CommandValue, ReplyValue}
use Rattle.debounce_model.specs.PathsLaw.{read_paths}
use Rattle.debounce_model.specs.Play.{accepted}
use Rattle.debounce_model.specs.Run.{Run}
use Rattle.debounce_model.specs.State.{Core, waiting}
use Rattle.debounce_model.specs.Tick.{IsOutlook}
use Rattle.debounce_model.specs.WellFormed.{IsWellFormed}
use Rattle.poll_listing.specs.Listing.{ListingValue}
use Rattle.poll_rounds.specs.Reports.{Notes, Reported}

-- a run from where nothing waits that takes just the events of some steps, the first from the listing of nothing on,
-- leaves a reader of no paths, after the batches and the outlook, with those of the last listing
abbrev pub ReaderHasWhatIsReported : {C H : Type 0} → Rules C → (H → Result EventValue ErrorValue → H → Type 0) →
    Type 0
ReaderHasWhatIsReported {C} {H} r handles =
    (notes : H → List EventValue) (begun : H) (last : ListingValue) (now : H)
    (s t : Core C) (commands : List CommandValue) (replies : List ReplyValue) (outlook : List Timed) →
    Notes handles notes →
    notes begun ≡ [] →
    Reported handles begun last now →
    Run r s commands replies t →
    IsWellFormed s.state →
    waiting s.state ≡ 0 →
    accepted commands replies ≡ notes now →
    IsOutlook t.state outlook →
    read_paths [] replies outlook ≡ keys_of last
