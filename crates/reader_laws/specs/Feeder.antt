-- What a reader has of what a debouncer's feed was given, if nothing was missed.
use Rattle.std.specs.Prelude.{◌≡◌, List, []}
use Rattle.std.specs.Map.{keys_of}
use Rattle.notify_types.specs.Event.{Timed}
use Rattle.debounce_model.specs.PathsLaw.{read_paths}
use Rattle.debounce_model.specs.State.{State}
use Rattle.debounce_model.specs.Tick.{IsOutlook}
use Rattle.debounce_book.specs.Journal.{IsLegal}
use Rattle.debounce_book.specs.JournalLaws.{replies_of}
use Rattle.debounce_lock.specs.History.{picked}
use Rattle.debounce_run.specs.Access.Adds.{FeedsItem}
use Rattle.debounce_run.specs.Access.Happened.{History, entries_of, is_fed, missed_in}
use Rattle.debounce_run.specs.Access.Stands.{HasAllFed, Known}
use Rattle.poll_listing.specs.Listing.{ListingValue}
use Rattle.poll_rounds.specs.Reports.{Reported}

-- the feed was given just what steps from the listing of nothing to this one reported, nothing else was fed in the
-- history, and nothing was missed: who plays every batch of it from no paths, and then what waits, has the listing's
abbrev pub ReaderHasTheLastListing : Type 0
ReaderHasTheLastListing =
    (begun now : Known) (last : ListingValue) (log : History) (state : State) (rest : List Timed) →
    picked is_fed begun.seen ≡ [] →
    Reported FeedsItem begun last now →
    HasAllFed now.seen log →
    missed_in log ≡ 0 →
    IsLegal (entries_of log) state →
    IsOutlook state rest →
    read_paths [] (replies_of (entries_of log)) rest ≡ keys_of last
