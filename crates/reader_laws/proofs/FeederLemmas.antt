-- Of what a feed was given, a reader has the last listing, if nothing was missed.
use Rattle.std.proofs.Common.{◌≡◌, ◌∙◌, ap, refl, subst, []}
use Rattle.std.specs.Map.{keys_of}
use Rattle.debounce_book.proofs.JournalRuns.{journal_gives_raw_paths}
use Rattle.debounce_run.specs.Access.Adds.{FeedsItem}
use Rattle.debounce_run.specs.Access.Happened.{entries_of, missed_in}
use Rattle.poll_listing.specs.Changes.{LeadsTo}
use Rattle.reader_laws.specs.Feeder.{ReaderHasTheLastListing}
use Rattle.reader_laws.proofs.FedLemmas.{feed_notes, misses_of, missed_picked, noted, noted_picked, notes_of}
use Rattle.reader_laws.proofs.ReportLemmas.{none_sorted, reported_leads}
use Rattle.reader_laws.proofs.Unmissed.{HandlesWhole, notes_whole, reported_whole}

-- it is a chain of changes from nothing to the last listing, and the history is legal
pub reader_has_the_last_listing : ReaderHasTheLastListing
reader_has_the_last_listing begun now last log state rest none reported all nothing legal shown =
    let whole : misses_of now ≡ 0 = ap missed_in all.1 ∙ missed_picked log ∙ nothing in
    let told : notes_of now ≡ noted log = ap noted all.1 ∙ noted_picked log in
    let lead : LeadsTo [] (keys_of last) (notes_of now) =
    reported_leads (HandlesWhole FeedsItem (λ f. misses_of f ≡ 0)) notes_of
    (notes_whole FeedsItem (λ f. misses_of f ≡ 0) notes_of feed_notes) begun last now (ap noted none)
    (reported_whole FeedsItem (λ f. misses_of f ≡ 0) notes_of feed_notes begun last now reported whole) in
    let led : LeadsTo [] (keys_of last) (noted log) = subst (λ es. LeadsTo [] (keys_of last) es) told lead in
    journal_gives_raw_paths state.timeout (entries_of log) state refl legal [] rest none_sorted
    (record { closed = led.closed; events = led.honest }) shown ∙ led.played
