-- What is known once the worker has ended.
use Rattle.std.proofs.Common.{◌≡◌, ℕ, List, [], ◌∷◌, Option, Some, None, Result, Ok, Err, IfOk, refl, subst, ap, ◌∙◌}
use Rattle.std.specs.declared.vec.Vec.{Vec}
use Rattle.notify_paths.specs.Errors.{ErrorValue}
use Rattle.debounce_model.specs.Cache.{Rules}
use Rattle.notify_watch.specs.declared.config.Config.{Config}
use Rattle.notify_watch.specs.Handler.{IsCalledOn, IsCalledWith}
use Rattle.debounce_book.specs.Book.{Kept}
use Rattle.debounce_book.specs.Journal.{EntryValue}
use Rattle.debounce_book.proofs.JournalRuns.{journal_gives_raw_paths, journal_invents_no_rename, journal_loses_no_change}
use Rattle.debounce_lock.specs.History.{picked}
use Rattle.debounce_run.specs.Access.Aged.{AreAged}
use Rattle.debounce_run.specs.Access.Happened.{History, entries_of, is_emitting}
use Rattle.debounce_run.specs.Access.Stands.{HasAllFed, IsTold, Known, ToldJournal}
use Rattle.debounce_run.proofs.AccessLemmas.Aged.{journal_is_aged}
use Rattle.debounce_run.proofs.AccessLemmas.Runs.{ran_legal, ran_numbers}
use Rattle.debounce_run.specs.Turns.Ended.{EndsJournal, FeedComesBack, IsEnded, IsEndedFed, IsFinished}

-- a feed stays of its lock, however often it is called
pub stays_of : {X : Type 0} (handles : Known → X → Known → Type 0)
    → ((old : Known) (item : X) (new : Known) → handles old item new → new.lock ≡ old.lock)
    → (begun now : Known) → IsCalledOn handles begun now → now.lock ≡ begun.lock
stays_of {X} handles stays begun now (items, called) = by items begun called
  where
    by : (xs : List X) (k : Known) → IsCalledWith handles xs k now → now.lock ≡ k.lock
    by [] k same = ap (λ (n : Known). n.lock) same
    by (x ∷ xs) k (between, one, rest) = by xs between rest ∙ stays k x between one

-- the feed with which the watcher was made
same_made : (a b : Known × Config) → Some a ≡ Some b → a ≡ b
same_made a b same = cc

pub comes_back : {Last : Type 0} (ends : Known → Config → Known → Last → Type 0) (begun : Known) (config : Config)
    (now : Known) (found : Last) (log : History) → ends begun config now found → HasAllFed now.seen log
    → FeedComesBack ends (Some (begun, config)) (Some found) log
comes_back ends begun config now found log ended all_fed = λ b c same. (
  now,
  found,
  refl,
  subst (λ (m : Known × Config). ends m.0 m.1 now found) (same_made (begun, config) (b, c) same) ended,
  all_fed,
)

-- a debouncer that is fed by hand has none
pub none_comes_back : {Last : Type 0} (ends : Known → Config → Known → Last → Type 0) (last : Option Last)
    (log : History) → FeedComesBack ends None last log
none_comes_back ends last log = λ b c same. absurd (cc)

module _ {L : Type 0} (tells : L → History → Type 0) (left : L) where
  -- what is left tells all that was emitted
  pub ends : {C : Type 0} {r : Rules C} (seen told : History) (parts : List EntryValue) (book : Kept C) (count : ℕ)
      → IsTold r seen told parts book count → tells left (picked is_emitting told)
      → IsEnded r tells left seen parts book count
  ends {C} {r} seen told parts book count (log, goes, begins, led, ran, same) says = record {
    log = log;
    goes_on = goes;
    leads = led;
    ran = ran;
    told = subst (tells left) same says;
    aged = journal_is_aged (entries_of log) book.core.state led.legal;
    unnumbered = λ none. ran_numbers r none (entries_of log) book.core ran;
    raw = λ rest shown paths ordered honest. journal_gives_raw_paths book.core.state.timeout (entries_of log)
        book.core.state refl led.legal paths rest ordered honest shown;
    kept = journal_loses_no_change book.core.state.timeout (entries_of log);
    founded = journal_invents_no_rename book.core.state.timeout (entries_of log);
  }

  -- .. and the feed has seen all that was fed
  pub ends_fed : {C : Type 0} {r : Rules C} (seen told fed : History) (parts : List EntryValue) (book : Kept C)
      (count : ℕ)
      → ((all : IsTold r seen told parts book count) × HasAllFed fed all.0) → tells left (picked is_emitting told)
      → IsEndedFed r tells left seen fed parts book count
  unfolding ends
  ends_fed seen told fed parts book count ((log, goes, begins, led, ran, same), all_fed) says = record {
    ended = ends seen told parts book count (log, goes, begins, led, ran, same) says;
    all_fed = all_fed;
  }

  -- .. whose watcher's work has ended, and has brought the feed back
  pub finishes : {C Last : Type 0} {r : Rules C} (ends_so : Known → Config → Known → Last → Type 0) (begun : Known)
      (config : Config) (now : Known) (found : Last) (seen told : History) (parts : List EntryValue) (book : Kept C)
      (count : ℕ)
      → ((all : IsTold r seen told parts book count) × HasAllFed now.seen all.0) → tells left (picked is_emitting told)
      → ends_so begun config now found
      → IsFinished r ends_so (Some (begun, config)) (Some found) tells left seen parts book count
  unfolding ends
  finishes ends_so begun config now found seen told parts book count ((log, goes, begins, led, ran, same), all_fed) says
      end =
      record {
        ended = ends seen told parts book count (log, goes, begins, led, ran, same) says;
        fed = comes_back ends_so begun config now found log end all_fed;
      }

  -- .. and if it was fed by hand
  pub finishes_by_hand : {C Last : Type 0} {r : Rules C} (ends_so : Known → Config → Known → Last → Type 0)
      (last : Option Last) (seen told : History) (parts : List EntryValue) (book : Kept C) (count : ℕ)
      → IsTold r seen told parts book count → tells left (picked is_emitting told)
      → IsFinished r ends_so None last tells left seen parts book count
  finishes_by_hand ends_so last seen told parts book count all says = record {
    ended = ends seen told parts book count all says;
    fed = none_comes_back ends_so last (ends seen told parts book count all says).log;
  }

  pub ends_journal : {A C : Type 0} (r : Rules C) (seen told : History) (res : Result (ℕ × Vec EntryValue A) ErrorValue)
      → IfOk res (λ j. ToldJournal r seen told j.0 j.1.items) → tells left (picked is_emitting told)
      → IfOk res (λ j. (l : L) × EndsJournal r tells l seen j.0 j.1.items)
  ends_journal r seen told (Ok j) (log, goes, begins, opened, (core, timeout, ran), all, same) says = (
    left,
    record {
      log = log;
      goes_on = goes;
      opened = opened;
      ran = (core, timeout, ran);
      aged =
          subst (λ n. AreAged n 0 (entries_of log)) timeout (journal_is_aged (entries_of log) core.state
          (ran_legal r (entries_of log) core ran));
      unnumbered = λ none. ran_numbers r none (entries_of log) core ran;
      is_all = all;
      told = subst (tells left) same says;
    },
  )
  ends_journal r seen told (Err e) given says = tt
