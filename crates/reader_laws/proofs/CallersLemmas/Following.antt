-- A run that follows listings goes on: by what changed up to one more, and by a tick.
use Rattle.std.proofs.Common.{◌≡◌, ◌∙◌, sym, ap, refl, subst, ℕ, true, List, [], ◌∷◌, ◌++◌, append_assoc}
use Rattle.std.specs.List.{AllByRecursion}
use Rattle.std.specs.List.Sorted.{IsStrictlySortedBy}
use Rattle.std.proofs.lemmas.List.{append-nil}
use Rattle.debounce_cache.specs.declared.cache.NoCache.{NoCache}
use Rattle.notify_paths.specs.Path.{path_cmp}
use Rattle.notify_types.specs.Event.{EventValue, Timed}
use Rattle.debounce_model.specs.Cache.{Rules, no_numbers}
use Rattle.debounce_model.specs.Command.{CommandValue, EventCommand, TickCommand, ReplyValue, TakenReply, BatchReply}
use Rattle.debounce_model.specs.PathsLaw.{emitted}
use Rattle.debounce_model.specs.Play.{Paths, accepted, events_of, play}
use Rattle.debounce_model.specs.Run.{Run, Step}
use Rattle.debounce_model.specs.State.{Core, waiting}
use Rattle.debounce_model.specs.Step.{IsTaken}
use Rattle.debounce_model.specs.WellFormed.{IsWellFormed}
use Rattle.debounce_model.proofs.OrderLemmas.{map-push}
use Rattle.debounce_model.proofs.RunLemmas.{run-push}
use Rattle.debounce_laws.proofs.KeptLemmas.{accepted-cons}
use Rattle.poll_listing.specs.Changes.{changes}
use Rattle.poll_listing.specs.Listing.{ListingValue, IsListing}
use Rattle.reader_paths.proofs.ReplyLemmas.{play_batch-first}
use Rattle.reader_laws.specs.Listings.{changes_through, last_of}
use Rattle.reader_laws.specs.Callers.Followed.{commands_at, TakesAll, IsFollowed}

-- a run and another one after it are a run
run-append : {C : Type 0} (r : Rules C) (s m t : Core C) (cs ds : List CommandValue) (ys zs : List ReplyValue) →
    Run r s cs ys m → Run r m ds zs t → Run r s (cs ++ ds) (ys ++ zs) t
run-append r s m t [] ds [] zs e more = subst (λ (k : Core _). Run r k ds zs t) e more
run-append r s m t [] ds (y ∷ ys) zs e more = absurd e
run-append r s m t (c ∷ cs) ds [] zs e more = absurd e
run-append r s m t (c ∷ cs) ds (y ∷ ys) zs (k, first, rest) more =
    (k, first, run-append r k m t cs ds ys zs rest more)

-- what a run accepted, and then what is accepted after it
accepted-append : {C : Type 0} (r : Rules C) (s m : Core C) (cs ds : List CommandValue) (ys zs : List ReplyValue) →
    Run r s cs ys m → accepted (cs ++ ds) (ys ++ zs) ≡ accepted cs ys ++ accepted ds zs
accepted-append r s m [] ds [] zs e = refl
accepted-append r s m [] ds (y ∷ ys) zs e = absurd e
accepted-append r s m (c ∷ cs) ds [] zs e = absurd e
accepted-append r s m (c ∷ cs) ds (y ∷ ys) zs (k, first, rest) =
    let one = accepted (c ∷ []) (y ∷ []) in
    accepted-cons c y (cs ++ ds) (ys ++ zs)
    ∙ ap (λ es. one ++ es) (accepted-append r k m cs ds ys zs rest)
    ∙ sym (append_assoc one (accepted cs ys) (accepted ds zs))
    ∙ sym (ap (λ es. es ++ accepted ds zs) (accepted-cons c y cs ys))

-- what replies emit, and then what the others do
emitted-append : (ys zs : List ReplyValue) → emitted (ys ++ zs) ≡ emitted ys ++ emitted zs
emitted-append [] zs = refl
emitted-append (BatchReply batch ∷ ys) zs =
    ap (λ es. batch ++ es) (emitted-append ys zs) ∙ sym (append_assoc batch (emitted ys) (emitted zs))
emitted-append (y ∷ ys) zs = emitted-append ys zs

-- the changes up to one more listing
through-push : (first : ListingValue) (others : List ListingValue) (next : ListingValue) →
    changes_through first (others ++ next ∷ []) ≡ changes_through first others ++ changes (last_of first others) next
through-push first [] next = append-nil (changes first next)
through-push first (other ∷ others) next =
    ap (λ es. changes first other ++ es) (through-push other others next)
    ∙ sym (append_assoc (changes first other) (changes_through other others) (changes (last_of other others) next))

-- one more listing is the last
last-push : (first : ListingValue) (others : List ListingValue) (next : ListingValue) →
    last_of first (others ++ next ∷ []) ≡ next
last-push first [] next = refl
last-push first (other ∷ others) next = last-push other others next

-- one more of which it holds
all-push : {X : Type 0} (P : X → Type 0) (xs : List X) (x : X) → AllByRecursion P xs → P x →
    AllByRecursion P (xs ++ x ∷ [])
all-push P [] x all holds = (holds, all)
all-push P (y ∷ ys) x all holds = (all.0, all-push P ys x all.1 holds)

-- no event
pub taken_nothing : (s : Core NoCache) (now : ℕ) → TakesAll s [] now s
taken_nothing s now = ([], refl, refl, refl)

-- one more event
pub taken_more : (s m t : Core NoCache) (events : List EventValue) (event : EventValue) (now : ℕ) →
    TakesAll s events now m → IsTaken no_numbers m event now true t → TakesAll s (events ++ event ∷ []) now t
taken_more s m t events event now (replies, run, told, silent) step =
    let command : CommandValue = EventCommand event now true in
    let reply : ReplyValue = TakenReply t.answer in
    let told_more = accepted-append no_numbers s m (commands_at events now) (command ∷ []) replies (reply ∷ []) run
    ∙ ap (λ es. es ++ event ∷ []) told in
    rw (map-push (λ (e : EventValue). EventCommand e now true) events event) (
      replies ++ reply ∷ [],
      run-push no_numbers s m t (commands_at events now) replies command reply run (step, refl),
      told_more,
      emitted-append replies (reply ∷ []) ∙ append-nil (emitted replies) ∙ silent,
    )

-- no path is in order
nothing_in_order : IsStrictlySortedBy path_cmp []
unfolding IsStrictlySortedBy
nothing_in_order = tt

-- the listing of nothing
no_entries : IsListing []
no_entries = record { ordered = nothing_in_order; nonempty = refl; closed = refl }

-- at the start
pub followed_nothing : (start : Core NoCache) → IsWellFormed start.state → waiting start.state ≡ 0 →
    IsFollowed start [] []
followed_nothing start laws none = record {
  start = start;
  commands = [];
  replies = [];
  others = [];
  run = refl;
  laws = laws;
  none = none;
  listings = (no_entries, tt);
  told = refl;
  ends = refl;
  read = refl;
}

-- after what changed up to one more listing
pub followed_more : (core t : Core NoCache) (last next : ListingValue) (reader : Paths) (now : ℕ) →
    IsFollowed core last reader → IsListing next → TakesAll core (changes last next) now t → IsFollowed t next reader
followed_more core t last next reader now old listing (replies, run, told, silent) = record {
  start = old.start;
  commands = old.commands ++ commands_at (changes last next) now;
  replies = old.replies ++ replies;
  others = old.others ++ next ∷ [];
  run = run-append no_numbers old.start core t old.commands (commands_at (changes last next) now) old.replies
      replies old.run run;
  laws = old.laws;
  none = old.none;
  listings = all-push IsListing ([] ∷ old.others) next old.listings listing;
  told = accepted-append no_numbers old.start core old.commands (commands_at (changes last next) now) old.replies
      replies old.run
      ∙ ap (λ es. es ++ accepted (commands_at (changes last next) now) replies) old.told
      ∙ ap (λ es. changes_through [] old.others ++ es) told
      ∙ ap (λ l. changes_through [] old.others ++ changes l next) (sym old.ends)
      ∙ sym (through-push [] old.others next);
  ends = last-push [] old.others next;
  read = old.read
      ∙ ap (λ es. play [] (events_of es))
      (sym (emitted-append old.replies replies ∙ ap (λ es. emitted old.replies ++ es) silent
      ∙ append-nil (emitted old.replies)));
}

-- after a tick, whose batch the reader played
pub followed_tick : (core t : Core NoCache) (last : ListingValue) (reader : Paths) (now : ℕ) (batch : List Timed) →
    IsFollowed core last reader → Step no_numbers core (TickCommand now) (BatchReply batch) t →
    IsFollowed t last (play reader (events_of batch))
followed_tick core t last reader now batch old step = record {
  start = old.start;
  commands = old.commands ++ TickCommand now ∷ [];
  replies = old.replies ++ BatchReply batch ∷ [];
  others = old.others;
  run = run-push no_numbers old.start core t old.commands old.replies (TickCommand now) (BatchReply batch) old.run step;
  laws = old.laws;
  none = old.none;
  listings = old.listings;
  told = accepted-append no_numbers old.start core old.commands (TickCommand now ∷ []) old.replies
      (BatchReply batch ∷ []) old.run
      ∙ append-nil (accepted old.commands old.replies) ∙ old.told;
  ends = old.ends;
  read = ap (λ p. play p (events_of batch)) old.read
      ∙ sym (play_batch-first [] (emitted old.replies) batch)
      ∙ ap (λ es. play [] (events_of es))
      (sym (emitted-append old.replies (BatchReply batch ∷ [])
      ∙ ap (λ es. emitted old.replies ++ es) (append-nil batch)));
}
