-- What an event makes of queues whose joined renames are founded: they stay so, on the accepted events and this one.
use Rattle.std.proofs.Common.{◌≡◌, ℕ, ◌-◌, Bool, true, false, List, [], ◌∷◌, ◌++◌, refl, Option, Some, None, length}
use Rattle.std.specs.List.{AllByRecursion}
use Rattle.notify_types.specs.Event.{first_of, Timed, AttributesValue}
use Rattle.notify_paths.specs.Path.{PathValue}
use Rattle.debounce_model.specs.declared.case.Case.{Case}
use Rattle.debounce_model.specs.declared.case.Case.TheVariants.{Rescan, Creation, Removal, RenameFrom, RenameTo, Plain, Ignored}
use Rattle.debounce_model.specs.declared.file_id.FileId.{FileId}
use Rattle.debounce_model.specs.Due.{rests}
use Rattle.debounce_model.specs.Founded.{AcceptedEvent, Matched}
use Rattle.debounce_model.specs.Moved.{joined_rename, began}
use Rattle.debounce_model.specs.Queues.{Queues, queue_at, push, removal, waiting_in, events_at}
use Rattle.debounce_model.specs.Rename.{without_last, without_both, staying, left_behind, arrived, joined_halves, is_both}
use Rattle.debounce_model.specs.RenameSlot.{first_half}
use Rattle.debounce_model.specs.State.{State}
use Rattle.debounce_model.specs.Table.{case_of, renamed_to, row, taken_step}
use Rattle.debounce_model.specs.WellFormed.{IsFirst}
use Rattle.debounce_laws.proofs.EachQueue.{Each, each-set, each-at, each-push, each-removal, each-left, each-along, each-rests, each-none}
use Rattle.debounce_laws.proofs.FoundedGrows.{founded-more}
use Rattle.debounce_laws.proofs.Halves.{IsLast, half_matched}
use Rattle.debounce_laws.proofs.RenamedQueues.{IsRenamedTo, IsRenamedQueue, renamed-none, renamed-plain, renamed-append, renamed-rest, renamed-take, renamed-staying}
use Rattle.debounce_laws.proofs.RenamedArrivals.{renamed-arrived, renamed-moved}
use Rattle.debounce_model.proofs.TableLemmas.{acts, acting_event}

-- the joined renames of all queues are founded, and each queue has one at most
abbrev pub AreRenamed : List AcceptedEvent → Queues → Type 0
AreRenamed history queues = Each (IsRenamedQueue history) queues

-- .. where nothing waits
pub renamed-empty : (queues : Queues) → waiting_in queues ≡ 0 → AreRenamed [] queues
renamed-empty queues h = each-none (IsRenamedQueue []) queues (renamed-none []) h

module _ (history more : List AcceptedEvent) where
  -- the events of a queue stay founded
  events-more : (p : PathValue) (xs : List Timed) → AllByRecursion (IsRenamedTo history p) xs →
      AllByRecursion (IsRenamedTo (history ++ more) p) xs
  events-more p [] a = tt
  events-more p (x ∷ xs) a = (
    (λ h. let told = a.0 h in (told.0, told.1, founded-more history more told.2)),
    events-more p xs a.1,
  )

  -- .. of all queues
  pub renamed-more : (queues : Queues) → AreRenamed history queues → AreRenamed (history ++ more) queues
  renamed-more [] a = tt
  renamed-more (e ∷ queues) a =
      (record { each = events-more e.0 e.1 a.0.each; one = a.0.one }, renamed-more queues a.1)

module _ (history : List AcceptedEvent) where
  -- after a push of what is no joined rename
  renamed-push : (queues : Queues) (p : PathValue) (x : Timed) → AreRenamed history queues → is_both x ≡ false →
      AreRenamed history (push queues p x)
  renamed-push queues p x a n =
      each-push (IsRenamedQueue history) queues p x a (renamed-none history p) (λ q r. renamed-append history p
      q x r n)

  -- after a removal
  renamed-removal : (queues : Queues) (p : PathValue) (x : Timed) → AreRenamed history queues →
      is_both x ≡ false → AreRenamed history (removal queues p x)
  renamed-removal queues p x a n =
      each-removal (IsRenamedQueue history) queues p x a (renamed-plain history p x n)

  -- after a joined rename, at its two paths
  renamed-halves : (queues : Queues) (f t : PathValue) (time : ℕ) (attrs : AttributesValue) →
      Matched history f t → AreRenamed history queues → AreRenamed history (joined_halves queues f t time attrs)
  renamed-halves queues f t time attrs m a =
      each-set (IsRenamedQueue history) left t (arrived events (queue_at left t) f t time attrs)
      (each-left (IsRenamedQueue history) queues f (staying (without_both events))
      a (λ x e. renamed-staying history f events x waited e))
      (renamed-arrived history f t time attrs events (queue_at left t) m waited)
    where
      events : List Timed
      events = without_last (events_at queues f)

      left : Queues
      left = left_behind queues f (staying (without_both events))

      waited : IsRenamedQueue history f events
      waited = renamed-take history (length (events_at queues f) - 1) f (events_at queues f)
          (each-at (IsRenamedQueue history) queues f a (renamed-none history f))

  -- .. and below them
  renamed-joined : (queues : Queues) (f t : PathValue) (time : ℕ) (attrs : AttributesValue) →
      Matched history f t → AreRenamed history queues → AreRenamed history (joined_rename queues f t time attrs)
  renamed-joined queues f t time attrs m a =
      each-along (IsRenamedQueue history) (joined_halves queues f t time attrs) f t (began queues f time)
      (λ apart p q b r. renamed-moved history f t (began queues f time) m apart p q b r)
      (renamed-halves queues f t time attrs m a)

  -- after a second half, which is matched where it is joined
  renamed-second : (queues : Queues) (p : PathValue) (x : Timed) (half : Option (PathValue × ℕ)) →
      ((f : PathValue) (time : ℕ) → half ≡ Some (f, time) → Matched history f p) → AreRenamed history queues →
      is_both x ≡ false → AreRenamed history (renamed_to queues p x half)
  renamed-second queues p x None m a n = renamed-push queues p x a n
  renamed-second queues p x (Some (f, time)) m a n =
      renamed-joined queues f p time x.event.attrs (m f time refl) a

  -- after a tick
  pub renamed-rests : (due : Timed → Bool) (queues : Queues) → AreRenamed history queues →
      AreRenamed history (rests due queues)
  renamed-rests due queues a =
      each-rests (IsRenamedQueue history) due queues (λ p q r. renamed-rest history due p q r) a

-- after any event
pub renamed-event : (history : List AcceptedEvent) (s : State) (x : Timed) (exists : Bool)
    (answer : Option FileId) → IsLast history s.rename_slot → AreRenamed history s.queues →
    AreRenamed (history ++ record { event = x.event; exists = exists; answer = answer } ∷ [])
    (taken_step s x exists answer).queues
renamed-event history s x exists answer l before = at (case_of x.event exists) refl (acting_event x exists)
  where
    next : List AcceptedEvent
    next = history ++ record { event = x.event; exists = exists; answer = answer } ∷ []

    p : PathValue
    p = first_of x.event.paths

    a : AreRenamed next s.queues
    a = renamed-more history (record { event = x.event; exists = exists; answer = answer } ∷ []) s.queues before

    at : (c : Case) → case_of x.event exists ≡ c →
        (acts c ≡ true → (is_both x ≡ false) × IsFirst p x.event.paths) →
        AreRenamed next (row c s x p answer).queues
    at Rescan c n = a
    at Creation c n = renamed-push next s.queues p x a (n refl).0
    at Removal c n = renamed-removal next s.queues p x a (n refl).0
    at RenameFrom c n = renamed-push next s.queues p x a (n refl).0
    at RenameTo c n =
        renamed-second next s.queues p x (first_half s.rename_slot x.event answer)
        (λ f time h. half_matched history s.rename_slot x.event exists answer f p time l h c (n refl).1) a
        (n refl).0
    at Plain c n = renamed-push next s.queues p x a (n refl).0
    at Ignored c n = a
