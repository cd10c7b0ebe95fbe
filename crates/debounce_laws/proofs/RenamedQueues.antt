-- A queue of whose events one at most is a joined rename, which is founded: what keeps it so.
use Rattle.std.proofs.Common.{◌≡◌, ℕ, zero, suc, Bool, true, false, cond, List, [], ◌∷◌, ◌++◌, refl, sym, ◌∙◌, Some, take, true≢false}
use Rattle.std.specs.List.{AllByRecursion}
use Rattle.notify_types.specs.Event.{Timed}
use Rattle.notify_paths.specs.Path.{PathValue}
use Rattle.debounce_model.specs.Due.{rest_after}
use Rattle.debounce_model.specs.Founded.{AcceptedEvent, Founded}
use Rattle.debounce_model.specs.Moved.{moved_event, moved_queue}
use Rattle.debounce_model.specs.Rename.{is_both, without_both, staying}
use Rattle.debounce_model.specs.WellFormed.{HasNoBoth}
use Rattle.debounce_model.proofs.GoodQueues.{no_both-append}
use Rattle.debounce_model.proofs.RenameLemmas.{each-take, each-without_both, each-staying}

-- an event, if it is a joined rename, has two paths, of which this is the second, and is founded
abbrev pub IsRenamedTo : List AcceptedEvent → PathValue → Timed → Type 0
IsRenamedTo history p x = is_both x ≡ true → (o : PathValue) × (x.event.paths ≡ o ∷ p ∷ [])
    × Founded history o p

-- the queue of a path: so is each of its events, and one at most is a joined rename
pub record IsRenamedQueue (history : List AcceptedEvent) (p : PathValue) (xs : List Timed) : Type 0 where
  pub each : AllByRecursion (IsRenamedTo history p) xs
  pub one : HasNoBoth (without_both xs)

-- .. among the first events
one-take : (n : ℕ) (xs : List Timed) → HasNoBoth (without_both xs) → HasNoBoth (without_both (take n xs))
one-take zero xs h = tt
one-take (suc n) [] h = tt
one-take (suc n) (x ∷ xs) h = by (is_both x) h (one-take n xs)
  where
    by : (b : Bool) → HasNoBoth (cond b xs (x ∷ without_both xs)) →
        (HasNoBoth (without_both xs) → HasNoBoth (without_both (take n xs))) →
        HasNoBoth (cond b (take n xs) (x ∷ without_both (take n xs)))
    by true h more = each-take (λ y. is_both y ≡ false) n xs h
    by false h more = (h.0, more h.1)

-- .. behind the first
one-tail : (x : Timed) (xs : List Timed) → HasNoBoth (without_both (x ∷ xs)) → HasNoBoth (without_both xs)
one-tail x xs h = by (is_both x) h
  where
    by : (b : Bool) → HasNoBoth (cond b xs (x ∷ without_both xs)) → HasNoBoth (without_both xs)
    by true h = each-without_both (λ y. is_both y ≡ false) xs h
    by false h = h.1

-- .. with an event behind them that is none
one-append : (xs : List Timed) (x : Timed) → HasNoBoth (without_both xs) → is_both x ≡ false →
    HasNoBoth (without_both (xs ++ x ∷ []))
one-append [] x h n = rw n (n, tt)
one-append (y ∷ xs) x h n = by (is_both y) h (λ k. one-append xs x k n)
  where
    by : (b : Bool) → HasNoBoth (cond b xs (y ∷ without_both xs)) →
        (HasNoBoth (without_both xs) → HasNoBoth (without_both (xs ++ x ∷ []))) →
        HasNoBoth (cond b (xs ++ x ∷ []) (y ∷ without_both (xs ++ x ∷ [])))
    by true h more = no_both-append xs x h n
    by false h more = (h.0, more h.1)

-- .. after a move
pub one-moved : (f t : PathValue) (time : ℕ) (xs : List Timed) → HasNoBoth (without_both xs) →
    HasNoBoth (without_both (moved_queue f t time xs))
one-moved f t time [] h = tt
one-moved f t time (x ∷ xs) h = by (is_both x) h (one-moved f t time xs)
  where
    all : (ys : List Timed) → HasNoBoth ys → HasNoBoth (moved_queue f t time ys)
    all [] k = tt
    all (y ∷ ys) k = (k.0, all ys k.1)

    by : (b : Bool) → HasNoBoth (cond b xs (x ∷ without_both xs)) →
        (HasNoBoth (without_both xs) → HasNoBoth (without_both (moved_queue f t time xs))) →
        HasNoBoth (cond b (moved_queue f t time xs)
        (moved_event f t time x ∷ without_both (moved_queue f t time xs)))
    by true h more = all xs h
    by false h more = (h.0, more h.1)

module _ (history : List AcceptedEvent) where
  -- nothing waits
  pub renamed-none : (p : PathValue) → IsRenamedQueue history p []
  renamed-none p = record { each = tt; one = tt }

  -- an event that is no joined rename
  pub plain_event : (p : PathValue) (x : Timed) → is_both x ≡ false → IsRenamedTo history p x
  plain_event p x n h = absurd (true≢false (sym h ∙ n))

  -- .. each of them
  pub plain_events : (p : PathValue) (xs : List Timed) → HasNoBoth xs →
      AllByRecursion (IsRenamedTo history p) xs
  plain_events p [] n = tt
  plain_events p (x ∷ xs) n = (plain_event p x n.0, plain_events p xs n.1)

  -- one event alone
  pub renamed-alone : (p : PathValue) (x : Timed) → IsRenamedTo history p x → IsRenamedQueue history p (x ∷ [])
  renamed-alone p x h = record { each = (h, tt); one = by (is_both x) refl }
    where
      by : (b : Bool) → is_both x ≡ b → HasNoBoth (cond b [] (x ∷ []))
      by true e = tt
      by false e = (e, tt)

  -- .. that is no joined rename
  pub renamed-plain : (p : PathValue) (x : Timed) → is_both x ≡ false → IsRenamedQueue history p (x ∷ [])
  renamed-plain p x n = renamed-alone p x (plain_event p x n)

  -- an event behind the others that is none
  pub renamed-append : (p : PathValue) (xs : List Timed) (x : Timed) → IsRenamedQueue history p xs →
      is_both x ≡ false → IsRenamedQueue history p (xs ++ x ∷ [])
  renamed-append p xs x q n = record { each = behind xs q.each; one = one-append xs x q.one n }
    where
      behind : (ys : List Timed) → AllByRecursion (IsRenamedTo history p) ys →
          AllByRecursion (IsRenamedTo history p) (ys ++ x ∷ [])
      behind [] a = (plain_event p x n, tt)
      behind (y ∷ ys) a = (a.0, behind ys a.1)

  -- the rest after a tick
  pub renamed-rest : (due : Timed → Bool) (p : PathValue) (xs : List Timed) → IsRenamedQueue history p xs →
      IsRenamedQueue history p (rest_after due xs)
  renamed-rest due p [] q = q
  renamed-rest due p (x ∷ xs) q =
      by (due x) (renamed-rest due p xs (record { each = q.each.1; one = one-tail x xs q.one }))
    where
      by : (b : Bool) → IsRenamedQueue history p (rest_after due xs) →
          IsRenamedQueue history p (cond b (rest_after due xs) (x ∷ xs))
      by true h = h
      by false h = q

  -- the first events
  pub renamed-take : (n : ℕ) (p : PathValue) (xs : List Timed) → IsRenamedQueue history p xs →
      IsRenamedQueue history p (take n xs)
  renamed-take n p xs q = record {
    each = each-take (IsRenamedTo history p) n xs q.each;
    one =
        one-take n xs q.one;
  }

  -- what stays behind
  pub renamed-staying : (p : PathValue) (xs : List Timed) (x : Timed) → IsRenamedQueue history p xs →
      staying (without_both xs) ≡ Some x → IsRenamedQueue history p (x ∷ [])
  renamed-staying p xs x q e =
      renamed-plain p x (each-staying (λ y. is_both y ≡ false) (without_both xs) x q.one e)
