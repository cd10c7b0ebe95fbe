-- What lies below a path comes right after it, so two queues tell what waits there and whether something waits below.
use Rattle.std.proofs.Common.{◌≡◌, ℕ, Bool, true, false, cond, ◌||◌, List, [], ◌∷◌, refl, ap, sym, ◌∙◌, Option, Some, None, map}
use Rattle.std.specs.Prelude.{filter, if◌then◌else◌}
use Rattle.std.specs.List.{AllByRecursion}
use Rattle.std.specs.List.Sorted.{IsStrictlySortedBy}
use Rattle.std.specs.Map.{keys_of}
use Rattle.std.specs.BTreeMap.{is_at}
use Rattle.std.specs.BTreeMap.Range.{range_contains}
use Rattle.std.specs.declared.cmp.Ordering.{Ordering}
use Rattle.std.specs.declared.cmp.Ordering.TheVariants.{Less, Equal, Greater}
use Rattle.std.specs.declared.ops.Bound.TheVariants.{Included, Unbounded}
use Rattle.std.proofs.lemmas.Map.{lookup-none}
use Rattle.std.proofs.lemmas.Map.Entries.{none_below_head}
use Rattle.notify_types.specs.Event.{Timed}
use Rattle.notify_paths.specs.Path.{PathValue, path_cmp, path_eq, is_prefix, is_below}
use Rattle.notify_paths.specs.PathLaws.{path_cmp_total, path_matches_eq}
use Rattle.notify_paths.proofs.Prefixes.{front_no_prefix, other_below, run_ends, same_path}
use Rattle.debounce_model.specs.MapSteps.{stale_in}
use Rattle.debounce_model.specs.Moved.{are_apart, below_of, moved_entry}
use Rattle.debounce_model.specs.Queues.{Queues, queue_at}
use Rattle.debounce_model.proofs.MoveSteps.{below_itself}
use Rattle.debounce_core.specs.Rename.Look.{waits_below}
use Rattle.debounce_core.specs.Rename.RenameSteps.{going_at, stale_at}

-- if nothing waits below the path, no queue goes along
pub none_waits : (m : Queues) (p : PathValue) → waits_below m p ≡ false → below_of m p ≡ []
none_waits [] p h = refl
none_waits (e ∷ m) p h = by (is_below e.0 p) refl (none_waits m p)
  where
    by : (b : Bool) → is_below e.0 p ≡ b → (waits_below m p ≡ false → below_of m p ≡ []) →
        below_of (e ∷ m) p ≡ []
    by true i more = cc (rw i at h)
    by false i more = rw i (more (rw i at h))

-- .. to the other path of a rename
pub none_goes : (m : Queues) (f t : PathValue) (n : ℕ) → waits_below m f ≡ false → [] ≡ going_at m f t n
none_goes m f t n h = by (are_apart f t)
  where
    by : (b : Bool) → [] ≡ cond b (map (moved_entry f t n) (below_of m f)) []
    by true = sym (ap (map (moved_entry f t n)) (none_waits m f h))
    by false = refl

-- .. and none there is stale
pub none_stale : (m : Queues) (f t : PathValue) → waits_below m t ≡ false → [] ≡ stale_at m f t
none_stale m f t h = by (are_apart f t)
  where
    by : (b : Bool) → [] ≡ cond b (stale_in m f t (below_of m t)) []
    by true = sym (ap (stale_in m f t) (none_waits m t h))
    by false = refl

module _ (p : PathValue) where
  -- the queues from the path on
  abbrev pub from_path : Queues → Queues
  from_path m = filter (λ e. range_contains path_cmp (Included p) Unbounded e.0) m

  -- the first of them lies at or below the path
  abbrev pub starts_below : Queues → Bool
  starts_below [] = false
  starts_below (e ∷ m) = is_prefix p e.0

  -- what they tell of the path itself
  abbrev queue_first : Queues → Option (List Timed)
  queue_first [] = None
  queue_first (e ∷ m) = if is_at (path_cmp p) e.0 then Some e.1 else None

  -- .. and of what lies below
  abbrev below_first : Queues → Bool
  below_first [] = false
  below_first (e ∷ m) = if is_at (path_cmp p) e.0 then starts_below m else is_prefix p e.0

  queue_found : (m : Queues) → IsStrictlySortedBy path_cmp (keys_of m) → queue_first (from_path m) ≡ queue_at m p
  unfolding IsStrictlySortedBy
  queue_found [] s = refl
  queue_found (e ∷ m) s = by (path_cmp p e.0) refl (queue_found m s.1)
    where
      by : (o : Ordering) → path_cmp p e.0 ≡ o → queue_first (from_path m) ≡ queue_at m p →
          queue_first (from_path (e ∷ m)) ≡ queue_at (e ∷ m) p
      by Less q more = let none : queue_at (e ∷ m) p ≡ None = lookup-none (is_at (path_cmp p)) (e ∷ m)
          (none_below_head path_cmp_total p e m s q) in rw q (rw q (sym (rw q at none)))
      by Equal q more = rw q (rw q refl)
      by Greater q more = rw q more

  -- after what doesn't have it as a prefix, nothing lies below the path
  none_after : (k : PathValue) (m : Queues) → (path_cmp p k ≡ Greater → ⊥) → is_prefix p k ≡ false →
      AllByRecursion (λ y. path_cmp k y ≡ Less) (keys_of m) → waits_below m p ≡ false
  none_after k [] from none up = refl
  none_after k (e ∷ m) from none up =
      let no : is_prefix p e.0 ≡ false = run_ends p k e.0 from none up.0 in
      rw no (none_after k m from none up.1)

  -- the path itself does not lie below it
  not_below_equal : (k : PathValue) → path_cmp p k ≡ Equal → is_below k p ≡ false
  not_below_equal k q = rw (← same_path p k q) (below_itself p)

  -- if all come after the path, the first tells
  first_tells : (m : Queues) → AllByRecursion (λ y. path_cmp p y ≡ Less) (keys_of m) →
      starts_below (from_path m) ≡ below_first (from_path m)
  first_tells [] a = refl
  first_tells (e ∷ m) a = rw a.0 (rw a.0 refl)

  below_found : (m : Queues) → IsStrictlySortedBy path_cmp (keys_of m) → below_first (from_path m) ≡ waits_below m p
  unfolding IsStrictlySortedBy
  below_found [] s = refl
  below_found (e ∷ m) s = by (path_cmp p e.0) refl (below_found m s.1)
    where
      by : (o : Ordering) → path_cmp p e.0 ≡ o → below_first (from_path m) ≡ waits_below m p →
          below_first (from_path (e ∷ m)) ≡ waits_below (e ∷ m) p
      by Less q more = rw (other_below p e.0 (λ r. cc (r, q)), q) (rw q (at (is_prefix p e.0) refl))
        where
          at : (b : Bool) → is_prefix p e.0 ≡ b → b ≡ (b || waits_below m p)
          at true i = refl
          at false i = sym (none_after e.0 m (λ g. cc (g, q)) i s.0)
      by Greater q more = rw (other_below p e.0 (λ r. cc (r, q)), front_no_prefix p e.0 q, q) more
      by Equal q more =
          rw (not_below_equal e.0 q, q)
          (rw q (first_tells m (rw (← same_path p e.0 q) at s.0) ∙ more))

  module _ (m : Queues) (s : IsStrictlySortedBy path_cmp (keys_of m)) where
    -- no queue stands at the path or after it
    pub none_from : from_path m ≡ [] → (None ≡ queue_at m p) × (false ≡ waits_below m p)
    none_from h = (sym (ap queue_first h) ∙ queue_found m s, sym (ap below_first h) ∙ below_found m s)

    -- the first one is another path's
    pub other_from : (e : PathValue × List Timed) (rest : Queues) → from_path m ≡ e ∷ rest →
        is_at (path_cmp p) e.0 ≡ false → (None ≡ queue_at m p) × (is_prefix p e.0 ≡ waits_below m p)
    other_from e rest h n = (
      sym (ap queue_first h ∙ rw n refl) ∙ queue_found m s,
      sym (ap below_first h ∙ rw n refl) ∙ below_found m s,
    )

    -- the first one is the path's
    pub same_from : (e : PathValue × List Timed) (rest : Queues) → from_path m ≡ e ∷ rest →
        is_at (path_cmp p) e.0 ≡ true → (Some e.1 ≡ queue_at m p) × (starts_below rest ≡ waits_below m p)
    same_from e rest h i = (
      sym (ap queue_first h ∙ rw i refl) ∙ queue_found m s,
      sym (ap below_first h ∙ rw i refl) ∙ below_found m s,
    )

  -- .. as `look_at` finds them: no queue
  pub none_look : (m : Queues) {it : Queues} → IsStrictlySortedBy path_cmp (keys_of m) → it ≡ from_path m → it ≡ [] →
      (p ≡ p) × (None ≡ queue_at m p) × (false ≡ waits_below m p)
  none_look m s whole end = let found = none_from m s (sym whole ∙ end) in (refl, found.0, found.1)

  module _ (m : Queues) {it : Queues} (e : PathValue × List Timed) (rest : Queues) {b below : Bool}
      (s : IsStrictlySortedBy path_cmp (keys_of m)) (whole : it ≡ from_path m) (first : it ≡ e ∷ rest)
      (same : b ≡ path_eq p e.0) where
    -- another path's
    pub other_look : b ≡ false → below ≡ is_prefix p e.0 →
        (p ≡ p) × (None ≡ queue_at m p) × (below ≡ waits_below m p)
    other_look other is =
        let found = other_from m s e rest (sym whole ∙ first) (sym (path_matches_eq p e.0) ∙ sym same ∙ other) in
        (refl, found.0, is ∙ found.1)

    -- the path's
    pub same_look : b ≡ true → below ≡ starts_below rest →
        (p ≡ p) × (Some e.1 ≡ queue_at m p) × (below ≡ waits_below m p)
    same_look own is =
        let found = same_from m s e rest (sym whole ∙ first) (sym (path_matches_eq p e.0) ∙ sym same ∙ own) in
        (refl, found.0, is ∙ found.1)
