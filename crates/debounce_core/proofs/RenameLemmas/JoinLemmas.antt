-- The steps of a joined rename lead to the joined rename: at its two paths, and below them.
use Rattle.std.proofs.Common.{◌≡◌, ◌==◌, ℕ, length, Bool, true, false, cond, not, ◌&&◌, List, [], ◌∷◌, ◌++◌, refl, ap, sym, ◌∙◌, Option, Some, None, is_some, option_copied, map, true≢false, arith}
use Rattle.std.specs.Option.{option_map}
use Rattle.std.specs.List.{list_any}
use Rattle.std.specs.List.Sorted.{IsStrictlySortedBy}
use Rattle.std.specs.Map.{keys_of}
use Rattle.std.specs.BTreeMap.{is_at}
use Rattle.std.proofs.lemmas.Bool.Decides.{nat_tests}
use Rattle.notify_types.specs.Event.{Timed, AttributesValue}
use Rattle.notify_paths.specs.Path.{PathValue, path_cmp, path_eq, is_below}
use Rattle.notify_paths.specs.PathMoves.{relocated}
use Rattle.notify_paths.specs.PathLaws.{path_cmp_total, path_eq_decides, path_matches_eq}
use Rattle.notify_paths.proofs.Prefixes.{same_path}
use Rattle.debounce_model.specs.MapSteps.{before_half, left_at, queue_of, stale, without_queues}
use Rattle.debounce_model.specs.Moved.{are_apart, below_of, began, joined_rename, moved, moved_below, moved_entry, moved_queue, with_queues}
use Rattle.debounce_model.specs.Queues.{Queues, events_at, queue_at, with_queue, without_below, without_queue}
use Rattle.debounce_model.specs.Rename.{at_path, first_both, joined_halves, left_behind, moving, original_path, original_time, overriding, renaming, without_both}
use Rattle.debounce_model.specs.WellFormed.{AreQueues, IsNonempty}
use Rattle.debounce_model.proofs.Entries.{insert_removed, lookup-insert_other, lookup-remove_other, lookup-remove_same, remove_insert, same_entries, sorted-filter, sorted-remove_entry}
use Rattle.debounce_model.proofs.MovedLemmas.{moved_found, moved_nowhere, or_else, queue-below_of, queue-moved_below, queue-moved_from, queue-moved_other, queue-with_queues, queue-without_below, sorted-with_queues}
use Rattle.debounce_model.proofs.MovedPaths.{below_relocated, below_prefix, not_at_both, same_at, untrue}
use Rattle.debounce_model.proofs.MoveSteps.{apart_both, at_source, below_itself, differs, halves-other, not_below, sorted-halves}
use Rattle.debounce_queues.specs.Steps.{AreFilled}
use Rattle.debounce_core.specs.declared.rename.Rename.{Rename}
use Rattle.debounce_core.specs.declared.rename.source.Source.{Source}
use Rattle.debounce_core.specs.Rename.RenameSteps.{arrived_at, going_at, IsPuts, IsSourceOf, kept_at, left_by, puts_at_two, stale_at, staying_at, stays_of}
use Rattle.debounce_core.proofs.RenameLemmas.BelowLemmas.{not_stale, queue-without_queues, sorted-without_queues, stale_below, stale_gone}

-- all queues that are put: at the two paths, and below the target
abbrev pub puts_of : Queues → PathValue → PathValue → ℕ → AttributesValue → Queues
puts_of queues f t time attrs =
    puts_at_two queues f t time attrs ++ going_at queues f t (began queues f time)

-- in the first of two lists, or else in the second
queue-append : (a b : Queues) (q : PathValue) → queue_at (a ++ b) q ≡ or_else (queue_at a q) (queue_at b q)
queue-append [] b q = refl
queue-append (e ∷ a) b q = by (is_at (path_cmp q) e.0) (queue-append a b q)
  where
    by : (c : Bool) → queue_at (a ++ b) q ≡ or_else (queue_at a q) (queue_at b q) →
        cond c (Some e.1) (queue_at (a ++ b) q)
        ≡ or_else (cond c (Some e.1) (queue_at a q)) (queue_at b q)
    by true more = refl
    by false more = more

-- after the source f was left, at another path what was there
left-other : (queues : Queues) (f t : PathValue) (b : Bool) (q : PathValue) → is_at (path_cmp q) f ≡ false →
    queue_at (left_by queues f t b) q ≡ queue_at queues q
left-other queues f t b q n = by (not b && not (path_eq f t))
  where
    by : (c : Bool) → queue_at (cond c (without_queue queues f) queues) q ≡ queue_at queues q
    by true = lookup-remove_other path_cmp_total queues f q n
    by false = refl

-- .. and where two have the same, the same
left-same : (queues other : Queues) (f t : PathValue) (b : Bool) (q : PathValue) →
    IsStrictlySortedBy path_cmp (keys_of queues) → IsStrictlySortedBy path_cmp (keys_of other) →
    queue_at queues q ≡ queue_at other q →
    queue_at (left_by queues f t b) q ≡ queue_at (left_by other f t b) q
left-same queues other f t b q s o h = by (not b && not (path_eq f t)) (is_at (path_cmp q) f) refl
  where
    gone : (m : Queues) → IsStrictlySortedBy path_cmp (keys_of m) → q ≡ f →
        queue_at (without_queue m f) q ≡ None
    gone m k e = rw e (lookup-remove_same path_cmp_total m f k)

    by : (c d : Bool) → is_at (path_cmp q) f ≡ d →
        queue_at (cond c (without_queue queues f) queues) q
        ≡ queue_at (cond c (without_queue other f) other) q
    by true true i = gone queues s (same_at q f i) ∙ sym (gone other o (same_at q f i))
    by true false i = lookup-remove_other path_cmp_total queues f q i ∙ h
        ∙ sym (lookup-remove_other path_cmp_total other f q i)
    by false d i = h

-- leaving the source keeps the order
sorted-left_by : (queues : Queues) (f t : PathValue) (b : Bool) →
    IsStrictlySortedBy path_cmp (keys_of queues) →
    IsStrictlySortedBy path_cmp (keys_of (left_by queues f t b))
sorted-left_by queues f t b s = by (not b && not (path_eq f t))
  where
    by : (c : Bool) → IsStrictlySortedBy path_cmp (keys_of (cond c (without_queue queues f) queues))
    by true = sorted-remove_entry path_cmp_total (is_at (path_cmp f)) queues s
    by false = s

-- at another path than the source what waits there, at the source what stays there
pub found_at_target : (m : Queues) (f t : PathValue) → IsStrictlySortedBy path_cmp (keys_of m) →
    cond (path_eq f t) (queue_of (stays_of m f)) (queue_at m t) ≡ queue_at (left_at m f) t
found_at_target m f t o = by (path_eq f t) refl
  where
    other : path_eq f t ≡ false → is_at (path_cmp t) f ≡ false
    other n =
        untrue (is_at (path_cmp t) f) (λ i. true≢false (sym ((path_eq_decides f t).1 (sym (same_at t f i)))
        ∙ n))

    away : (s : Option Timed) → is_at (path_cmp t) f ≡ false → queue_at (left_behind m f s) t ≡ queue_at m t
    away None n = lookup-remove_other path_cmp_total m f t n
    away (Some x) n = lookup-insert_other path_cmp_total m f t (x ∷ []) n

    by : (b : Bool) → path_eq f t ≡ b →
        cond b (queue_of (stays_of m f)) (queue_at m t) ≡ queue_at (left_at m f) t
    by true e = sym (at_source m f (stays_of m f) o) ∙ ap (queue_at (left_at m f)) ((path_eq_decides f t).0 e)
    by false e = sym (away (stays_of m f) (other e))

module _ {Z : Type 0} (m : Queues) (source : Source Z) (rename : Rename Z) (going puts : Queues) where
  -- what is put, by what waits at the two paths
  pub puts_of_parts : IsStrictlySortedBy path_cmp (keys_of m) →
      IsSourceOf (events_at m rename.from.now) source →
      IsPuts source (queue_at m rename.to.now) rename going puts →
      puts ≡ puts_at_two m rename.from.now rename.to.now rename.time rename.attrs ++ going
  puts_of_parts o s put =
      put (without_both (before_half m rename.from.now)) s.1
      ∙ rw (found_at_target m rename.from.now rename.to.now o, s.0, s.1, s.2) refl

  -- what goes along, by when the rename began
  pub going_of_source : IsSourceOf (events_at m rename.from.now) source →
      going ≡ going_at m rename.from.now rename.to.now (original_time (option_copied source.earlier) rename.time) →
      going ≡ going_at m rename.from.now rename.to.now (began m rename.from.now rename.time)
  going_of_source s along = along ∙ rw s.0 refl

  -- .. and all that is put
  pub puts_of_all : IsStrictlySortedBy path_cmp (keys_of m) →
      IsSourceOf (events_at m rename.from.now) source →
      IsPuts source (queue_at m rename.to.now) rename going puts →
      going ≡ going_at m rename.from.now rename.to.now (began m rename.from.now rename.time) →
      puts ≡ puts_of m rename.from.now rename.to.now rename.time rename.attrs
  puts_of_all o s put along =
      puts_of_parts o s put
      ∙ ap (λ es. puts_at_two m rename.from.now rename.to.now rename.time rename.attrs ++ es) along

module _ (m : Queues) (f t : PathValue) (time : ℕ) (attrs : AttributesValue)
    (o : IsStrictlySortedBy path_cmp (keys_of m)) where
  abbrev joined : Queues
  joined = joined_halves m f t time attrs

  abbrev two : Queues
  two = puts_at_two m f t time attrs

  abbrev arrives : List Timed
  arrives = arrived_at m f t time attrs

  halves : left_by (with_queues m two) f t (kept_at m f) ≡ joined
  halves = by (stays_of m f) (path_eq f t) refl
    where
      same : path_eq f t ≡ true → with_queue m t arrives ≡ with_queue (without_queue m f) t arrives
      same e = sym (insert_removed path_cmp_total same_path m t arrives o)
          ∙ ap (λ k. with_queue (without_queue m k) t arrives) (sym ((path_eq_decides f t).0 e))

      by : (s : Option Timed) (b : Bool) → path_eq f t ≡ b →
          cond (not (is_some s) && not (path_eq f t))
          (without_queue (with_queues m ((t, arrives) ∷ staying_at f s)) f)
          (with_queues m ((t, arrives) ∷ staying_at f s)) ≡ with_queue (left_behind m f s) t arrives
      by (Some x) b e = refl
      by None true e = rw e (same e)
      by None false e = rw e (remove_insert path_cmp_total m t f arrives o (sym (path_matches_eq f t) ∙ e))

  module _ (apart : are_apart f t ≡ true) where
    abbrev n : ℕ
    n = began m f time

    abbrev going : Queues
    going = moved_below m f t n

    abbrev all : Queues
    all = left_by (with_queues m (two ++ going)) f t (kept_at m f)

    all_sorted : IsStrictlySortedBy path_cmp (keys_of all)
    all_sorted =
        sorted-left_by (with_queues m (two ++ going)) f t (kept_at m f)
        (sorted-with_queues m (two ++ going) o)

    f_above : is_below f t ≡ false
    f_above = not_below f t (apart_both f t apart).1

    t_above : is_below t f ≡ false
    t_above = not_below t f (apart_both f t apart).0

    -- the two paths are found nowhere else
    two-other : (q : PathValue) → is_at (path_cmp q) f ≡ false → is_at (path_cmp q) t ≡ false →
        queue_at two q ≡ None
    two-other q i j = rw j (by (stays_of m f))
      where
        by : (s : Option Timed) → queue_at (staying_at f s) q ≡ None
        by None = refl
        by (Some x) = rw i refl

    -- strictly below t
    under : (q : PathValue) → is_below q t ≡ true →
        queue_at (without_queues all (stale m f t)) q
        ≡ option_map (moved_queue f t n) (queue_at m (relocated t f q))
    under q j =
        queue-without_queues all (stale m f t) q all_sorted
        ∙ ap (cond (list_any (is_at (path_cmp q)) (stale m f t)) None)
        (left-other (with_queues m (two ++ going)) f t (kept_at m f) q not_f
        ∙ queue-with_queues m (two ++ going) q
        ∙ ap (λ x. or_else x (queue_at m q)) (queue-append two going q
        ∙ ap (λ x. or_else x (queue_at going q)) (two-other q not_f not_t)))
        ∙ by (queue_at m (relocated t f q)) refl here
      where
        not_f : is_at (path_cmp q) f ≡ false
        not_f = differs q f t j f_above

        not_t : is_at (path_cmp q) t ≡ false
        not_t = differs q t t j (below_itself t)

        here : queue_at going q ≡ option_map (moved_queue f t n) (queue_at m (relocated t f q))
        here = moved_found f t n m q (below_prefix q t j)
            ∙ ap (option_map (moved_queue f t n))
            (queue-below_of m f (relocated t f q) true (below_relocated t f q j))

        by : (r : Option (List Timed)) → queue_at m (relocated t f q) ≡ r →
            queue_at going q ≡ option_map (moved_queue f t n) r →
            cond (list_any (is_at (path_cmp q)) (stale m f t)) None
            (or_else (queue_at going q) (queue_at m q)) ≡ option_map (moved_queue f t n) r
        by (Some v) e g = rw (g, not_stale m f t q (below_of m t) (ap is_some e)) refl
        by None e g =
            rw g (ap (cond (list_any (is_at (path_cmp q)) (stale m f t)) None)
            (sym (queue-below_of m t q true j)) ∙ stale_gone m f t q (below_of m t) (ap is_some e))

    -- neither below f nor below t
    aside : (q : PathValue) → is_below q t ≡ false →
        queue_at (without_queues all (stale m f t)) q ≡ queue_at joined q
    aside q j =
        queue-without_queues all (stale m f t) q all_sorted
        ∙ ap (λ b. cond b None (queue_at all q)) (stale_below m f t q m j)
        ∙ left-same (with_queues m (two ++ going)) (with_queues m two) f t (kept_at m f) q
        (sorted-with_queues m (two ++ going) o) (sorted-with_queues m two o) same
        ∙ ap (λ (u : Queues). queue_at u q) halves
      where
        or_none : {X : Type 0} (x : Option X) → or_else x None ≡ x
        or_none None = refl
        or_none (Some x) = refl

        same : queue_at (with_queues m (two ++ going)) q ≡ queue_at (with_queues m two) q
        same =
            queue-with_queues m (two ++ going) q
            ∙ ap (λ x. or_else x (queue_at m q)) (queue-append two going q
            ∙ ap (or_else (queue_at two q)) (moved_nowhere f t n m q j) ∙ or_none (queue_at two q))
            ∙ sym (queue-with_queues m two q)

    found : (q : PathValue) →
        queue_at (without_below (without_queues all (stale m f t)) f) q ≡ queue_at (moved joined f t n) q
    found q = by (is_below q f) (is_below q t) refl refl
      where
        by : (b c : Bool) → is_below q f ≡ b → is_below q t ≡ c →
            queue_at (without_below (without_queues all (stale m f t)) f) q ≡ queue_at (moved joined f t n) q
        by true c i j =
            queue-without_below (without_queues all (stale m f t)) f q true i
            ∙ sym (queue-moved_from joined f t n q
            (not_below q t (not_at_both f t q apart (below_prefix q f i))) i)
        by false true i j =
            queue-without_below (without_queues all (stale m f t)) f q false i
            ∙ under q j
            ∙ ap (option_map (moved_queue f t n))
            (sym (halves-other m f t time attrs (relocated t f q)
            (differs (relocated t f q) f f (below_relocated t f q j) (below_itself f))
            (differs (relocated t f q) t f (below_relocated t f q j) t_above)))
            ∙ sym (queue-moved_below joined f t n q j)
        by false false i j =
            queue-without_below (without_queues all (stale m f t)) f q false i
            ∙ aside q j
            ∙ sym (queue-moved_other joined f t n q j i)

    along : without_below (without_queues all (stale m f t)) f ≡ moved joined f t n
    along =
        same_entries path_cmp_total same_path (without_below (without_queues all (stale m f t)) f)
        (moved joined f t n)
        (sorted-filter path_cmp_total (λ e. not (is_below e.0 f)) (without_queues all (stale m f t))
        (sorted-without_queues all (stale m f t) all_sorted))
        (sorted-with_queues (without_below (without_below joined f) t) (moved_below joined f t n)
        (sorted-filter path_cmp_total (λ e. not (is_below e.0 t)) (without_below joined f)
        (sorted-filter path_cmp_total (λ e. not (is_below e.0 f)) joined
        (sorted-halves m f t time attrs o))))
        found

    abbrev rest : Queues
    rest = without_queues all (stale m f t)

    -- if nothing goes along, nothing is left below the source
    stays_along : going ≡ [] → rest ≡ moved joined f t n
    stays_along e =
        sym (same_entries path_cmp_total same_path (without_below rest f) rest
        (sorted-filter path_cmp_total (λ e. not (is_below e.0 f)) rest sorted) sorted same) ∙ along
      where
        sorted : IsStrictlySortedBy path_cmp (keys_of rest)
        sorted = sorted-without_queues all (stale m f t) all_sorted

        none_of : (es : Queues) → map (moved_entry f t n) es ≡ [] → es ≡ []
        none_of [] h = refl
        none_of (x ∷ es) h = cc

        nowhere : (q : PathValue) → is_below q f ≡ true → queue_at rest q ≡ None
        nowhere q i =
            aside q (not_below q t (not_at_both f t q apart (below_prefix q f i)))
            ∙ halves-other m f t time attrs q (differs q f f i (below_itself f)) (differs q t f i t_above)
            ∙ sym (queue-below_of m f q true i)
            ∙ ap (λ (u : Queues). queue_at u q) (none_of (below_of m f) e)

        same : (q : PathValue) → queue_at (without_below rest f) q ≡ queue_at rest q
        same q = by (is_below q f) refl
          where
            by : (b : Bool) → is_below q f ≡ b → queue_at (without_below rest f) q ≡ queue_at rest q
            by true i = queue-without_below rest f q true i ∙ sym (nowhere q i)
            by false i = queue-without_below rest f q false i

  abbrev left : Queues
  left = left_by (with_queues m (puts_of m f t time attrs)) f t (kept_at m f)

  abbrev along_of : Queues
  along_of = going_at m f t (began m f time)

  -- what is put, and what is taken out then; if something goes along, also below the source
  pub in_steps_moved : (length along_of == 0) ≡ false →
      without_below (without_queues left (stale_at m f t)) f ≡ joined_rename m f t time attrs
  in_steps_moved some = by (are_apart f t) refl
    where
      by : (b : Bool) → are_apart f t ≡ b →
          without_below (without_queues left (stale_at m f t)) f ≡ joined_rename m f t time attrs
      by true e = rw e (along e)
      by false e = absurd (true≢false (rw e at some))

  -- .. if nothing does
  pub in_steps_alone : (length along_of == 0) ≡ true →
      without_queues left (stale_at m f t) ≡ joined_rename m f t time attrs
  in_steps_alone none = by (are_apart f t) refl
    where
      no_more : (es : Queues) → es ++ [] ≡ es
      no_more [] = refl
      no_more (e ∷ es) = ap (λ r. e ∷ r) (no_more es)

      empty : (es : Queues) → (length es == 0) ≡ true → es ≡ []
      empty [] h = refl
      empty (e ∷ es) h = absurd (grind (arith, nat_tests, h))

      by : (b : Bool) → are_apart f t ≡ b →
          without_queues left (stale_at m f t) ≡ joined_rename m f t time attrs
      by true e = rw e (stays_along e (empty (moved_below m f t (began m f time)) (rw e at none)))
      by false e = rw e (ap (λ es. left_by (with_queues m es) f t (kept_at m f)) (no_more two) ∙ halves)

later : (xs ys : List Timed) → IsNonempty ys → IsNonempty (xs ++ ys)
later [] ys h = h
later (x ∷ xs) ys h = tt

renamed : (p t : PathValue) (attrs : AttributesValue) (time : ℕ) (xs : List Timed) →
    IsNonempty (renaming p t attrs time xs ++ xs)
renamed p t attrs time [] = tt
renamed p t attrs time (x ∷ xs) = later (renaming p t attrs time (x ∷ xs)) (x ∷ xs) tt

both : (a b : Queues) → AreFilled a → AreFilled b → AreFilled (a ++ b)
both [] b h k = k
both (e ∷ a) b h k = (h.0, both a b h.1 k)

staying_filled : (f : PathValue) (s : Option Timed) → AreFilled (staying_at f s)
staying_filled f None = tt
staying_filled f (Some x) = (tt, tt)

going_filled : (f t : PathValue) (start : ℕ) (m : Queues) → AreQueues m → AreFilled (moved_below m f t start)
going_filled f t start [] a = tt
going_filled f t start (e ∷ m) a = by (is_below e.0 f) (going_filled f t start m a.1)
  where
    one : (xs : List Timed) → IsNonempty xs → IsNonempty (moved_queue f t start xs)
    one [] h = h
    one (x ∷ xs) h = tt

    by : (b : Bool) → AreFilled (moved_below m f t start) →
        AreFilled (map (moved_entry f t start) (cond b (e ∷ below_of m f) (below_of m f)))
    by true more = (one e.1 a.0.0, more)
    by false more = more

pub puts_filled : (m : Queues) (f t : PathValue) (time : ℕ) (attrs : AttributesValue) → AreQueues m →
    AreFilled (puts_of m f t time attrs)
puts_filled m f t time attrs a =
    let events = before_half m f in
    let start = original_time (first_both events) time in
    let path = original_path (first_both events) f in
    let going = map (at_path t) (moving (without_both events)) in (
      later (overriding t start (queue_at (left_at m f) t)) (renaming path t attrs start going ++ going)
          (renamed path t attrs start going),
      both (staying_at f (stays_of m f)) (going_at m f t (began m f time)) (staying_filled f (stays_of m f))
          (by (are_apart f t)),
    )
  where
    by : (b : Bool) → AreFilled (cond b (moved_below m f t (began m f time)) [])
    by true = going_filled f t (began m f time) m a
    by false = tt
