-- Queues that are put one by one, once each path has room for its queue; and what is found at a path after a rename.
use Rattle.std.proofs.Common.{◌≡◌, ℕ, Bool, true, false, cond, not, ◌&&◌, List, [], ◌∷◌, ◌++◌, refl, ap, sym, ◌∙◌, Option, Some, None, is_some, true≢false}
use Rattle.std.specs.List.Sorted.{IsStrictlySortedBy}
use Rattle.std.specs.Map.{keys_of}
use Rattle.std.specs.BTreeMap.{is_at}
use Rattle.std.specs.Ordering.{is_eq, match_ordering}
use Rattle.std.specs.declared.cmp.Ordering.{Ordering}
use Rattle.std.specs.declared.cmp.Ordering.TheVariants.{Less, Equal, Greater}
use Rattle.notify_types.specs.Event.{Timed, AttributesValue}
use Rattle.notify_paths.specs.Path.{PathValue, path_cmp, is_prefix, is_below}
use Rattle.notify_paths.specs.PathLaws.{path_cmp_total, path_eq_equiv}
use Rattle.debounce_model.specs.Due.{waits, changed_entries}
use Rattle.debounce_model.specs.MapSteps.{queue_of, reserved_on, reserved, reserved_all, nonempty_of, HasRoom}
use Rattle.debounce_model.specs.Moved.{are_apart, with_queues}
use Rattle.debounce_model.specs.Queues.{Queues, queue_at, with_queue, events_at}
use Rattle.debounce_model.specs.Rename.{without_last, without_both, staying, left_behind, joined_halves}
use Rattle.debounce_model.proofs.Entries.{lookup-insert_same, lookup-insert_other, lookup-remove_same, lookup-remove_other, sorted-insert_entry, sorted-remove_entry}
use Rattle.debounce_model.proofs.MovedPaths.{same_at, untrue}

-- an empty queue at a path that has none isn't among them
nonempty-insert : (queues : Queues) (p : PathValue) → queue_at queues p ≡ None →
    nonempty_of (with_queue queues p []) ≡ nonempty_of queues
nonempty-insert [] p h = refl
nonempty-insert (e ∷ queues) p h = by (path_cmp p e.0) h (nonempty-insert queues p)
  where
    by : (o : Ordering) → cond (is_eq o) (Some e.1) (queue_at queues p) ≡ None →
        (queue_at queues p ≡ None → nonempty_of (with_queue queues p []) ≡ nonempty_of queues) →
        nonempty_of (match_ordering o ((p, []) ∷ e ∷ queues) ((e.0, []) ∷ queues) (e ∷ with_queue queues p []))
        ≡ nonempty_of (e ∷ queues)
    by Less h more = refl
    by Equal h more = cc
    by Greater h more = ap (λ r. cond (waits e.1) (e ∷ r) r) (more h)

-- room changes nothing of them
pub nonempty-reserved : (queues : Queues) (p : PathValue) → nonempty_of (reserved queues p) ≡ nonempty_of queues
nonempty-reserved queues p = by (queue_at queues p) refl
  where
    by : (o : Option (List Timed)) → queue_at queues p ≡ o → nonempty_of (reserved_on queues p o)
        ≡ nonempty_of queues
    by None h = nonempty-insert queues p h
    by (Some q) h = refl

-- what only keeps what waits leaves them
pub nonempty_changed : (queues : Queues) → changed_entries (λ events. events) waits queues ≡ nonempty_of queues
nonempty_changed [] = refl
nonempty_changed (e ∷ queues) = ap (λ r. cond (waits e.1) (e ∷ r) r) (nonempty_changed queues)

-- a path with room has a queue
room-here : (queues : Queues) (p : PathValue) → is_some (queue_at (reserved queues p) p) ≡ true
room-here queues p = by (queue_at queues p) refl
  where
    by : (o : Option (List Timed)) → queue_at queues p ≡ o → is_some (queue_at (reserved_on queues p o) p)
        ≡ true
    by None h = ap is_some (lookup-insert_same path_cmp_total queues p [])
    by (Some q) h = ap is_some h

-- elsewhere is what was there
pub room-other : (queues : Queues) (p q : PathValue) → is_eq (path_cmp q p) ≡ false →
    queue_at (reserved queues p) q
    ≡ queue_at queues q
room-other queues p q n = by (queue_at queues p)
  where
    by : (o : Option (List Timed)) → queue_at (reserved_on queues p o) q ≡ queue_at queues q
    by None = lookup-insert_other path_cmp_total queues p q [] n
    by (Some x) = refl

-- a path that has a queue keeps one
room-kept : (queues : Queues) (p q : PathValue) → is_some (queue_at queues q) ≡ true →
    is_some (queue_at (reserved queues p) q) ≡ true
room-kept queues p q h = by (is_at (path_cmp q) p) refl
  where
    by : (b : Bool) → is_at (path_cmp q) p ≡ b → is_some (queue_at (reserved queues p) q) ≡ true
    by true i = rw (same_at q p i) (room-here queues p)
    by false i = ap is_some (room-other queues p q i) ∙ h

-- .. also with room for more
room-all : (queues es : Queues) (q : PathValue) → is_some (queue_at queues q) ≡ true →
    is_some (queue_at (reserved_all queues es) q) ≡ true
room-all queues [] q h = h
room-all queues (e ∷ es) q h = room-all (reserved queues e.0) es q (room-kept queues e.0 q h)

-- each path of these has a queue once there is room for all
pub has_room : (queues es : Queues) → HasRoom (reserved_all queues es) es
has_room queues [] = tt
has_room queues (e ∷ es) =
    (room-all (reserved queues e.0) es e.0 (room-here queues e.0), has_room (reserved queues e.0) es)

-- the last of them may be set first
pub with_queues-last : (queues es : Queues) (p : PathValue) (v : List Timed) →
    with_queues queues (es ++ (p, v) ∷ []) ≡ with_queues (with_queue queues p v) es
with_queues-last queues [] p v = refl
with_queues-last queues (e ∷ es) p v = ap (λ r. with_queue r e.0 e.1) (with_queues-last queues es p v)

-- room for it, and for the others
pub room-last : (queues es : Queues) (p : PathValue) (v : List Timed) → HasRoom queues (es ++ (p, v) ∷ []) →
    (is_some (queue_at queues p) ≡ true) × HasRoom queues es
room-last queues [] p v r = (r.0, tt)
room-last queues (e ∷ es) p v r = let more = room-last queues es p v r.1 in (more.0, (r.0, more.1))

-- room stays where a queue is set
pub room-set : (queues es : Queues) (p : PathValue) (v : List Timed) → HasRoom queues es →
    HasRoom (with_queue queues p v) es
room-set queues [] p v r = r
room-set queues (e ∷ es) p v r = (by (is_at (path_cmp e.0) p) refl, room-set queues es p v r.1)
  where
    by : (b : Bool) → is_at (path_cmp e.0) p ≡ b → is_some (queue_at (with_queue queues p v) e.0) ≡ true
    by true i = rw (same_at e.0 p i) (ap is_some (lookup-insert_same path_cmp_total queues p v))
    by false i = ap is_some (lookup-insert_other path_cmp_total queues p e.0 v i) ∙ r.0

-- at other paths is what was there
pub queue-reserved_all : (queues es : Queues) (q : PathValue) → queue_at es q ≡ None →
    queue_at (reserved_all queues es) q ≡ queue_at queues q
queue-reserved_all queues [] q h = refl
queue-reserved_all queues (e ∷ es) q h =
    by (is_at (path_cmp q) e.0) refl h (queue-reserved_all (reserved queues e.0) es q)
  where
    by : (b : Bool) → is_at (path_cmp q) e.0 ≡ b → cond b (Some e.1) (queue_at es q) ≡ None →
        (queue_at es q ≡ None → queue_at (reserved_all (reserved queues e.0) es) q
        ≡ queue_at (reserved queues e.0) q) → queue_at (reserved_all (reserved queues e.0) es) q
        ≡ queue_at queues q
    by true i h more = cc
    by false i h more = more h ∙ room-other queues e.0 q i

-- the order stays
sorted-left : (queues : Queues) (f : PathValue) (s : Option Timed) →
    IsStrictlySortedBy path_cmp (keys_of queues) →
    IsStrictlySortedBy path_cmp (keys_of (left_behind queues f s))
sorted-left queues f None o = sorted-remove_entry path_cmp_total (is_at (path_cmp f)) queues o
sorted-left queues f (Some x) o = sorted-insert_entry path_cmp_total queues f (x ∷ []) o

-- .. also after the join
pub sorted-halves : (queues : Queues) (f t : PathValue) (time : ℕ) (attrs : AttributesValue) →
    IsStrictlySortedBy path_cmp (keys_of queues) →
    IsStrictlySortedBy path_cmp (keys_of (joined_halves queues f t time attrs))
sorted-halves queues f t time attrs o =
    sorted-insert_entry path_cmp_total _ t _
    (sorted-left queues f (staying (without_both (without_last (events_at queues f)))) o)

-- at other paths a join leaves what was there
pub halves-other : (queues : Queues) (f t : PathValue) (time : ℕ) (attrs : AttributesValue) (q : PathValue) →
    is_at (path_cmp q) f ≡ false → is_at (path_cmp q) t ≡ false →
    queue_at (joined_halves queues f t time attrs) q ≡ queue_at queues q
halves-other queues f t time attrs q i j = lookup-insert_other path_cmp_total _ t q _ j
    ∙ by (staying (without_both (without_last (events_at queues f))))
  where
    by : (s : Option Timed) → queue_at (left_behind queues f s) q ≡ queue_at queues q
    by None = lookup-remove_other path_cmp_total queues f q i
    by (Some x) = lookup-insert_other path_cmp_total queues f q (x ∷ []) i

-- at the source waits then what stays there
pub at_source : (queues : Queues) (p : PathValue) (s : Option Timed) →
    IsStrictlySortedBy path_cmp (keys_of queues) → queue_at (left_behind queues p s) p ≡ queue_of s
at_source queues p None o = lookup-remove_same path_cmp_total queues p o
at_source queues p (Some x) o = lookup-insert_same path_cmp_total queues p (x ∷ [])

-- no path lies strictly below itself
pub below_itself : (p : PathValue) → is_below p p ≡ false
below_itself p = rw (path_eq_equiv.refl p) (by (is_prefix p p))
  where
    by : (b : Bool) → (b && false) ≡ false
    by true = refl
    by false = refl

-- what does not have the base as a prefix does not lie below it
pub not_below : (p b : PathValue) → is_prefix b p ≡ false → is_below p b ≡ false
not_below p b h = rw h refl

-- what lies strictly below a base is not what doesn't
pub differs : (q p b : PathValue) → is_below q b ≡ true → is_below p b ≡ false → is_at (path_cmp q) p ≡ false
differs q p b h n =
    untrue (is_at (path_cmp q) p) (λ i. true≢false (sym h ∙ ap (λ r. is_below r b) (same_at q p i) ∙ n))

-- neither of two paths that are apart is a prefix of the other
pub apart_both : (f t : PathValue) → are_apart f t ≡ true → (is_prefix f t ≡ false) × (is_prefix t f ≡ false)
apart_both f t h = by (is_prefix f t) (is_prefix t f) h
  where
    by : (a b : Bool) → (not a && not b) ≡ true → (a ≡ false) × (b ≡ false)
    by true b h = absurd (true≢false (sym h))
    by false true h = absurd (true≢false (sym h))
    by false false h = (refl, refl)
