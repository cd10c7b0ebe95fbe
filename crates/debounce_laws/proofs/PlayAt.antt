-- Events played on a set of paths, read at one path.
use Rattle.std.proofs.Common.{◌≡◌, Bool, true, false, cond, not, ◌&&◌, ◌||◌, List, [], ◌∷◌, ◌++◌, refl, ap, ◌∙◌}
use Rattle.std.specs.List.Sorted.{IsStrictlySortedBy}
use Rattle.notify_types.specs.Event.{EventValue, Timed}
use Rattle.notify_types.specs.Kinds.{is_creation, is_removal}
use Rattle.notify_paths.specs.Path.{PathValue, path_cmp, path_eq, is_prefix}
use Rattle.notify_types.specs.declared.kind.EventKind.{EventKind}
use Rattle.notify_types.specs.declared.kind.EventKind.TheVariants as kinds
use Rattle.debounce_model.specs.Kept.{has_first}
use Rattle.debounce_model.specs.Play.{Paths, has_path, play_at, play_first, play_one, play, events_of}
use Rattle.debounce_laws.proofs.PathSets.{has_with, has_without, sorted_with, sorted_without}
use Rattle.debounce_laws.proofs.Settling.{here}

-- a creation of the path
abbrev pub creates_at : PathValue → EventValue → Bool
creates_at p e = is_creation e.kind && has_first (λ q. path_eq p q) e.paths

-- a removal of the path, or of a folder of it
abbrev pub clears_at : PathValue → EventValue → Bool
clears_at p e = is_removal e.kind && has_first (λ q. is_prefix q p) e.paths

-- where no path is named, nothing is created or cleared
unnamed : (c r b : Bool) → b ≡ cond (c && false) true (cond (r && false) false b)
unnamed true true b = refl
unnamed true false b = refl
unnamed false true b = refl
unnamed false false b = refl

-- either test, by the first
or_cond : (a b : Bool) → (a || b) ≡ cond a true b
or_cond true b = refl
or_cond false b = refl

-- the second test without the first
and_cond : (a b : Bool) → (not a && b) ≡ cond a false b
and_cond true b = refl
and_cond false b = refl

-- an event of a kind at a path, read at a path
play_at_here : (s : Paths) (k : EventKind) (q p : PathValue) → has_path (play_at s k q) p
    ≡ cond (is_creation k && path_eq p q) true (cond (is_removal k && is_prefix q p) false (has_path s p))
play_at_here s (kinds.Create k) q p = has_with s q p ∙ or_cond (path_eq p q) (has_path s p)
play_at_here s (kinds.Remove k) q p = has_without s q p ∙ and_cond (is_prefix q p) (has_path s p)
play_at_here s k q p = refl

-- one event, read at a path
pub play_one_here : (s : Paths) (e : EventValue) (p : PathValue) → has_path (play_one s e) p
    ≡ cond (creates_at p e) true (cond (clears_at p e) false (has_path s p))
play_one_here s e p = by e.paths
  where
    by : (ps : List PathValue) → has_path (play_first s e.kind ps) p
        ≡ cond (is_creation e.kind && has_first (λ q. path_eq p q) ps) true
        (cond (is_removal e.kind && has_first (λ q. is_prefix q p) ps) false (has_path s p))
    by [] = unnamed (is_creation e.kind) (is_removal e.kind) (has_path s p)
    by (q ∷ qs) = play_at_here s e.kind q p

-- events, read at a path
pub play_here : (s : Paths) (p : PathValue) (es : List EventValue) → has_path (play s es) p
    ≡ here (creates_at p) (clears_at p) (has_path s p) es
play_here s p [] = refl
play_here s p (e ∷ es) = play_here (play_one s e) p es
    ∙ ap (λ b. here (creates_at p) (clears_at p) b es) (play_one_here s e p)

-- timed events, read at a path
pub here_timed : (s : Paths) (p : PathValue) (xs : List Timed) → has_path (play s (events_of xs)) p
    ≡ here (λ x. creates_at p x.event) (λ x. clears_at p x.event) (has_path s p) xs
here_timed s p xs = play_here s p (events_of xs) ∙ by (has_path s p) xs
  where
    by : (b : Bool) (ys : List Timed) → here (creates_at p) (clears_at p) b (events_of ys)
        ≡ here (λ x. creates_at p x.event) (λ x. clears_at p x.event) b ys
    by b [] = refl
    by b (y ∷ ys) = by (cond (creates_at p y.event) true (cond (clears_at p y.event) false b)) ys

-- events in a row are played one after the other
pub play-append : (s : Paths) (es fs : List EventValue) → play s (es ++ fs) ≡ play (play s es) fs
play-append s [] fs = refl
play-append s (e ∷ es) fs = play-append (play_one s e) es fs

-- events of lists in a row
pub events-append : (xs ys : List Timed) → events_of (xs ++ ys) ≡ events_of xs ++ events_of ys
events-append [] ys = refl
events-append (x ∷ xs) ys = ap (λ r. x.event ∷ r) (events-append xs ys)

-- .. by one event at a path
sorted_at : (s : Paths) (k : EventKind) (q : PathValue) → IsStrictlySortedBy path_cmp s →
    IsStrictlySortedBy path_cmp (play_at s k q)
sorted_at s (kinds.Create k) q h = sorted_with s q h
sorted_at s (kinds.Remove k) q h = sorted_without s (λ p. not (is_prefix q p)) h
sorted_at s k q h = h

-- .. by one event
sorted_one : (s : Paths) (e : EventValue) → IsStrictlySortedBy path_cmp s →
    IsStrictlySortedBy path_cmp (play_one s e)
sorted_one s e h = by e.paths
  where
    by : (ps : List PathValue) → IsStrictlySortedBy path_cmp (play_first s e.kind ps)
    by [] = h
    by (q ∷ qs) = sorted_at s e.kind q h

-- .. by events
pub sorted_play : (s : Paths) (es : List EventValue) → IsStrictlySortedBy path_cmp s →
    IsStrictlySortedBy path_cmp (play s es)
sorted_play s [] h = h
sorted_play s (e ∷ es) h = sorted_play (play_one s e) es (sorted_one s e h)
