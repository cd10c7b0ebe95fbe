-- A source that is put into the map of sources. `add_source` and `find_sources` cite these.
use Rattle.std.proofs.Common.{◌≡◌, ℕ, suc, ◌+◌, ◌<◌, Bool, true, false, cond, List, [], ◌∷◌, length, get_or, drop, Option, Some, None, refl, sym, ap, ◌∙◌, add-one, drop-cons}
use Rattle.std.specs.Prelude.{slice_get, if◌then◌else◌}
use Rattle.std.specs.BTreeMap.{is_at}
use Rattle.std.specs.Map.{lookup}
use Rattle.std.specs.Option.{option_or}
use Rattle.notify_paths.specs.Path.{PathValue, path_cmp, path_eq}
use Rattle.notify_paths.specs.PathLaws.{path_matches_eq}
use Rattle.notify_types.specs.Event.{EventValue, Timed}
use Rattle.debounce_model.specs.Kept.{has_first}
use Rattle.debounce_model.specs.Play.{events_of}
use Rattle.reader_paths.specs.Moves.{MovesValue, source_among, source_by, source_of}
use Rattle.reader_paths.specs.Moves.Told.{AddsSource}

-- the source of an event, put in at its path
pub added : (moves : MovesValue) (e : EventValue) (path source : PathValue) (old new : List (PathValue × PathValue)) →
    slice_get e.paths 0 ≡ Some path → source_of moves e ≡ Some source →
    ((q : PathValue) → lookup (is_at (path_cmp q)) new
    ≡ cond (is_at (path_cmp path) q) (Some source) (lookup (is_at (path_cmp q)) old)) →
    AddsSource moves e old new
added moves e path source old new first is put = λ q.
    put q
    ∙ by (is_at (path_cmp path) q) (lookup (is_at (path_cmp q)) old)
    ∙ ap (λ b. option_or (if b then Some source else None) (lookup (is_at (path_cmp q)) old)) (at q e.paths first)
    ∙ ap (λ x. option_or (if has_first (λ p. path_eq p q) e.paths then x else None)
    (lookup (is_at (path_cmp q)) old)) (sym is)
  where
    by : (b : Bool) (x : Option PathValue) → cond b (Some source) x ≡ option_or (if b then Some source else None) x
    by true x = refl
    by false x = refl

    at : (q : PathValue) (ps : List PathValue) → slice_get ps 0 ≡ Some path →
        is_at (path_cmp path) q ≡ has_first (λ p. path_eq p q) ps
    at q [] h = cc
    at q (p ∷ ps) h = let same : p ≡ path = cc in
        sym (path_matches_eq path q) ∙ ap (λ r. path_eq r q) (sym same)

-- of three sources the first that is there, in two ways
option_or-assoc : (a b c : Option PathValue) → option_or (option_or a b) c ≡ option_or a (option_or b c)
option_or-assoc None b c = refl
option_or-assoc (Some x) b c = refl

-- one more event of a batch, after those from i on were still left
pub next_source : (moves : MovesValue) (batch : List Timed) (i : ℕ) (x : Timed) (path : PathValue)
    (old new all : Option PathValue) → i < length batch → x ≡ get_or batch i x →
    new ≡ option_or (source_by moves x.event path) old →
    option_or (source_among moves (events_of (drop i batch)) path) old ≡ all →
    option_or (source_among moves (events_of (drop (i + 1) batch)) path) new ≡ all
next_source moves batch i x path old new all below is put so_far =
    let left : Option PathValue = source_among moves (events_of (drop (i + 1) batch)) path in
    let here : drop i batch ≡ x ∷ drop (i + 1) batch = drop-cons batch i x below
    ∙ ap (λ y. y ∷ drop (suc i) batch) (sym is) ∙ ap (λ n. x ∷ drop n batch) (sym (add-one i)) in
    ap (λ f. option_or left f) put
    ∙ sym (option_or-assoc left (source_by moves x.event path) old)
    ∙ ap (λ b. option_or (source_among moves (events_of b) path) old) (sym here)
    ∙ so_far
