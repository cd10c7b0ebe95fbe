-- Where events say that what they created was before. `write_passing` cites these.
use Rattle.std.proofs.Common.{◌≡◌, ◌∙◌, ℕ, ◌+◌, ◌<◌, List, [], ◌∷◌, ◌++◌, length, get_or, drop, Option, None, Some, refl, sym, ap, append_assoc, subst}
use Rattle.std.specs.Prelude.{option_and_then, if◌then◌else◌}
use Rattle.serde_json.specs.Read.{read}
use Rattle.notify_types.specs.Event.{Timed}
use Rattle.notify_types.specs.Kinds.{is_creation}
use Rattle.notify_paths.specs.Path.{PathValue}
use Rattle.debounce_model.proofs.Lists.{drop_at}
use Rattle.debounce_model.specs.Play.{events_of}
use Rattle.reader_paths.specs.Moves.{AreMovesOf, MovesValue, move_with, source_first, source_of}
use Rattle.program_logic.specs.Journal.Json.{event_data, json_text}
use Rattle.program_logic.specs.Journal.Lines.{AreReadBack, after, entries_of, entry_of, next_of, source_in, told_in}
use Rattle.program_logic.specs.declared.journal.form.Form.{Form}

-- the source by the moves of a batch is that in the batch
pub source_is : (moves : MovesValue) (batch : List Timed) → AreMovesOf (events_of batch) moves → (x : Timed) →
    source_of moves x.event ≡ source_in batch x
source_is moves batch are x =
    ap (λ m. if is_creation x.event.kind then option_and_then (source_first x.event.paths) m else None)
    (by x.event.attrs.tracker)
  where
    by : (tracker : Option ℕ) → option_and_then (move_with moves) tracker
        ≡ option_and_then (told_in (events_of batch)) tracker
    by None = refl
    by (Some tracker) = are tracker

-- what is written with equal sources is equal
pub entries_same : (form : Form) (at : Option (List ℕ)) (f g : Timed → Option PathValue) → ((x : Timed) → f x ≡ g x) →
    (seq : ℕ) (xs : List Timed) → entries_of form at f seq xs ≡ entries_of form at g seq xs
entries_same form at f g same seq [] = refl
entries_same form at f g same seq (x ∷ xs) =
    ap (λ from. entry_of form at seq from x ++ entries_of form at f (next_of seq) xs) (same x)
    ∙ ap (λ rest. entry_of form at seq (g x) x ++ rest) (entries_same form at f g same (next_of seq) xs)

-- .. as with those that a batch tells
pub entries_told : (form : Form) (at : Option (List ℕ)) (moves : MovesValue) (batch whole : List Timed) →
    AreMovesOf (events_of whole) moves → whole ≡ batch → (seq : ℕ) (xs ys : List Timed) → xs ≡ ys →
    entries_of form at (λ x. source_of moves x.event) seq xs ≡ entries_of form at (source_in batch) seq ys
entries_told form at moves batch whole are same seq xs ys e =
    entries_same form at (λ x. source_of moves x.event) (source_in batch)
    (source_is moves batch (subst (λ b. AreMovesOf (events_of b) moves) same are)) seq xs
    ∙ ap (entries_of form at (source_in batch) seq) e

-- .. and so is what is read back
pub read_same : (at : Option (List ℕ)) (f g : Timed → Option PathValue) → ((x : Timed) → f x ≡ g x) → (seq : ℕ)
    (xs : List Timed) → AreReadBack at f seq xs → AreReadBack at g seq xs
read_same at f g same seq [] back = tt
read_same at f g same seq (x ∷ xs) back = (
  subst (λ from. read (json_text at seq from x) ≡ Some (event_data at seq from x)) (same x) back.0,
  read_same at f g same (next_of seq) xs back.1,
)

-- .. as with those that a batch tells
pub read_told : (at : Option (List ℕ)) (moves : MovesValue) (batch whole : List Timed) →
    AreMovesOf (events_of whole) moves → whole ≡ batch → (seq : ℕ) (xs ys : List Timed) → xs ≡ ys →
    AreReadBack at (λ x. source_of moves x.event) seq xs → AreReadBack at (source_in batch) seq ys
read_told at moves batch whole are same seq xs ys e back =
    subst (AreReadBack at (source_in batch) seq) e
    (read_same at (λ x. source_of moves x.event) (source_in batch)
    (source_is moves batch (subst (λ b. AreMovesOf (events_of b) moves) same are)) seq xs back)

-- one event more is written
pub entries_step : (form : Form) (at : Option (List ℕ)) (source : Timed → Option PathValue) (seq next : ℕ)
    (old new : List ℕ) (xs : List Timed) (i : ℕ) (x : Timed) → next ≡ next_of seq → i < length xs → x ≡ get_or xs i x →
    new ≡ old ++ entry_of form at seq (source x) x →
    new ++ entries_of form at source next (drop (i + 1) xs) ≡ old ++ entries_of form at source seq (drop i xs)
entries_step form at source seq next old new xs i x counted within is written =
    ap (λ n. new ++ entries_of form at source n (drop (i + 1) xs)) counted
    ∙ ap (λ text. text ++ entries_of form at source (next_of seq) (drop (i + 1) xs)) written
    ∙ append_assoc old (entry_of form at seq (source x) x) (entries_of form at source (next_of seq) (drop (i + 1) xs))
    ∙ ap (λ rest. old ++ entries_of form at source seq rest) (sym (drop_at xs i x within is))

-- .. and counted
pub after_step : (seq next : ℕ) (xs : List Timed) (i : ℕ) (x : Timed) → next ≡ next_of seq → i < length xs →
    x ≡ get_or xs i x → after next (drop (i + 1) xs) ≡ after seq (drop i xs)
after_step seq next xs i x counted within is =
    ap (λ n. after n (drop (i + 1) xs)) counted ∙ ap (after seq) (sym (drop_at xs i x within is))

-- .. and read back
pub read_step : (at : Option (List ℕ)) (source : Timed → Option PathValue) (seq next : ℕ) (xs : List Timed) (i : ℕ)
    (x : Timed) → next ≡ next_of seq → i < length xs → x ≡ get_or xs i x →
    read (json_text at seq (source x) x) ≡ Some (event_data at seq (source x) x) →
    AreReadBack at source next (drop (i + 1) xs) → AreReadBack at source seq (drop i xs)
read_step at source seq next xs i x counted within is back rest =
    subst (AreReadBack at source seq) (sym (drop_at xs i x within is))
    (back, subst (λ n. AreReadBack at source n (drop (i + 1) xs)) counted rest)
