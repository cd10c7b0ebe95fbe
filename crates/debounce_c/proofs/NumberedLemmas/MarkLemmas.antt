-- Numbers that are taken out, and then dropped or brought back.
use Rattle.std.proofs.Common.{◌≡◌, ◌∙◌, Bool, true, false, not, cond, List, [], ◌∷◌, Ordering, Less, Equal, Greater, Result, Ok, Err, OnOk, OnErr, length, arith, refl, ap}
use Rattle.std.specs.Prelude.{map}
use Rattle.std.specs.Map.Calls.{RetainsPairs}
use Rattle.notify_paths.specs.Path.{PathValue, path_cmp, is_prefix}
use Rattle.debounce_model.specs.declared.file_id.FileId.{FileId}
use Rattle.debounce_c.specs.declared.numbered.table.Marked.{Marked}
use Rattle.debounce_c.specs.Numbered.Marks.{IsNoneGone, Marks, gone_at, marked, numbers_of, restored, settled, with_mark}
use Rattle.debounce_c.specs.Numbered.Numbers.{Numbers, with_number, without_numbers}

-- what `retain` leaves, by a closure that keeps each entry and changes it by its key
pub changed_by_keys : {F K X : Type 0} (T : F → K → X → Bool → X → F → Type 0) (g : K → X → X) (f : F) →
    ((k : K) (v : X) (b : Bool) (w : X) (f' : F) → T f k v b w f' → (b ≡ true) × (w ≡ g k v) × (f' ≡ f)) →
    (es kept : List (K × X)) → RetainsPairs T f es kept → kept ≡ map (λ e. (e.0, g e.0 e.1)) es
changed_by_keys T g f told [] kept r = r
changed_by_keys T g f told (e ∷ es) kept (b, w, f', rest, step, more, is) =
    let t = told e.0 e.1 b w f' step in
    let later : rest ≡ map (λ e. (e.0, g e.0 e.1)) es = changed_by_keys T g f told es rest (rw t.2 at more) in
    rw (is, t.0, t.1, later) refl

-- where none is taken out, nothing is dropped
pub settled-none : (es : Marks) → IsNoneGone es → settled es ≡ es
settled-none [] h = refl
settled-none (e ∷ es) h =
    ap (λ b. cond (not b) (e ∷ settled es) (settled es)) h.0 ∙ ap (λ (r : Marks). e ∷ r) (settled-none es h.1)

-- .. and nothing is brought back
pub restored-none : (es : Marks) → IsNoneGone es → restored es ≡ es
restored-none [] h = refl
restored-none (e ∷ es) h = rw (restored-none es h.1, ← h.0) refl

-- a number that is brought back is as it was before it was taken out
restored-gone : (path key : PathValue) (m : Marked) →
    record (gone_at path key m) { is_gone = false } ≡ record m { is_gone = false }
restored-gone path key m = by (is_prefix path key) refl
  where
    by : (b : Bool) → is_prefix path key ≡ b →
        record (gone_at path key m) { is_gone = false } ≡ record m { is_gone = false }
    by true h = rw h refl
    by false h = rw h refl

-- nothing is taken out of nothing
pub marked-empty : (path : PathValue) (es : Marks) → length es ≡ 0 → es ≡ marked path es
marked-empty path [] none = refl
marked-empty path (e ∷ es) none = absurd (omega (arith, none))

-- what was taken out comes back as it was
pub restored-marked : (path : PathValue) (es : Marks) → restored (marked path es) ≡ restored es
restored-marked path [] = refl
restored-marked path (e ∷ es) = rw (restored-marked path es, restored-gone path e.0 e.1) refl

-- what was taken out and dropped is what lay at the path or below it
pub settled-marked : (path : PathValue) (es : Marks) → IsNoneGone es →
    numbers_of (settled (marked path es)) ≡ without_numbers (numbers_of es) path
settled-marked path [] h = refl
settled-marked path (e ∷ es) h = by (is_prefix path e.0) refl (settled-marked path es h.1)
  where
    by : (b : Bool) → is_prefix path e.0 ≡ b →
        numbers_of (settled (marked path es)) ≡ without_numbers (numbers_of es) path →
        numbers_of (settled (marked path (e ∷ es))) ≡ without_numbers (numbers_of (e ∷ es)) path
    by true q more = rw q more
    by false q more = rw (q, h.0) (ap (λ (r : Numbers). (e.0, e.1.id) ∷ r) more)

-- none is taken out of what is left
pub none_gone-settled : (es : Marks) → IsNoneGone (settled es)
none_gone-settled [] = tt
none_gone-settled (e ∷ es) = by e.1.is_gone refl (none_gone-settled es)
  where
    by : (b : Bool) → e.1.is_gone ≡ b → IsNoneGone (settled es) → IsNoneGone (settled (e ∷ es))
    by true q more = rw q more
    by false q more = rw q (refl, more)

-- .. and of what is brought back
pub none_gone-restored : (es : Marks) → IsNoneGone (restored es)
none_gone-restored [] = tt
none_gone-restored (e ∷ es) = (refl, none_gone-restored es)

-- .. and of what has one number more
pub none_gone-insert : (es : Marks) (path : PathValue) (id : FileId) → IsNoneGone es → IsNoneGone (with_mark es path id)
none_gone-insert [] path id h = (refl, tt)
none_gone-insert (e ∷ es) path id h = by (path_cmp path e.0) refl (none_gone-insert es path id h.1)
  where
    by : (r : Ordering) → path_cmp path e.0 ≡ r → IsNoneGone (with_mark es path id) →
        IsNoneGone (with_mark (e ∷ es) path id)
    by Less q more = rw q (refl, h)
    by Equal q more = rw q (refl, h.1)
    by Greater q more = rw q (h.0, more)

-- .. or of which that was refused
pub none_gone-inserted : {T E : Type 0} (r : Result T E) (es fs : Marks) (path : PathValue) (id : FileId) →
    OnOk r (fs ≡ with_mark es path id) → OnErr r (fs ≡ es) → IsNoneGone es → IsNoneGone fs
none_gone-inserted (Ok x) es fs path id ok err h = rw ok (none_gone-insert es path id h)
none_gone-inserted (Err x) es fs path id ok err h = rw err h

-- the numbers of what has one number more
pub numbers_of-insert : (es : Marks) (path : PathValue) (id : FileId) →
    numbers_of (with_mark es path id) ≡ with_number (numbers_of es) path id
numbers_of-insert [] path id = refl
numbers_of-insert (e ∷ es) path id = by (path_cmp path e.0) refl (numbers_of-insert es path id)
  where
    by : (r : Ordering) → path_cmp path e.0 ≡ r →
        numbers_of (with_mark es path id) ≡ with_number (numbers_of es) path id →
        numbers_of (with_mark (e ∷ es) path id) ≡ with_number (numbers_of (e ∷ es)) path id
    by Less q more = rw q refl
    by Equal q more = rw q refl
    by Greater q more = rw q (ap (λ (r : Numbers). (e.0, e.1.id) ∷ r) more)
