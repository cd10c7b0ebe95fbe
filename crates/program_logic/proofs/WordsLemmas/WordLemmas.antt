-- Words by their bytes, and the documents that have one. `has`, `try_clone` and `documents_with` cite these.
use Rattle.std.proofs.Common.{◌≡◌, ℕ, true, false, ◌||◌, List, [], ◌∷◌, map, refl, ap, ◌∙◌}
use Rattle.std.specs.BTreeMap.{is_at}
use Rattle.std.specs.BTreeSet.{insert_key}
use Rattle.std.specs.declared.cmp.Ordering.{Ordering}
use Rattle.std.specs.declared.cmp.Ordering.TheVariants.{Less, Equal, Greater}
use Rattle.std.specs.Cmp.Lexicographic.{slice_cmp}
use Rattle.std.specs.List.{AllZip, list_any}
use Rattle.std.specs.Ordering.{match_ordering, nat_cmp}
use Rattle.std.specs.Str.{bytes_eq}
use Rattle.std.proofs.lemmas.Map.Text.{is_eq-slice_cmp}
use Rattle.notify_paths.specs.Path.{PathValue}
use Rattle.program_logic.specs.Words.Index.{IndexValue, documents_with}
use Rattle.program_logic.specs.Words.{WordsValue, has_word}

-- a text is among texts if it is among their bytes
pub any_by_bytes : {T : Type 0} (bytes : T → List ℕ) (word : List ℕ) (ts : List T) →
    list_any (is_at (λ t. slice_cmp nat_cmp word (bytes t))) ts ≡ list_any (bytes_eq word) (map bytes ts)
any_by_bytes bytes word [] = refl
any_by_bytes bytes word (t ∷ ts) =
    ap (λ b. b || list_any (is_at (λ t. slice_cmp nat_cmp word (bytes t))) ts) (is_eq-slice_cmp word (bytes t))
    ∙ ap (λ b. bytes_eq word (bytes t) || b) (any_by_bytes bytes word ts)

-- a document that has the word comes before those behind it
pub where_word : (path : PathValue) (words : WordsValue) (rest : IndexValue) (word : List ℕ) →
    has_word words word ≡ true → documents_with ((path, words) ∷ rest) word ≡ path ∷ documents_with rest word
where_word path words rest word h = rw h refl

-- .. and one that hasn't is left out
pub where_no_word : (path : PathValue) (words : WordsValue) (rest : IndexValue) (word : List ℕ) →
    has_word words word ≡ false → documents_with ((path, words) ∷ rest) word ≡ documents_with rest word
where_no_word path words rest word h = rw h refl

-- a text that is inserted inserts its bytes
pub bytes_of-insert_key : {T : Type 0} (bytes : T → List ℕ) (ts : List T) (t : T) →
    map bytes (insert_key (λ a b. slice_cmp nat_cmp (bytes a) (bytes b)) ts t)
    ≡ insert_key (slice_cmp nat_cmp) (map bytes ts) (bytes t)
bytes_of-insert_key bytes [] t = refl
bytes_of-insert_key {T} bytes (x ∷ ts) t = by (slice_cmp nat_cmp (bytes t) (bytes x)) (bytes_of-insert_key bytes ts t)
  where
    by : (o : Ordering) → map bytes (insert_key (λ a b. slice_cmp nat_cmp (bytes a) (bytes b)) ts t)
        ≡ insert_key (slice_cmp nat_cmp) (map bytes ts) (bytes t) →
        map bytes (match_ordering o (t ∷ x ∷ ts) (x ∷ ts)
        (x ∷ insert_key (λ a b. slice_cmp nat_cmp (bytes a) (bytes b)) ts t))
        ≡ match_ordering o (bytes t ∷ bytes x ∷ map bytes ts) (bytes x ∷ map bytes ts)
        (bytes x ∷ insert_key (slice_cmp nat_cmp) (map bytes ts) (bytes t))
    by Less more = refl
    by Equal more = refl
    by Greater more = ap (λ ws. bytes x ∷ ws) more

-- clones of texts have their bytes
pub bytes_of-clones : {T : Type 0} (bytes : T → List ℕ) (ts us : List T) → AllZip (λ t u. bytes u ≡ bytes t) ts us →
    map bytes us ≡ map bytes ts
bytes_of-clones bytes [] [] same = refl
bytes_of-clones bytes [] (u ∷ us) same = elim same [ ]
bytes_of-clones bytes (t ∷ ts) [] same = elim same [ ]
bytes_of-clones bytes (t ∷ ts) (u ∷ us) same =
    ap (λ w. w ∷ map bytes us) same.0 ∙ ap (λ ws. bytes t ∷ ws) (bytes_of-clones bytes ts us same.1)
