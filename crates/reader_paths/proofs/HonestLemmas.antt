-- The folders of a path, the nearest first or last; and honest streams by their test.
use Rattle.std.proofs.Common.{◌≡◌, ◌∙◌, sym, ap, ℕ, zero, suc, ◌==◌, ◌-◌, List, [], ◌∷◌, ◌++◌, map, length, take, Bool, true, false, ◌&&◌, Option, None, Some, Result, Ok, Err, IfOk, refl, arith}
use Rattle.std.specs.Prelude.{IsTrue, ◌↔◌}
use Rattle.std.specs.List.{list_all}
use Rattle.std.proofs.lemmas.List.Folds.{list_all-append, list_all-map}
use Rattle.std.proofs.lemmas.Bool.{and_parts}
use Rattle.std.proofs.lemmas.Bool.Decides.{nat_tests}
use Rattle.notify_paths.specs.Path.{PathValue, PartValue}
use Rattle.notify_paths.specs.PathMoves.{first_parts, folders_above, IsNextFolder}
use Rattle.debounce_model.specs.Command.{CommandValue, ReplyValue}
use Rattle.debounce_model.specs.Honest.{folders_of, is_closed, are_honest}
use Rattle.debounce_model.specs.Play.{Paths, accepted}
use Rattle.reader_paths.specs.Stream.{is_honest, IsHonestStream}

-- the first parts of a path are those of what follows its first part, and the first part alone
first_cons : (n : ℕ) (a : PartValue) (p : PathValue) → first_parts (suc n) (a ∷ p)
    ≡ map (λ q. a ∷ q) (first_parts n p) ++ ((a ∷ []) ∷ [])
first_cons zero a p = refl
first_cons (suc n) a p = ap (λ l. (a ∷ take (suc n) p) ∷ l) (first_cons n a p)

and_comm : (a b : Bool) → (a && b) ≡ (b && a)
and_comm true true = refl
and_comm true false = refl
and_comm false true = refl
and_comm false false = refl

and_true : (a : Bool) → (a && true) ≡ a
and_true true = refl
and_true false = refl

-- the first parts of a path that has one more are its folders in the other order
first_alike : (f : PathValue → Bool) (n : ℕ) (p : PathValue) → length p ≡ suc n → list_all f (first_parts n p)
    ≡ list_all f (folders_of p)
first_alike f n [] h = absurd (omega (arith, h))
first_alike f zero (a ∷ []) h = refl
first_alike f (suc n) (a ∷ []) h = absurd (omega (arith, h))
first_alike f zero (a ∷ b ∷ p) h = absurd (omega (arith, h))
first_alike f (suc n) (a ∷ b ∷ p) h =
    let g : PathValue → Bool = λ q. f (a ∷ q) in
    let more : List PathValue = folders_of (b ∷ p) in
    ap (list_all f) (first_cons n a (b ∷ p))
    ∙ list_all-append f (map (λ q. a ∷ q) (first_parts n (b ∷ p))) ((a ∷ []) ∷ [])
    ∙ ap (λ t. t && (f (a ∷ []) && true)) (list_all-map f (λ q. a ∷ q) (first_parts n (b ∷ p))
    ∙ first_alike g n (b ∷ p) (omega (arith, h)) ∙ sym (list_all-map f (λ q. a ∷ q) more))
    ∙ ap (λ t. list_all f (map (λ q. a ∷ q) more) && t) (and_true (f (a ∷ [])))
    ∙ and_comm (list_all f (map (λ q. a ∷ q) more)) (f (a ∷ []))

-- the folders above a path are its folders in the other order
pub folders_alike : (f : PathValue → Bool) (p : PathValue) → list_all f (folders_above p)
    ≡ list_all f (folders_of p)
folders_alike f [] = refl
folders_alike f (a ∷ p) = first_alike f (length (a ∷ p) - 1) (a ∷ p) (omega arith)

-- the folders that a loop has before it, by the next of them
abbrev pub folders_from : Option PathValue → List PathValue
folders_from None = []
folders_from (Some folder) = folder ∷ folders_above folder

-- they are those whose next it is
pub folders_next : (folders : List PathValue) (next : Option PathValue) → IsNextFolder folders next →
    folders_from next ≡ folders
folders_next folders None h = sym h
folders_next folders (Some folder) h = sym h

-- a stream that passes the test is honest
pub honest_from : (s : Paths) (cs : List CommandValue) (rs : List ReplyValue) → is_honest s cs rs ≡ true →
    IsHonestStream s cs rs
honest_from s cs rs h =
    let one = and_parts (length cs == length rs) (is_closed s && are_honest s (accepted cs rs)) h in
    let two = and_parts (is_closed s) (are_honest s (accepted cs rs)) one.1 in
    let same : (length cs == length rs) ≡ true = one.0 in
    record { paired = grind (arith, nat_tests); honest = record { closed = two.0; events = two.1 } }

-- an honest stream passes the test
pub honest_to : (s : Paths) (cs : List CommandValue) (rs : List ReplyValue) → IsHonestStream s cs rs →
    is_honest s cs rs ≡ true
honest_to s cs rs h =
    let same : (length cs == length rs) ≡ true = grind (arith, nat_tests, h.paired) in
    rw (same, h.honest.closed, h.honest.events) refl

-- the test of a stream decides whether it is honest
pub honest_decides : (b : Bool) (s : Paths) (cs : List CommandValue) (rs : List ReplyValue) →
    b ≡ is_honest s cs rs → IsTrue b ↔ IsHonestStream s cs rs
honest_decides b s cs rs e = (λ t. honest_from s cs rs (sym e ∙ t), λ h. e ∙ honest_to s cs rs h)

-- with a reply for each command, from a closed set, the events decide
pub honest_by : (s : Paths) (cs : List CommandValue) (rs : List ReplyValue) → length cs ≡ length rs →
    is_closed s ≡ true → is_honest s cs rs ≡ are_honest s (accepted cs rs)
honest_by s cs rs e c =
    let same : (length cs == length rs) ≡ true = grind (arith, nat_tests) in
    rw (same, c) refl

-- without a reply for each command a stream is not honest
pub honest_unpaired : (s : Paths) (cs : List CommandValue) (rs : List ReplyValue) → ¬ (length cs ≡ length rs) →
    is_honest s cs rs ≡ false
honest_unpaired s cs rs n =
    let other : (length cs == length rs) ≡ false = grind (arith, nat_tests) in
    rw other refl

-- from a set that is not closed a stream is not honest
pub honest_open : (s : Paths) (cs : List CommandValue) (rs : List ReplyValue) → is_closed s ≡ false →
    is_honest s cs rs ≡ false
honest_open s cs rs c = by (length cs == length rs)
  where
    by : (b : Bool) → (b && (is_closed s && are_honest s (accepted cs rs))) ≡ false
    by true = rw c refl
    by false = refl

-- a test that is answered, by an equal one
pub value_by : {E : Type 0} (r : Result Bool E) (x y : Bool) → x ≡ y → IfOk r (λ b. b ≡ x) → IfOk r (λ b. b ≡ y)
value_by (Ok b) x y e h = h ∙ e
value_by (Err e) x y f h = h

-- .. which decides whether a stream is honest
pub decided_by : {E : Type 0} (r : Result Bool E) (s : Paths) (cs : List CommandValue) (rs : List ReplyValue) →
    IfOk r (λ b. b ≡ is_honest s cs rs) → IfOk r (λ b. IsTrue b ↔ IsHonestStream s cs rs)
decided_by (Ok b) s cs rs h = honest_decides b s cs rs h
decided_by (Err e) s cs rs h = h

-- a path of the set decides, and those behind it
pub all_first : (f : PathValue → Bool) (folder : PathValue) (b : Bool) → f folder ≡ b →
    list_all f (folders_from (Some folder)) ≡ (b && list_all f (folders_above folder))
all_first f folder b e = ap (λ t. t && list_all f (folders_above folder)) e
