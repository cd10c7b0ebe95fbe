-- Loops over a journal and over scripts: one more entry, one more copy.
use Rattle.std.proofs.Common.{◌≡◌, ◌≢◌, ◌∙◌, ℕ, ◌+◌, ◌-◌, ◌<◌, ◌≤◌, ◌==◌, Bool, true, false, cond, ◌&&◌, Some, None, List, [], ◌∷◌, ◌++◌, map, length, take, drop, get_or, refl, sym, ap, subst, arith}
use Rattle.std.proofs.lemmas.Bool.Decides.{Decides-eqb}
use Rattle.std.proofs.lemmas.List.{drop_more, map_push, take_all, take_more}
use Rattle.std.specs.Bool.{Decides}
use Rattle.std.specs.Cmp.Lexicographic.{pointwise, pointwise_decides}
use Rattle.std.specs.List.{AllByRecursion}
use Rattle.debounce_model.specs.Command.{CommandValue}
use Rattle.debounce_model.specs.Equality.{command_eq}
use Rattle.debounce_model.specs.EqualityLaws.{command_eq_decides}
use Rattle.debounce_book.specs.Journal.{EntryValue}
use Rattle.debounce_run.specs.Threads.Merged.{commands_from, stripped}

-- numbers that differ
differ : (x y : ℕ) → x ≢ y → (x == y) ≡ false
differ x y n = by (x == y) refl
  where
    by : (b : Bool) → (x == y) ≡ b → b ≡ false
    by true e = absurd (n ((Decides-eqb x y).0 e))
    by false e = refl

-- the commands of the script from place i on, whose entry comes from another script
pub commands_from-other : (k : ℕ) (es : List EntryValue) (i : ℕ) (e : EntryValue) → i < length es →
    e ≡ get_or es i e → e.from ≢ k → commands_from k (drop i es) ≡ commands_from k (drop (i + 1) es)
commands_from-other k es i e h is n =
    ap (commands_from k) (drop_more es i e h ∙ ap (λ (x : EntryValue). x ∷ drop (i + 1) es) (sym is))
    ∙ rw (differ e.from k n) refl

-- .. whose entry comes from it
pub commands_from-one : (k : ℕ) (es : List EntryValue) (i : ℕ) (e : EntryValue) → i < length es →
    e ≡ get_or es i e → e.from ≡ k → commands_from k (drop i es) ≡ e.command ∷ commands_from k (drop (i + 1) es)
commands_from-one k es i e h is n =
    ap (commands_from k) (drop_more es i e h ∙ ap (λ (x : EntryValue). x ∷ drop (i + 1) es) (sym is))
    ∙ rw ((Decides-eqb e.from k).1 n) refl

-- commands agree with those of a script if the first does and the others do
pub pointwise-stripped : (c : CommandValue) (cs ds more : List CommandValue) → stripped ds c ≡ Some more →
    pointwise command_eq (c ∷ cs) ds ≡ pointwise command_eq cs more
pointwise-stripped c cs [] more h = cc
pointwise-stripped c cs (d ∷ ds) more h = by (command_eq c d) refl h
  where
    by : (b : Bool) → command_eq c d ≡ b → cond b (Some ds) None ≡ Some more →
        (command_eq c d && pointwise command_eq cs ds) ≡ pointwise command_eq cs more
    by true e h = rw e (ap (pointwise command_eq cs) cc)
    by false e h = cc

-- .. and else they don't
pub pointwise-unstripped : (c : CommandValue) (cs ds : List CommandValue) → stripped ds c ≡ None →
    pointwise command_eq (c ∷ cs) ds ≡ false
pointwise-unstripped c cs [] h = refl
pointwise-unstripped c cs (d ∷ ds) h = by (command_eq c d) refl h
  where
    by : (b : Bool) → command_eq c d ≡ b → cond b (Some ds) None ≡ None →
        (command_eq c d && pointwise command_eq cs ds) ≡ false
    by true e h = cc
    by false e h = rw e refl

-- a command that is the first is stripped
pub stripped-first : {X : Type 0} (f : X → CommandValue) (xs : List X) (x : X) (first : CommandValue) →
    1 ≤ length xs → x ≡ get_or xs 0 x → command_eq first (f x) ≡ true →
    Some (map f (take (length xs - 1) (drop 1 xs))) ≡ stripped (map f xs) first
stripped-first f [] x first l is e = absurd (omega (arith, l))
stripped-first f (y ∷ xs) x first l is e =
    let all : take (length (y ∷ xs) - 1) xs ≡ xs = take_all (length (y ∷ xs) - 1) xs (omega arith) in
    let same : command_eq first (f y) ≡ true = ap (λ z. command_eq first (f z)) (sym is) ∙ e in
    rw (all, same) refl

-- .. and another isn't
pub unstripped-first : {X : Type 0} (f : X → CommandValue) (xs : List X) (x : X) (first : CommandValue) →
    1 ≤ length xs → x ≡ get_or xs 0 x → command_eq first (f x) ≡ false → None ≡ stripped (map f xs) first
unstripped-first f [] x first l is e = absurd (omega (arith, l))
unstripped-first f (y ∷ xs) x first l is e =
    let other : command_eq first (f y) ≡ false = ap (λ z. command_eq first (f z)) (sym is) ∙ e in
    rw other refl

-- .. nor one of no commands
pub stripped-none : {X : Type 0} (f : X → CommandValue) (xs : List X) (first : CommandValue) → length xs < 1 →
    None ≡ stripped (map f xs) first
stripped-none f [] first l = refl
stripped-none f (x ∷ xs) first l = absurd (omega (arith, l))

-- no commands agree with those of a script that is used up
pub pointwise-none : {X : Type 0} (f : X → CommandValue) (xs : List X) → pointwise command_eq [] (map f xs)
    ≡ (length xs == 0)
pointwise-none f [] = refl
pointwise-none f (x ∷ xs) = sym (differ (length (x ∷ xs)) 0 (λ h. absurd (omega arith)))

-- the test of lists of commands decides whether they are one
pub decided : (cs ds : List CommandValue) (b : Bool) → pointwise command_eq cs ds ≡ b → Decides b (cs ≡ ds)
decided cs ds b h = subst (λ (x : Bool). Decides x (cs ≡ ds)) h (pointwise_decides command_eq_decides cs ds)

-- one more element meets what all so far meet
pub all-more : {X : Type 0} (P : X → Type 0) (xs : List X) (i : ℕ) (x : X) → i < length xs → x ≡ get_or xs i x →
    AllByRecursion P (take i xs) → P x → AllByRecursion P (take (i + 1) xs)
all-more P xs i x h is all here =
    subst (λ (l : List _). AllByRecursion P l) (sym (take_more xs i x h
    ∙ ap (λ (y : _). take i xs ++ y ∷ []) (sym is))) (push (take i xs) all)
  where
    push : (ys : List _) → AllByRecursion P ys → AllByRecursion P (ys ++ x ∷ [])
    push [] a = (here, tt)
    push (y ∷ ys) a = (a.0, push ys a.1)

-- one more copy of the same value
pub copied-more : {X Y : Type 0} (f : X → Y) (copies xs : List X) (i : ℕ) (copy x : X) → i < length xs →
    x ≡ get_or xs i x → f copy ≡ f x → map f copies ≡ map f (take i xs) → map f (copies ++ copy ∷ [])
    ≡ map f (take (i + 1) xs)
copied-more f copies xs i copy x h is same so_far =
    map_push f copies copy
    ∙ ap (λ (l : List _). l ++ f copy ∷ []) so_far
    ∙ ap (λ (y : _). map f (take i xs) ++ y ∷ []) same
    ∙ sym (map_push f (take i xs) x)
    ∙ ap (map f) (ap (λ (y : _). take i xs ++ y ∷ []) is ∙ sym (take_more xs i x h))
