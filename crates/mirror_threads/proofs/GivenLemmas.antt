-- Readers that are read one after the other, and what is counted of their scripts.
use Rattle.std.proofs.Common.{◌≡◌, ◌∙◌, ◌⊎◌, inl, inr, ℕ, ◌+◌, ◌<◌, Bool, true, false, cond, List, [], ◌∷◌, ◌++◌, Option, Some, None, IfSome, ap, arith, drop, get_or, length, map, set, subst, sym, take}
use Rattle.std.proofs.lemmas.List.{drop_more, drop-set-lt, get_or-map, length-map, map_more, map_push}
use Rattle.std.proofs.lemmas.List.Elements.{All-get_or, All-push, All-same}
use Rattle.std.proofs.lemmas.List.Sums.{sum_by_push}
use Rattle.std.specs.List.{All, AllZip, Contains, count_by, sum_by}
use Rattle.mirror_run.specs.Script.Faults.{IsReadFault}
use Rattle.mirror_run.specs.Script.{ScriptValue}
use Rattle.mirror_run.specs.Script.ScriptView.{IsFaulty}
use Rattle.mirror_run.specs.declared.script.fault.Fault.{Fault}
use Rattle.mirror_run.specs.declared.script.fault.Fault.TheVariants.{Usage, NotUtf8, CannotRead, NotCommand, Memory, CannotWatch, OutputFailed, NoThread}
use Rattle.mirror_threads.specs.declared.stop.Stop.{Stop}
use Rattle.mirror_threads.specs.declared.stop.Stop.TheVariants.{Faulty, Timeouts}
use Rattle.mirror_threads.specs.Threads.{AreGiven, HasCounts, IsEarlyFault, IsEarlyStop, IsGiven, IsPlainFault, IsPlainStop}

-- one element more, and one more beside it
all_zip-push : {A B : Type 0} (R : A → B → Type 0) (xs : List A) (ys : List B) (x : A) (y : B) → AllZip R xs ys →
    R x y → AllZip R (xs ++ x ∷ []) (ys ++ y ∷ [])
all_zip-push R [] [] x y all here = (here, tt)
all_zip-push R [] (b ∷ ys) x y all here = absurd all
all_zip-push R (a ∷ xs) [] x y all here = absurd all
all_zip-push R (a ∷ xs) (b ∷ ys) x y all here = (all.0, all_zip-push R xs ys x y all.1 here)

-- what holds of the bytes that were read holds of those that the reader gives, if they are known
pub known : (P : List ℕ → Type 0) (given : Option (List ℕ)) (bytes : List ℕ) → IfSome given (λ text. bytes ≡ text) →
    P bytes → IfSome given P
known P None bytes is p = tt
known P (Some text) bytes is p = subst P is p

-- a fault of a text is one of a script without counts
pub plain_fault : (text : List ℕ) (fault : Fault) → IsReadFault (Some text) fault → IsPlainFault (Some text) fault
plain_fault text Usage h = absurd h
plain_fault text NotUtf8 h = absurd h
plain_fault text CannotRead h = tt
plain_fault text (NotCommand line) fails = inl (line, fails)
plain_fault text Memory h = tt
plain_fault text CannotWatch h = absurd h
plain_fault text OutputFailed h = absurd h
plain_fault text NoThread h = absurd h

-- .. of the bytes that were read
pub known_fault : (given : Option (List ℕ)) (bytes : List ℕ) (fault : Fault) →
    IfSome given (λ text. bytes ≡ text) → IsPlainFault (Some bytes) fault → IsPlainFault given fault
known_fault given bytes Usage is h = absurd h
known_fault given bytes NotUtf8 is h = absurd h
known_fault given bytes CannotRead is h = tt
known_fault given bytes (NotCommand line) is unfit = known (λ text. IsFaulty text ⊎ HasCounts text) given bytes is unfit
known_fault given bytes Memory is h = tt
known_fault given bytes CannotWatch is h = absurd h
known_fault given bytes OutputFailed is h = absurd h
known_fault given bytes NoThread is h = absurd h

module _ {X : Type 0} (xs ys : List X) (i : ℕ) where
  -- what comes next is what was there at first, if it is so from here on
  pub next_same : (x : X) → i < length xs → i < length ys → drop i xs ≡ drop i ys → x ≡ get_or xs i x →
      x ≡ get_or ys i x
  next_same x h k e is =
      let p = drop_more xs i x h in
      let q = drop_more ys i x k in
      cc

  -- .. and it is so after it, whatever becomes of it
  pub rest_same : (y : X) → i < length xs → i < length ys → drop i xs ≡ drop i ys →
      drop (i + 1) (set xs i y) ≡ drop (i + 1) ys
  rest_same y h k e =
      let p = drop_more xs i y h in
      let q = drop_more ys i y k in
      let r = drop-set-lt (i + 1) xs i y (omega arith) in
      cc

module _ {X Y : Type 0} (v : X → Y) (xs : List X) (i : ℕ) (x : X) (h : i < length xs) (is : x ≡ get_or xs i x) where
  -- what each value has, the value of an element has
  pub value_has : (P : Y → Type 0) → All P (map v xs) → P (v x)
  value_has P all =
      subst P (get_or-map v xs i x (v x) h ∙ ap v (sym is))
      (All-get_or P (map v xs) i (v x) (rw length-map h) all)

  -- the value of an element is among the values
  pub value_among : Contains (map v xs) (v x)
  value_among = (i, rw length-map h, get_or-map v xs i x (v x) h ∙ ap v (sym is))

  -- what the values so far have, and one more
  pub all-more : (P : Y → Type 0) → All P (map v (take i xs)) → P (v x) → All P (map v (take (i + 1) xs))
  all-more P so_far here =
      All-same P (map v (take (i + 1) xs)) (map v (take i xs) ++ v x ∷ [])
      (map_more v xs i x h ∙ ap (λ (y : X). map v (take i xs) ++ v y ∷ []) (sym is))
      (All-push P (map v (take i xs)) (v x) so_far here)

  -- a sum over one value more
  pub sum-more : (f : Y → ℕ) → sum_by f (map v (take (i + 1) xs)) ≡ sum_by f (map v (take i xs)) + f (v x)
  sum-more f =
      ap (sum_by f) (map_more v xs i x h)
      ∙ sum_by_push f (map v (take i xs)) (v (get_or xs i x))
      ∙ ap (λ (y : X). sum_by f (map v (take i xs)) + f (v y)) (sym is)

  -- a count of one value more, which passes
  pub count-yes : (p : Y → Bool) → p (v x) ≡ true → count_by p (map v (take (i + 1) xs))
      ≡ count_by p (map v (take i xs)) + 1
  count-yes p e = sum-more (λ y. cond (p y) 1 0)
      ∙ ap (λ (b : Bool). count_by p (map v (take i xs)) + cond b 1 0) e

  -- .. and of one that doesn't
  pub count-no : (p : Y → Bool) → p (v x) ≡ false → count_by p (map v (take (i + 1) xs))
      ≡ count_by p (map v (take i xs))
  count-no p e =
      let m = sum-more (λ y. cond (p y) 1 0)
      ∙ ap (λ (b : Bool). count_by p (map v (take i xs)) + cond b 1 0) e in
      omega (arith, m)

module _ {R : Type 0} (f : R → Option (List ℕ)) (readers : List R) (i : ℕ) (reader : R)
    (h : i < length readers) (is : reader ≡ get_or readers i reader) where
  -- one reader more gives one script more
  pub given_more : {S : Type 0} (v : S → ScriptValue) (scripts : List S) (script : S) →
      AreGiven (map f (take i readers)) (map v scripts) → IsGiven (f reader) (v script) →
      AreGiven (map f (take (i + 1) readers)) (map v (scripts ++ script ∷ []))
  given_more v scripts script so_far here =
      let more : map f (take (i + 1) readers) ≡ map f (take i readers) ++ f reader ∷ [] =
      map_more f readers i reader h ∙ ap (λ (r : R). map f (take i readers) ++ f r ∷ []) (sym is) in
      subst (λ (l : List (Option (List ℕ))). AreGiven l (map v (scripts ++ script ∷ []))) (sym more)
      (subst (λ (l : List ScriptValue). AreGiven (map f (take i readers) ++ f reader ∷ []) l)
      (sym (map_push v scripts script))
      (all_zip-push IsGiven (map f (take i readers)) (map v scripts) (f reader) (v script) so_far here))

  -- the fault of one reader ends the run
  pub one_faulty : (fault : Fault) → IsPlainFault (f reader) fault → IsEarlyFault (map f readers) fault
  one_faulty Usage h = absurd h
  one_faulty NotUtf8 h = absurd h
  one_faulty CannotRead h = tt
  one_faulty (NotCommand line) unfit = (f reader, value_among f readers i reader h is, unfit)
  one_faulty Memory h = tt
  one_faulty CannotWatch h = absurd h
  one_faulty OutputFailed h = absurd h
  one_faulty NoThread h = absurd h

  -- .. as does what stops it there
  pub one_stops : (stop : Stop) → IsPlainStop (f reader) stop → IsEarlyStop (map f readers) stop
  one_stops (Faulty name fault) is = one_faulty fault is
  one_stops Timeouts h = absurd h
