-- Pairs that are put into the index in advance, and taken out again if they are no fronts.
use Rattle.std.proofs.Common.{◌≡◌, ℕ, Bool, true, false, cond, not, ◌&&◌, ◌||◌, refl, ap, sym, ◌∙◌, List, true≢false, ◌+◌, ◌<◌, ◌≤◌, drop, get_or, length}
use Rattle.std.specs.Bool.{◌==◌}
use Rattle.std.specs.BTreeMap.{is_at}
use Rattle.std.specs.BTreeSet.{contains}
use Rattle.notify_paths.specs.Path.{PathValue, path_cmp}
use Rattle.debounce_model.specs.Queues.{Queues}
use Rattle.debounce_model.proofs.Lists.{drop_all, drop_at}
use Rattle.debounce_queues.specs.Fronts.{front_cmp, has, is_front, IsIndexed}
use Rattle.debounce_queues.specs.Steps.{DifferAt, IsKept, IsSettled, IsSettledPair, IsWith, IsWithPair, is_pair, has_pair, TellApart}
use Rattle.debounce_queues.proofs.FrontLemmas.{Fronts, same_front}
use Rattle.debounce_queues.proofs.FrontMoves.{and_both, tied_path}
use Rattle.debounce_queues.proofs.FrontTicks.{flip_front, number_is}

-- a pair of t and p is of t and of p
pair_is : (k : ℕ × PathValue) (t : ℕ) (p : PathValue) (P : ℕ → PathValue → Type 0) → is_pair k t p ≡ true →
    P k.0 k.1 → P t p
pair_is k t p P h x =
    let both = and_both (t == k.0) (is_at (path_cmp p) k.1) (sym (same_front t k.0 p k.1) ∙ h) in
    rw (number_is t k.0 both.0, tied_path p k.1 both.1) x

-- a pair that is put in
pub put_in : (fs gs : Fronts) (k : ℕ × PathValue) →
    ((q : ℕ × PathValue) → contains front_cmp gs q
    ≡ cond (is_at (front_cmp k) q) true (contains front_cmp fs q)) → (t : ℕ) (p : PathValue) →
    has gs t p ≡ (is_pair k t p || has fs t p)
put_in fs gs k h t p = h (t, p) ∙ ap (λ b. cond b true (has fs t p)) (flip_front k (t, p))
    ∙ by (is_pair k t p) (has fs t p)
  where
    by : (a b : Bool) → cond a true b ≡ (a || b)
    by true b = refl
    by false b = refl

-- .. or was there
pub was_in : (fs : Fronts) (k : ℕ × PathValue) → has fs k.0 k.1 ≡ true → (t : ℕ) (p : PathValue) →
    has fs t p ≡ (is_pair k t p || has fs t p)
was_in fs k h t p = by (is_pair k t p) refl
  where
    by : (a : Bool) → is_pair k t p ≡ a → has fs t p ≡ (a || has fs t p)
    by true e = pair_is k t p (λ s q. has fs s q ≡ true) e h
    by false e = refl

-- of those put in and those that are left one more is put in
pub put_step : (x a b h i : Bool) → ((x || a) || h) ≡ (b || i) → (a || (x || h)) ≡ (b || i)
put_step true true b h i e = e
put_step true false b h i e = e
put_step false true b h i e = e
put_step false false b h i e = e

-- where all are put in but these, nothing else has changed
pub put_others : (a b h i : Bool) → (a || h) ≡ (b || i) → (i ≡ true → h ≡ true) → b ≡ false → h ≡ i
put_others a true h i e g n = absurd (true≢false n)
put_others true false h i e g n = g (sym e) ∙ e
put_others false false h i e g n = e

-- what was there is there with one more
pub still_in : (x h : Bool) → h ≡ true → (x || h) ≡ true
still_in true h e = refl
still_in false h e = e

-- a pair that is no front is taken out
pub taken_out : (m : Queues) (fs gs : Fronts) (k : ℕ × PathValue) → is_front m k.0 k.1 ≡ false →
    ((q : ℕ × PathValue) → contains front_cmp gs q
    ≡ cond (is_at (front_cmp k) q) false (contains front_cmp fs q)) → (t : ℕ) (p : PathValue) →
    has gs t p ≡ ((is_front m t p || not (is_pair k t p)) && has fs t p)
taken_out m fs gs k n h t p = h (t, p) ∙ ap (λ b. cond b false (has fs t p)) (flip_front k (t, p))
    ∙ by (is_pair k t p) refl (is_front m t p) refl
  where
    by : (a : Bool) → is_pair k t p ≡ a → (f : Bool) → is_front m t p ≡ f → cond a false (has fs t p)
        ≡ ((f || not a) && has fs t p)
    by true e true q = absurd (true≢false (sym q ∙ pair_is k t p (λ s r. is_front m s r ≡ false) e n))
    by true e false q = refl
    by false e true q = refl
    by false e false q = refl

-- .. a front stays
pub left_in : (m : Queues) (fs : Fronts) (k : ℕ × PathValue) → is_front m k.0 k.1 ≡ true →
    (t : ℕ) (p : PathValue) → has fs t p ≡ ((is_front m t p || not (is_pair k t p)) && has fs t p)
left_in m fs k y t p = by (is_pair k t p) refl (is_front m t p) refl
  where
    by : (a : Bool) → is_pair k t p ≡ a → (f : Bool) → is_front m t p ≡ f →
        has fs t p ≡ ((f || not a) && has fs t p)
    by true e true q = refl
    by true e false q = absurd (true≢false (sym (pair_is k t p (λ s r. is_front m s r ≡ true) e y) ∙ q))
    by false e true q = refl
    by false e false q = refl

-- of those that are settled and those that are left one more is settled
pub settle_step : (f x a h r : Bool) → ((f || not (x || a)) && h) ≡ r → ((f || not a) && ((f || not x) && h))
    ≡ r
settle_step true x a h r e = e
settle_step false true true h r e = e
settle_step false true false h r e = e
settle_step false false true h r e = e
settle_step false false false h r e = e

-- after all are settled: no pair is left to settle
pub settle_end : (f h r : Bool) → ((f || true) && h) ≡ r → h ≡ r
settle_end true h r e = e
settle_end false h r e = e

module _ (xs : List (ℕ × PathValue)) (i : ℕ) (old now : Fronts) (put : (t : ℕ) (p : PathValue) →
    (has_pair (drop i xs) t p || has now t p) ≡ (has_pair xs t p || has old t p)) where
  -- with the next pair put in, the others are left
  pub next_put : (x : ℕ × PathValue) (new : Fronts) → i < length xs → x ≡ get_or xs i x → IsWithPair x now new →
      (t : ℕ) (p : PathValue) → (has_pair (drop (i + 1) xs) t p || has new t p)
      ≡ (has_pair xs t p || has old t p)
  next_put x new h is with t p =
      ap (λ b. has_pair (drop (i + 1) xs) t p || b) (with t p)
      ∙ put_step (is_pair x t p) (has_pair (drop (i + 1) xs) t p) (has_pair xs t p) (has now t p) (has old t p)
      (ap (λ ks. has_pair ks t p || has now t p) (sym (drop_at xs i x h is)) ∙ put t p)

  -- none is left
  pub all_put : length xs ≤ i → IsWith xs old now
  all_put end t p = ap (λ ks. has_pair ks t p || has now t p) (sym (drop_all xs i end)) ∙ put t p

  -- whatever is left, nothing else has changed
  pub others_same : IsKept old now → DifferAt xs old now
  others_same grown t p n =
      put_others (has_pair (drop i xs) t p) (has_pair xs t p) (has now t p) (has old t p) (put t p) (grown t p) n

module _ (m : Queues) (xs : List (ℕ × PathValue)) (i : ℕ) (old now : Fronts) (settled : (t : ℕ) (p : PathValue) →
    ((is_front m t p || not (has_pair (drop i xs) t p)) && has now t p)
    ≡ ((is_front m t p || not (has_pair xs t p)) && has old t p)) where
  -- with the next pair settled, the others are left
  pub next_settled : (x : ℕ × PathValue) (new : Fronts) → i < length xs → x ≡ get_or xs i x →
      IsSettledPair m x now new → (t : ℕ) (p : PathValue) →
      ((is_front m t p || not (has_pair (drop (i + 1) xs) t p)) && has new t p)
      ≡ ((is_front m t p || not (has_pair xs t p)) && has old t p)
  next_settled x new h is one t p =
      ap (λ b. (is_front m t p || not (has_pair (drop (i + 1) xs) t p)) && b) (one t p)
      ∙ settle_step (is_front m t p) (is_pair x t p) (has_pair (drop (i + 1) xs) t p) (has now t p)
      ((is_front m t p || not (has_pair xs t p)) && has old t p)
      (ap (λ ks. (is_front m t p || not (has_pair ks t p)) && has now t p) (sym (drop_at xs i x h is))
      ∙ settled t p)

  -- none is left
  pub all_settled : length xs ≤ i → IsSettled m xs old now
  all_settled end t p =
      settle_end (is_front m t p) (has now t p) ((is_front m t p || not (has_pair xs t p)) && has old t p)
      (ap (λ ks. (is_front m t p || not (has_pair ks t p)) && has now t p) (sym (drop_all xs i end)) ∙ settled t p)

module _ (fs gs hs : Fronts) (pairs : List (ℕ × PathValue)) (m n : Queues) (i : IsIndexed fs m)
    (settled : (t : ℕ) (p : PathValue) →
    has hs t p ≡ ((is_front n t p || not (has_pair pairs t p)) && has gs t p)) where
  -- the index has just the fronts after the change, where the pairs that tell the two apart were all put in
  pub settled_ok : ((t : ℕ) (p : PathValue) → has gs t p ≡ (has_pair pairs t p || has fs t p)) →
      TellApart pairs m n → (t : ℕ) (p : PathValue) → has hs t p ≡ is_front n t p
  settled_ok put apart t p = settled t p ∙ ap (λ b. (is_front n t p || not (has_pair pairs t p)) && b) (put t p
      ∙ ap (λ b. has_pair pairs t p || b) (i.exact t p))
      ∙ by (has_pair pairs t p) refl (is_front n t p) (is_front m t p) (apart t p)
    where
      by : (a : Bool) → has_pair pairs t p ≡ a → (f g : Bool) → (has_pair pairs t p ≡ false → f ≡ g) →
          ((f || not a) && (a || g)) ≡ f
      by true e true g h = refl
      by true e false g h = refl
      by false e true g h = sym (h e)
      by false e false g h = sym (h e)

  -- .. or before it, where it was refused
  pub settled_err : n ≡ m → ((t : ℕ) (p : PathValue) → has fs t p ≡ true → has gs t p ≡ true) →
      ((t : ℕ) (p : PathValue) → has_pair pairs t p ≡ false → has gs t p ≡ has fs t p) →
      (t : ℕ) (p : PathValue) → has hs t p ≡ is_front n t p
  settled_err same grown others t p = settled t p
      ∙ by (has_pair pairs t p) refl (is_front n t p) refl (has gs t p) refl
    where
      old : has fs t p ≡ is_front n t p
      old = i.exact t p ∙ ap (λ q. is_front q t p) (sym same)

      by : (a : Bool) → has_pair pairs t p ≡ a → (f : Bool) → is_front n t p ≡ f → (g : Bool) → has gs t p ≡ g →
          ((f || not a) && g) ≡ f
      by a e true q true r = refl
      by a e true q false r = absurd (true≢false (sym (grown t p (old ∙ q)) ∙ r))
      by true e false q g r = refl
      by false e false q g r = sym r ∙ others t p e ∙ old ∙ q
