-- How many queues are due: one fewer, once one of them is trimmed.
use Rattle.std.proofs.Common.{◌≡◌, ℕ, ◌+◌, ◌≤◌, Bool, true, false, cond, ◌||◌, refl, ap, sym, ◌∙◌, arith, Some, List, [], ◌∷◌, length, true≢false}
use Rattle.std.specs.Map.{lookup, set_value, remove_entry}
use Rattle.notify_paths.specs.Path.{PathValue}
use Rattle.notify_types.specs.Event.{Timed}
use Rattle.debounce_model.specs.Queues.{Queues}
use Rattle.debounce_model.specs.Due.{is_front_due, is_any_due, due_fronts}

-- one more queue
abbrev pub count_of : Bool → ℕ → ℕ
count_of true n = n + 1
count_of false n = n

pub due_step : (due : Timed → Bool) (e : PathValue × List Timed) (es : Queues) → due_fronts due (e ∷ es)
    ≡ count_of (is_front_due due e.1) (due_fronts due es)
due_step due e es = by (is_front_due due e.1) refl
  where
    by : (b : Bool) → is_front_due due e.1 ≡ b → due_fronts due (e ∷ es) ≡ count_of b (due_fronts due es)
    by true h = rw h (omega arith)
    by false h = rw h refl

one_more : (b : Bool) (m n : ℕ) → m ≡ n + 1 → count_of b m ≡ count_of b n + 1
one_more true m n h = rw h refl
one_more false m n h = h

-- a queue that is due is cut to what isn't
pub count-set : (due : Timed → Bool) (es : Queues) (test : PathValue → Bool) (q w : List Timed) →
    lookup test es ≡ Some q → is_front_due due q ≡ true → is_front_due due w ≡ false →
    due_fronts due es ≡ due_fronts due (set_value test es w) + 1
count-set due [] test q w h d n = cc
count-set due (e ∷ es) test q w h d n = by (test e.0) refl (count-set due es test q w)
  where
    by : (b : Bool) → test e.0 ≡ b → (lookup test es ≡ Some q → is_front_due due q ≡ true → is_front_due due w
        ≡ false → due_fronts due es ≡ due_fronts due (set_value test es w) + 1) → due_fronts due (e ∷ es)
        ≡ due_fronts due (cond b ((e.0, w) ∷ es) (e ∷ set_value test es w)) + 1
    by true t more =
        let same : Some e.1 ≡ Some q = rw t at h in
        let is : e.1 ≡ q = cc in
        due_step due e es ∙ ap (λ r. count_of (is_front_due due r) (due_fronts due es)) is
        ∙ ap (λ b. count_of b (due_fronts due es)) d
        ∙ ap (λ k. k + 1) (sym (due_step due (e.0, w) es ∙ ap (λ b. count_of b (due_fronts due es)) n))
    by false t more =
        due_step due e es
        ∙ one_more (is_front_due due e.1) (due_fronts due es) (due_fronts due (set_value test es w))
        (more (rw t at h) d n) ∙ ap (λ k. k + 1) (sym (due_step due e (set_value test es w)))

-- .. or taken out
pub count-gone : (due : Timed → Bool) (es : Queues) (test : PathValue → Bool) (q : List Timed) →
    lookup test es ≡ Some q → is_front_due due q ≡ true →
    due_fronts due es ≡ due_fronts due (remove_entry test es) + 1
count-gone due [] test q h d = cc
count-gone due (e ∷ es) test q h d = by (test e.0) refl (count-gone due es test q)
  where
    by : (b : Bool) → test e.0 ≡ b → (lookup test es ≡ Some q → is_front_due due q ≡ true →
        due_fronts due es ≡ due_fronts due (remove_entry test es) + 1) → due_fronts due (e ∷ es)
        ≡ due_fronts due (cond b es (e ∷ remove_entry test es)) + 1
    by true t more =
        let same : Some e.1 ≡ Some q = rw t at h in
        let is : e.1 ≡ q = cc in
        due_step due e es ∙ ap (λ r. count_of (is_front_due due r) (due_fronts due es)) is
        ∙ ap (λ b. count_of b (due_fronts due es)) d
    by false t more =
        due_step due e es
        ∙ one_more (is_front_due due e.1) (due_fronts due es) (due_fronts due (remove_entry test es))
        (more (rw t at h) d) ∙ ap (λ k. k + 1) (sym (due_step due e (remove_entry test es)))

-- where no queue is due, there is none to count
pub count_none : (due : Timed → Bool) (es : Queues) → is_any_due due es ≡ false → due_fronts due es ≡ 0
count_none due [] h = refl
count_none due (e ∷ es) h = by (is_front_due due e.1) refl (count_none due es)
  where
    by : (b : Bool) → is_front_due due e.1 ≡ b → (is_any_due due es ≡ false → due_fronts due es ≡ 0) →
        due_fronts due (e ∷ es) ≡ 0
    by true d more = let no : true ≡ false = rw d at h in absurd (true≢false no)
    by false d more = due_step due e es ∙ ap (λ b. count_of b (due_fronts due es)) d ∙ more (rw d at h)

-- no more than all are due
pub count_most : (due : Timed → Bool) (es : Queues) → due_fronts due es ≤ length es
count_most due [] = omega arith
count_most due (e ∷ es) = by (is_front_due due e.1) refl (count_most due es)
  where
    by : (b : Bool) → is_front_due due e.1 ≡ b → due_fronts due es ≤ length es →
        due_fronts due (e ∷ es) ≤ length (e ∷ es)
    by true d more = let s : due_fronts due (e ∷ es) ≡ due_fronts due es + 1 = due_step due e es
        ∙ ap (λ b. count_of b (due_fronts due es)) d in omega (arith, s, more)
    by false d more = let s : due_fronts due (e ∷ es) ≡ due_fronts due es = due_step due e es
        ∙ ap (λ b. count_of b (due_fronts due es)) d in omega (arith, s, more)

-- nothing is due, in a slot or a queue
pub quiet_count : (due : Timed → Bool) (b : Bool) (es : Queues) → (b || is_any_due due es) ≡ false →
    due_fronts due es ≡ 0
quiet_count due true es h = absurd (true≢false h)
quiet_count due false es h = count_none due es h
