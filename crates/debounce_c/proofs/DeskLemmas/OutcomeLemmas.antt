-- What comes of a call whose step is known, and which else lacked memory.
use Rattle.std.proofs.Common.{◌≡◌, ◌∙◌, ℕ, Bool, Option, None, Some, true, refl, sym, ap, subst, inl, inr}
use Rattle.std.specs.Prelude.{⊤, Result, Ok, Err, OnOk, IfErr}
use Rattle.debounce_c.specs.Desk.Answers.{Answers, AnswersFor, Outcome}
use Rattle.debounce_c.specs.Desk.Codes.{answer_code, fault_code}
use Rattle.debounce_c.specs.Desk.{DeskValue}
use Rattle.debounce_c.specs.declared.desk.fault.Fault.{Fault}
use Rattle.debounce_c.specs.declared.desk.fault.Fault.TheVariants.{NoMemory}

-- a call without a fault: two facts that make its step, or want of memory, and all is as it was
pub stepped : (result : Result (Unit {0}) Fault) (fault : Option Fault) (Step : DeskValue → Type 0) (s t : DeskValue)
    (P Q : Type 0) → fault ≡ None → (P → Q → Step t) → OnOk result P → OnOk result Q →
    IfErr result (λ f. (f ≡ NoMemory) × (t ≡ s)) → Outcome result fault true Step (λ f. ⊤) s t
stepped (Ok done) fault Step s t P Q none step p q err = (none, step p q)
stepped (Err f) fault Step s t P Q none step p q err = (rw none (err.0, refl), (tt, err.1))

-- what came of a call is what it answers
answered : (result : Result (Unit {0}) Fault) (fault : Option Fault) (needs : Bool) (Step : DeskValue → Type 0)
    (Kept : Fault → Type 0) (s t : DeskValue) (code : ℕ) → code ≡ answer_code result →
    Outcome result fault needs Step Kept s t → AnswersFor code fault needs Step Kept s (Some t)
answered (Ok done) None needs Step Kept s t code is (none, step) = inl (t, is, refl, step)
answered (Ok done) (Some g) needs Step Kept s t code is (none, step) = cc
answered (Err f) None needs Step Kept s t code is (fault, kept) =
    inr (is ∙ ap fault_code fault.0, fault.1, (subst Kept fault.0 kept.0, ap (λ d. Some d) kept.1))
answered (Err f) (Some g) needs Step Kept s t code is (fault, kept) =
    (is ∙ ap fault_code fault, (subst Kept fault kept.0, ap (λ d. Some d) kept.1))

-- .. of the handle that held the debouncer and holds it
pub answers : (result : Result (Unit {0}) Fault) (fault : DeskValue → Option Fault) (needs : DeskValue → Bool)
    (Step : DeskValue → DeskValue → Type 0) (Kept : Fault → Type 0) (s t : DeskValue) (code : ℕ)
    (old new : Option DeskValue) → Some s ≡ old → new ≡ Some t → code ≡ answer_code result →
    Outcome result (fault s) (needs s) (Step s) Kept s t → Answers code fault needs Step Kept old new
answers result fault needs Step Kept s t code old new held holds is outcome =
    subst (λ (o : Option DeskValue). Answers code fault needs Step Kept o new) held
    (subst (λ (n : Option DeskValue). Answers code fault needs Step Kept (Some s) n) (sym holds)
    (answered result (fault s) (needs s) (Step s) Kept s t code is outcome))
