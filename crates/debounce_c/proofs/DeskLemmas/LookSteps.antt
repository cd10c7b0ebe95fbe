-- What comes of a call of a look, from what its step is known to be.
use Rattle.std.proofs.Common.{◌≡◌, ℕ, Bool, true, false, Option, Some, None, length, refl, sym, subst, inl, inr, true≢false}
use Rattle.std.specs.Prelude.{⊤, Result, Ok, Err, OnOk, IfErr, nat_lt, if◌then◌else◌}
use Rattle.std.specs.Map.{keys_of}
use Rattle.poll_listing.specs.Changes.{LeadsTo}
use Rattle.listing_looks.specs.Looks.{ended, news, said}
use Rattle.debounce_c.specs.Desk.Answers.{Outcome}
use Rattle.debounce_c.specs.Desk.Looks.{Ends, IsLateFault, IsPlaceFault, LateOutcome, LeavesLook, end_fault}
use Rattle.debounce_c.specs.Desk.{DeskValue}
use Rattle.debounce_c.specs.declared.desk.fault.Fault.{Fault}
use Rattle.debounce_c.specs.declared.desk.fault.Fault.TheVariants.{NoFolder, NoMemory}

-- a path that has no place, or want of memory
late_fault : (there : Bool) (f : Fault) → IsPlaceFault there f →
    IsLateFault None (if there then None else Some NoFolder) f
late_fault true f (inl memory) = memory
late_fault true f (inr (folder, lacks)) = absurd (true≢false lacks)
late_fault false f (inl memory) = inl memory
late_fault false f (inr (folder, lacks)) = inr folder

-- something was found, or had no place, or there was no memory
pub found_outcome : (result : Result (Unit {0}) Fault) (fault : Option Fault) (there : Bool) (Step : DeskValue → Type 0)
    (s t : DeskValue) → fault ≡ None → OnOk result (Step t) → IfErr result (λ f. IsPlaceFault there f × (t ≡ s)) →
    LateOutcome result fault (if there then None else Some NoFolder) Step s t
found_outcome (Ok done) fault there Step s t none step err = (none, step)
found_outcome (Err f) fault there Step s t none step err = rw none (late_fault there f err.0, err.1)

-- something was said, or there was no memory
pub said_outcome : (result : Result (Unit {0}) Fault) (fault : Option Fault) (Step : DeskValue → Type 0)
    (s t : DeskValue) → fault ≡ None → OnOk result (Step t) → IfErr result (λ f. (f ≡ NoMemory) × (t ≡ s)) →
    Outcome result fault true Step (λ f. ⊤) s t
said_outcome (Ok done) fault Step s t none step err = (none, step)
said_outcome (Err f) fault Step s t none step err = (rw none (err.0, refl), (tt, err.1))

-- a look has ended
pub ended_step : (s t : DeskValue) (many : ℕ) → nat_lt s.looker.handed (length s.looker.told) ≡ false →
    t ≡ record s { looker = ended s.looker } →
    LeadsTo (keys_of s.looker.known) (keys_of (said s.looker)) (news s.looker) → many ≡ length (news s.looker) →
    (end_fault s ≡ None) × (LeavesLook Ends s t × (many ≡ length t.looker.told))
ended_step s t many waits is leads count =
    subst (λ (t : DeskValue). (end_fault s ≡ None) × (LeavesLook Ends s t × (many ≡ length t.looker.told))) (sym is)
    (rw waits refl, ((record { waits = waits; is = refl; leads = leads }, refl), count))
