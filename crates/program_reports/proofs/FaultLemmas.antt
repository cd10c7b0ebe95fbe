-- A program that followed folders and ended by a fault. The functions of programs that watch cite these.
use Rattle.std.proofs.Common.{◌≡◌, ◌⊎◌, ℕ, List, inl, inr, sym, ap, subst}
use Rattle.std.specs.Prelude.{Result, Ok, Err, OnErr, OnOk, IfErr, MatchResult}
use Rattle.program_frame.specs.declared.pace.Pace.{Pace}
use Rattle.program_frame.specs.declared.fault.Fault.{Fault}
use Rattle.notify_paths.specs.Path.{PathValue}
use Rattle.notify_types.specs.declared.event.RecursiveMode.{RecursiveMode}
use Rattle.program_frame.specs.Reports.Loop.{Follows, Program}
use Rattle.program_reports.specs.Folders.Start.{IsStartFault}
use Rattle.program_reports.specs.FollowsFolder.{FollowsFolder, OfReports, folder_source}

-- the fault of an answer, if it is one
abbrev fault_or : Fault → Result ℕ Fault → Fault
fault_or other (Ok value) = other
fault_or other (Err fault) = fault

-- the folders couldn't be watched, and the program is as it was; or it followed them until the fault came
pub ill_followed : {P A B : Type 0} (program : Program P) (pace : Pace) (paths : List PathValue)
    (mode : RecursiveMode) (p p' : P) (fault : Fault) → FollowsFolder pace paths mode program p (Err fault) p' →
    (p' ≡ p → A) → (OfReports pace paths mode (λ s. Follows folder_source program s p (Err fault) p') → B) →
    (IsStartFault fault × A) ⊎ B
ill_followed program pace paths mode p p' fault (inl never) same follows =
    inl (subst IsStartFault (sym (ap (fault_or fault) never.2)) never.1, same never.3)
ill_followed program pace paths mode p p' fault (inr run) same follows = inr (follows run)

-- what follows from what a call that failed has done is the second of two cases
pub on_err : {T E B C : Type 0} (A : E → Type 0) (result : Result T E) → (B → C) → OnErr result B →
    IfErr result (λ fault. A fault ⊎ C)
on_err A (Ok value) f h = h
on_err A (Err fault) f h = inr (f h)

-- what a call has done, whatever it answered, by its two outcomes
pub parted : {T A B C : Type 0} (D : Fault → Type 0) (result : Result T Fault) → (A → C) →
    ((fault : Fault) → B → D fault) → MatchResult result (λ _. A) (λ _. B) → OnOk result C × IfErr result D
parted D (Ok value) f g h = (f h, tt)
parted D (Err fault) f g h = (tt, g fault h)

-- what holds of a fault holds of an answer that is this fault
pub of_fault : {T : Type 0} (D : Fault → Type 0) (result : Result T Fault) (fault : Fault) → result ≡ Err fault →
    D fault → IfErr result D
of_fault D result fault is h = subst (λ r. IfErr r D) (sym is) h
