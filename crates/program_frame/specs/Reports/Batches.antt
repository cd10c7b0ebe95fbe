-- A program that takes batches: what it is called with, and what becomes of the events that it asks for again.
use Rattle.std.specs.Prelude.{◌≡◌, ◌⊎◌, ◌++◌, ◌∷◌, [], Bool, List, Result, Ok, Err, Some, None, MatchResult, length, ◌==◌, false, if◌then◌else◌}
use Rattle.std.specs.declared.alloc.Global.{Global}
use Rattle.std.specs.declared.time.Duration.{Duration}
use Rattle.std.specs.declared.vec.Vec.{Vec}
use Rattle.notify_types.specs.Event.{Timed}
use Rattle.program_frame.specs.declared.fault.Fault.{Fault}
use Rattle.program_frame.specs.declared.fault.Fault.TheVariants.{Incomplete, Memory}
use Rattle.program_frame.specs.declared.reports.batches.Places.{Places}
use Rattle.program_frame.specs.declared.reports.batches.Taken.{Taken}
use Rattle.program_frame.specs.declared.reports.batches.Taken.TheVariants.{All, Again}
use Rattle.program_frame.specs.Reports.Loop.{Answer, Program}

-- a program, the places of its words, the events that it asked for again, and how long these wait
pub record Keeps (P : Type 0) : Type 0 where
  pub program : P
  pub places : Places
  pub waiting : List Timed
  pub pause : Duration

-- what a program is told of its places, and leaves
abbrev pub Begins : Type 0 → Type 1
Begins P = P → Places → Answer → P → Type 0

-- what a program answers to a batch, and leaves
abbrev pub Takes : Type 0 → Type 1
Takes P = P → Places → Vec Timed Global → Result Taken Fault → P → Type 0

-- what a program answers to whether it wants what is there already
abbrev pub Wants : Type 0 → Type 1
Wants P = P → Bool → Type 0

-- the events that are asked for again
abbrev pub again_of : Taken → List Timed
again_of All = []
again_of (Again events) = events.items

-- the call went well and left all as it was
abbrev pub Stays : {P : Type 0} → Keeps P → Answer → Keeps P → Type 0
Stays before answer after = (answer ≡ Ok tt) × (after ≡ before)

-- the places and the pause are as they were
abbrev pub IsSameLine : {P : Type 0} → Keeps P → Keeps P → Type 0
IsSameLine before after = (after.places ≡ before.places) × (after.pause ≡ before.pause)

-- the program was called with just these events, once; what it asks for again waits
abbrev pub TakesEvents : {P : Type 0} → Takes P → List Timed → Keeps P → Answer → Keeps P → Type 0
TakesEvents takes events before answer after =
    (batch : Vec Timed Global) × (taken : Result Taken Fault) × (batch.items ≡ events)
    × takes before.program before.places batch taken after.program × IsSameLine before after
    × MatchResult taken (λ done. (answer ≡ Ok tt) × (after.waiting ≡ again_of done)) (λ fault. answer ≡ Err fault)

-- the program was called with these events, or not at all if there are none
abbrev pub TakesIfSome : {P : Type 0} → Takes P → List Timed → Keeps P → Answer → Keeps P → Type 0
TakesIfSome takes [] before answer after = Stays before answer after
TakesIfSome takes (x ∷ xs) before answer after = TakesEvents takes (x ∷ xs) before answer after

-- events wait, and there is no memory to put a batch after them: the program was not called
abbrev pub LacksRoom : {P : Type 0} → Keeps P → Answer → Keeps P → Type 0
LacksRoom before answer after =
    ((length before.waiting == 0) ≡ false) × (answer ≡ Err Memory) × (after.program ≡ before.program)
    × IsSameLine before after

-- a batch is taken after the events that wait
abbrev pub TakesBatch : {P : Type 0} → Takes P → Vec Timed Global → Keeps P → Answer → Keeps P → Type 0
TakesBatch takes batch before answer after =
    TakesEvents takes (before.waiting ++ batch.items) before answer after ⊎ LacksRoom before answer after

-- at the end what waits was taken once more, and if something is asked for again then, not all could be done
abbrev pub EndsBy : {P : Type 0} → Takes P → Keeps P → Answer → Keeps P → Type 0
EndsBy takes before answer after =
    (last : Answer) × TakesIfSome takes before.waiting before last after
    × MatchResult last (λ _. answer ≡ (if length after.waiting == 0 then Ok tt else Err Incomplete))
    (λ fault. answer ≡ Err fault)

-- a program that takes batches follows reports: it takes each batch after what it asked for again, takes that alone
-- after a pause, and errors leave it as it is
abbrev pub of_batches : {P : Type 0} → Begins P → Takes P → Program (Keeps P)
of_batches begins takes = record {
  begins = λ before answer after. begins before.program before.places answer after.program
      × (after.waiting ≡ before.waiting) × IsSameLine before after;
  patience = λ keeps. if length keeps.waiting == 0 then None else Some keeps.pause;
  takes = λ before report answer after. MatchResult report
      (λ batch. TakesBatch takes batch before answer after) (λ errors. Stays before answer after);
  passes = λ before answer after. TakesIfSome takes before.waiting before answer after;
}
