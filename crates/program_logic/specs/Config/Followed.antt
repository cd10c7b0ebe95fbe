-- What a program does that reads a file again whenever a report may be about it.
use Rattle.std.specs.Prelude.{◌≡◌, ℕ, Bool, true, false, not, ◌==◌, List, [], ◌∷◌, ◌++◌, Option, None, Some, Ok, Err, MatchResult, map}
use Rattle.std.specs.List.{list_any}
use Rattle.notify_paths.specs.Path.{PathValue}
use Rattle.program_frame.specs.FaultRuns.Until.{GaveSome}
use Rattle.program_frame.specs.Reports.Gave.{Gave}
use Rattle.program_frame.specs.Reports.Loop.{Answer, Source, Step}
use Rattle.program_logic.specs.Config.Reading.{GivesText, Shows}
use Rattle.program_logic.specs.Config.Touched.{touches}
use Rattle.program_logic.specs.declared.config.reloader.Reloader.{Reloader}

-- what reads the file, what is in force, and what was printed
pub record Following (F : Type 0) : Type 0 where
  pub files : F
  pub reloader : Reloader
  pub printed : Option (List ℕ)

-- .. of these
abbrev pub following : {F : Type 0} → F → Reloader → Option (List ℕ) → Following F
following files reloader printed = record { files = files; reloader = reloader; printed = printed }

-- the file was read, and what it gave at that moment was taken
abbrev pub Reads : {F : Type 0} → GivesText F → PathValue → Following F → Answer → Following F → Type 0
Reads gives file old answer new =
    (given : Option (List ℕ)) × gives old.files file given new.files
    × Shows given old.reloader old.printed answer new.reloader new.printed

-- .. if that was asked for, and else nothing was done
abbrev pub ReadsIf : {F : Type 0} → GivesText F → PathValue → Bool → Following F → Answer → Following F → Type 0
ReadsIf gives file true old answer new = Reads gives file old answer new
ReadsIf gives file false old answer new = (answer ≡ Ok tt) × (new ≡ old)

-- .. for each of these, one after the other, until a fault came
abbrev pub ReadsEach : {F : Type 0} → GivesText F → PathValue → List Bool → Following F → Answer → Following F →
    Type 0
ReadsEach gives file [] old answer new = (answer ≡ Ok tt) × (new ≡ old)
ReadsEach {F} gives file (asked ∷ more) old answer new =
    (first : Answer) × (between : Following F) × ReadsIf gives file asked old first between
    × MatchResult first (λ _. ReadsEach gives file more between answer new)
    (λ fault. (answer ≡ Err fault) × (new ≡ between))

-- a report asks for a reading if it may be about the file; errors and a pause don't
abbrev pub asks : PathValue → Step → Bool
asks file (Some (Ok batch)) = list_any (touches file) batch.items
asks file (Some (Err errors)) = false
asks file None = false

-- what asks for readings, in order: the beginning, each report, and the end if some were lost
abbrev pub asked_in : PathValue → List Step → Bool → List Bool
asked_in file steps some_lost = true ∷ (map (asks file) steps ++ some_lost ∷ [])

-- the file was read at first, after each report of the source that may be about it and before the next one, and at the
-- end if some were lost; and at no other time
abbrev pub ReadsToEnd : {S F : Type 0} → Source S → S → GivesText F → PathValue → Following F → Following F → Type 0
ReadsToEnd source reports gives file old new =
    (lost : ℕ) × (steps : List Step) × Gave source reports steps lost
    × ReadsEach gives file (asked_in file steps (not (lost == 0))) old (Ok tt) new

-- so it was with what the source gave until a fault came, which can have come at the last of these readings
abbrev pub ReadsSome : {S F : Type 0} → Source S → S → GivesText F → PathValue → Following F → Following F → Type 0
ReadsSome source reports gives file old new =
    (steps : List Step) × (some_lost : Bool) × (answer : Answer) × GaveSome source reports steps
    × ReadsEach gives file (asked_in file steps some_lost) old answer new
