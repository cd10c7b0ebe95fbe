-- A whole program that takes batches, from its words to its exit status.
use Rattle.std.specs.Prelude.{◌≡◌, ◌⊎◌, ◌*◌, ◌^◌, Bool, true, false, None, Some, ℕ, List, [], ◌∷◌, codes, unwrap_or, Result, Ok, Err, MatchResult}
use Rattle.std.specs.Duration.{as_nanos}
use Rattle.clap.specs.declared.parser.matches.ArgMatches.{ArgMatches}
use Rattle.clap.specs.Words.{first_value, found_of, one_text}
use Rattle.notify_paths.specs.PathText.{parts_of}
use Rattle.notify_types.specs.declared.event.RecursiveMode.TheVariants.{Recursive}
use Rattle.program_frame.specs.declared.pace.Pace.{Pace}
use Rattle.program_frame.specs.Pace.Words.{Gives}
use Rattle.program_frame.specs.declared.fault.Fault.{Fault}
use Rattle.program_frame.specs.declared.fault.Fault.TheVariants.{Incomplete, Memory, NotApart, NotThere}
use Rattle.program_frame.specs.declared.reports.batches.Places.{Places}
use Rattle.program_frame.specs.Reports.Batches.{Begins, EndsBy, Keeps, Takes, Wants, of_batches}
use Rattle.program_frame.specs.Reports.Loop.{Answer}
use Rattle.program_reports.specs.FollowsFolder.{FollowsFolder}

-- the names of the words that each such program has, in order; after them come its second place and `--until-eof`
abbrev pub option_ids : List (List ℕ)
option_ids = codes "place" ∷ codes "timeout" ∷ codes "interval" ∷ codes "hints" ∷ codes "hints-zero"
    ∷ codes "seconds" ∷ codes "ticks" ∷ []

-- an exit status that it may have
abbrev pub IsStatus : ℕ → Type 0
IsStatus status =
    ((status ≡ 0) ⊎ (status ≡ 1))
    ⊎ ((status ≡ 2) ⊎ ((status ≡ 4) ⊎ ((status ≡ 5) ⊎ ((status ≡ 6) ⊎ (status ≡ 8)))))

-- the places that the words name; a second one that they don't name is the empty path
abbrev pub named_places : ArgMatches → Places
named_places matches = record {
  folder = parts_of (unwrap_or (first_value (found_of matches) (codes "place")) []);
  second = parts_of (unwrap_or (first_value (found_of matches) (codes "second")) []);
}

-- why places are refused before anything is watched
abbrev pub IsRefusal : Fault → Type 0
IsRefusal fault = (fault ≡ Memory) ⊎ ((fault ≡ NotThere) ⊎ (fault ≡ NotApart))

-- the words say this timeout, in nanoseconds: so many milliseconds, or half a second if none says it
abbrev pub IsTimeout : ArgMatches → ℕ → Type 0
IsTimeout matches timeout =
    (one_text (found_of matches) (codes "timeout") ≡ None → timeout ≡ 500 * 10 ^ 6)
    × ((n : ℕ) → Gives matches (codes "timeout") n → timeout ≡ n * 10 ^ 6)

-- the words say whether what is there already is reported first
abbrev pub IsInitial : ArgMatches → Bool → Type 0
IsInitial matches initial =
    (one_text (found_of matches) (codes "initial") ≡ None → initial ≡ false)
    × (one_text (found_of matches) (codes "initial") ≡ Some (codes "true") → initial ≡ true)

-- the words say this pace: its timeout, and whether what is there already is reported first
abbrev pub IsPace : ArgMatches → Pace → Type 0
IsPace matches pace = IsTimeout matches (as_nanos pace.timeout) × IsInitial matches pace.initial

-- the program followed the folder that the words name, with all below it, with their timeout, and with initial events
-- if it wants them; and then took once more what it had asked for again; or a fault ended it before
abbrev pub RunsOver : {P : Type 0} → Begins P → Takes P → Wants P → ArgMatches → Keeps P → Answer → Keeps P → Type 0
RunsOver {P} begins takes wants matches before answer after =
    (pace : Pace) × (missed : Result ℕ Fault) × (last : Keeps P) × IsTimeout matches (as_nanos pace.timeout)
    × wants before.program pace.initial
    × FollowsFolder pace ((named_places matches).folder ∷ []) Recursive (of_batches begins takes) before missed last
    × MatchResult missed (λ _. EndsBy takes last answer after) (λ fault. (answer ≡ Err fault) × (after ≡ last))

-- how a program ends after a run: by its fault; if it went well, so too, or as one that couldn't do all, since there
-- are paths that couldn't be looked at when the watcher ended
abbrev pub EndsAfter : Answer → Answer → Type 0
EndsAfter run answer =
    MatchResult run (λ _. (answer ≡ Ok tt) ⊎ (answer ≡ Err Incomplete)) (λ fault. answer ≡ Err fault)

-- how the program ends at these matches: the places are refused; or it followed the folder that the words name, was
-- told the places that they name, had asked for nothing before, and ends as after that run
abbrev pub RunsFolder : {P : Type 0} → Begins P → Takes P → Wants P → P → ArgMatches → Answer → Type 0
RunsFolder {P} begins takes wants program matches answer =
    ((fault : Fault) × IsRefusal fault × (answer ≡ Err fault))
    ⊎ ((before : Keeps P) × (after : Keeps P) × (run : Answer) × (before.program ≡ program) × (before.waiting ≡ [])
    × (before.places ≡ named_places matches) × RunsOver begins takes wants matches before run after
    × EndsAfter run answer)
