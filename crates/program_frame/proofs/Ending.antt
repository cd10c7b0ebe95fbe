-- How a program ends. The functions that read its words cite these.
use Rattle.std.proofs.Common.{◌≡◌, inr, ℕ, true, false, List}
use Rattle.std.specs.Prelude.{Ok, Err, Result, MatchResult, is_err}
use Rattle.clap.specs.declared.builder.command.Command.{Command}
use Rattle.clap.specs.declared.parser.matches.ArgMatches.{ArgMatches}
use Rattle.clap.specs.Words.{found_of}
use Rattle.program_frame.specs.Faults.{end_status}
use Rattle.program_frame.specs.Words.{EndsAt, IsCheckOfHints, IsReading}
use Rattle.program_frame.specs.declared.fault.Fault.{Fault}

-- what a run answers
abbrev Answer : Type 0
Answer = Result (Unit {0}) Fault

-- the words were read by the command line, if there is one
abbrev pub WereRead : {E : Type 0} → Result Command E → List (List ℕ) → Result ArgMatches ℕ → Type 0
WereRead command words result = MatchResult command (λ c. IsReading c words result) (λ _. result ≡ Err 4)

-- they have no hints to be read
pub refused : {E : Type 0} (command : Result Command E) (words : List (List ℕ)) (runs : ArgMatches → Answer → Type 0)
    (matches : ArgMatches) (checked : Answer) (status : ℕ) → WereRead command words (Ok matches)
    → IsCheckOfHints (found_of matches) checked → true ≡ is_err checked → status ≡ end_status checked
    → EndsAt command words runs status
refused (Ok c) words runs matches (Err fault) status reading check refuses ends =
    inr (matches, reading, (Err fault, check, ends))
refused (Ok c) words runs matches (Ok done) status reading check refuses ends = absurd (cc)
refused (Err e) words runs matches checked status reading check refuses ends = absurd (cc)

-- the program ran
pub ran : {E : Type 0} (command : Result Command E) (words : List (List ℕ)) (runs : ArgMatches → Answer → Type 0)
    (matches : ArgMatches) (checked answer : Answer) (status : ℕ) → WereRead command words (Ok matches)
    → IsCheckOfHints (found_of matches) checked → false ≡ is_err checked → runs matches answer
    → status ≡ end_status answer → EndsAt command words runs status
ran (Ok c) words runs matches (Ok done) answer status reading check passes run ends =
    inr (matches, reading, (Ok done, check, (answer, run, ends)))
ran (Ok c) words runs matches (Err fault) answer status reading check passes run ends = absurd (cc)
ran (Err e) words runs matches checked answer status reading check passes run ends = absurd (cc)
