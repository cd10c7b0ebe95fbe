-- What the words after the program's name ask for.
use Rattle.std.specs.Prelude.{ℕ, Bool, List, [], ◌∷◌, ◌&&◌, nat_eq, nat_lt, codes, Option, None, Some, if◌then◌else◌}
use Rattle.std.specs.List.{starts_with}
use Rattle.std.specs.Str.{bytes_eq}
use Rattle.mirror_run.specs.Script.{number_of}

-- a form of the program, with the name of a script, or with a folder and a number of ticks, or with scripts
pub data FormValue : Type 0 where
  RunForm : (name : List ℕ) → FormValue
  CheckForm : (name : List ℕ) → FormValue
  WatchForm : (folder : List ℕ) → (ticks : ℕ) → FormValue
  ThreadsForm : FormValue

-- the first word begins with two dashes, and so is no script
abbrev pub is_option : List ℕ → Bool
is_option word = starts_with nat_eq word (codes "--")

-- a number of ticks from 1 to 100000
abbrev pub are_ticks : ℕ → Bool
are_ticks ticks = nat_lt 0 ticks && nat_lt ticks 100001

-- the number, if it is one of ticks
abbrev pub ticks_in : Option ℕ → Option ℕ
ticks_in None = None
ticks_in (Some ticks) = if are_ticks ticks then Some ticks else None

-- the number of ticks that a word writes
abbrev pub ticks_of : List ℕ → Option ℕ
ticks_of word = ticks_in (number_of 128 word)

-- the form of one word: a script, unless it is an option
abbrev pub script_form : List ℕ → Option FormValue
script_form name = if is_option name then None else Some (RunForm name)

-- the form of two words or more of which this is the first, if it is none of the others
abbrev pub threads_form : List ℕ → Option FormValue
threads_form word = if bytes_eq word (codes "--threads") then Some ThreadsForm else None

-- a folder with this number of ticks, if there is one
abbrev pub watched_for : List ℕ → Option ℕ → Option FormValue
watched_for folder None = None
watched_for folder (Some ticks) = Some (WatchForm folder ticks)

-- the form of two words: a script whose stream is checked, or one in a thread
abbrev pub check_form : List ℕ → List ℕ → Option FormValue
check_form word name = if bytes_eq word (codes "--check") then Some (CheckForm name) else threads_form word

-- the form of three words: a folder that is watched for so many ticks, or scripts in threads
abbrev pub watch_form : List ℕ → List ℕ → List ℕ → Option FormValue
watch_form word folder ticks = if bytes_eq word (codes "--watch") then watched_for folder (ticks_of ticks)
    else threads_form word

-- the form that these words ask for: one script; `--check` and one script; `--watch`, a folder and a number; or
-- `--threads` and one script or more
abbrev pub form_of : List (List ℕ) → Option FormValue
form_of [] = None
form_of (name ∷ []) = script_form name
form_of (word ∷ name ∷ []) = check_form word name
form_of (word ∷ folder ∷ ticks ∷ []) = watch_form word folder ticks
form_of (word ∷ name ∷ next ∷ more ∷ words) = threads_form word
