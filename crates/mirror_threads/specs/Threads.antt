-- What a run in threads prints, and with which status it ends.
use Rattle.std.specs.Prelude.{◌≡◌, ◌⊎◌, ◌<◌, ◌-◌, ℕ, nat_eq, Bool, true, false, List, ◌++◌, codes, drop, length, slice_index_or, if◌then◌else◌, Option, IfSome}
use Rattle.std.specs.Fmt.{decimal}
use Rattle.std.specs.Io.KnownBytes.{Appends}
use Rattle.std.specs.List.{All, AllZip, Contains, count_by, starts_with, sum_by}
use Rattle.debounce_model.specs.Command.{CommandValue, EventCommand, ErrorCommand, RootCommand, UnrootCommand, ErrorsCommand, TickCommand}
use Rattle.mirror_run.specs.Script.Faults.{fault_status}
use Rattle.mirror_run.specs.Script.{ScriptValue, Reads, script_of}
use Rattle.mirror_run.specs.Script.ScriptView.{IsFaulty}
use Rattle.mirror_run.specs.declared.script.fault.Fault.{Fault}
use Rattle.mirror_run.specs.declared.script.fault.Fault.TheVariants.{CannotRead, NotCommand, Memory, NoThread}
use Rattle.mirror_threads.specs.declared.stop.Stop.{Stop}
use Rattle.mirror_threads.specs.declared.stop.Stop.TheVariants.{Faulty, Timeouts}

-- what each reader gives, if it is known
abbrev pub Given : Type 0
Given = List (Option (List ℕ))

-- a line begins at this place of the text
abbrev pub BeginsLine : List ℕ → ℕ → Type 0
BeginsLine text at = (at ≡ 0) ⊎ (slice_index_or text (at - 1) 0 ≡ 10)

-- a line of the text begins with the word `counts`
abbrev pub HasCounts : List ℕ → Type 0
HasCounts text =
    (at : ℕ) × (at < length text) × BeginsLine text at × (starts_with nat_eq (drop at text) (codes "counts") ≡ true)

-- the script without counts that the bytes are, if they are known
abbrev pub IsGiven : Option (List ℕ) → ScriptValue → Type 0
IsGiven bytes script = IfSome bytes (λ text. (script_of text ≡ Reads script) × (HasCounts text → ⊥))

-- the scripts that the readers give, in order
abbrev pub AreGiven : Given → List ScriptValue → Type 0
AreGiven given scripts = AllZip IsGiven given scripts

-- the scripts have this timeout, each
abbrev pub HaveTimeout : List ScriptValue → ℕ → Type 0
HaveTimeout scripts timeout = All (λ script. script.timeout ≡ timeout) scripts

-- the readers give scripts of one timeout
abbrev pub AreRead : Given → List ScriptValue → Type 0
AreRead given scripts = AreGiven given scripts × ((timeout : ℕ) × HaveTimeout scripts timeout)

-- the bytes, if they are known, are no script, or one that has counts
abbrev pub IsUnfit : Option (List ℕ) → Type 0
IsUnfit bytes = IfSome bytes (λ text. IsFaulty text ⊎ HasCounts text)

-- the readers give scripts of one timeout, without counts
abbrev pub AreScripts : Given → Type 0
AreScripts given = (scripts : List ScriptValue) × AreRead given scripts

-- one of the readers gives no script, or one that has counts
abbrev pub IsOneUnfit : Given → Type 0
IsOneUnfit given = (bytes : Option (List ℕ)) × Contains given bytes × IsUnfit bytes

-- the readers give scripts that differ in timeout
abbrev pub DifferInTimeout : Given → Type 0
DifferInTimeout given =
    (scripts : List ScriptValue) × AreGiven given scripts × ((timeout : ℕ) → HaveTimeout scripts timeout → ⊥)

-- the readers don't give scripts of one timeout, without counts
abbrev pub IsUnread : Given → Type 0
IsUnread given = IsOneUnfit given ⊎ DifferInTimeout given

-- a fault of one reader that ends a run
abbrev pub IsPlainFault : Option (List ℕ) → Fault → Type 0
IsPlainFault bytes CannotRead = Unit {0}
IsPlainFault bytes (NotCommand line) = IsUnfit bytes
IsPlainFault bytes Memory = Unit {0}
IsPlainFault bytes other = ⊥

-- why a run stops at one reader
abbrev pub IsPlainStop : Option (List ℕ) → Stop → Type 0
IsPlainStop bytes (Faulty name fault) = IsPlainFault bytes fault
IsPlainStop bytes Timeouts = ⊥

-- the exit status of a run that stops
abbrev pub stop_status : Stop → ℕ
stop_status (Faulty name fault) = fault_status fault
stop_status Timeouts = 3

-- a fault that ends a run before it prints anything
abbrev pub IsEarlyFault : Given → Fault → Type 0
IsEarlyFault given CannotRead = Unit {0}
IsEarlyFault given (NotCommand line) = IsOneUnfit given
IsEarlyFault given Memory = Unit {0}
IsEarlyFault given NoThread = Unit {0}
IsEarlyFault given other = ⊥

-- why a run stops before it prints anything
abbrev pub IsEarlyStop : Given → Stop → Type 0
IsEarlyStop given (Faulty name fault) = IsEarlyFault given fault
IsEarlyStop given Timeouts = DifferInTimeout given

-- why a run of scripts that were read stops before it prints anything
abbrev pub IsThreadsStop : Stop → Type 0
IsThreadsStop (Faulty name Memory) = Unit {0}
IsThreadsStop (Faulty name NoThread) = Unit {0}
IsThreadsStop other = ⊥

-- why a run stops: the output failed after the scripts were read, or nothing has been printed
abbrev pub IsStop : Given → Option (List ℕ) → Option (List ℕ) → Stop → Type 0
IsStop given old new stop =
    ((stop_status stop ≡ 6) × AreScripts given) ⊎ (IsEarlyStop given stop × (new ≡ old))

-- a run that stops early ends with one of these
abbrev pub IsEarlyStatus : ℕ → Type 0
IsEarlyStatus n = (n ≡ 1) ⊎ ((n ≡ 3) ⊎ ((n ≡ 4) ⊎ (n ≡ 8)))

-- a run in threads ends with one of these
abbrev pub IsThreadsStatus : ℕ → Type 0
IsThreadsStatus n = (n ≡ 0) ⊎ ((n ≡ 7) ⊎ ((n ≡ 6) ⊎ IsEarlyStatus n))

-- the last word: the replies are the same, or they differ
abbrev pub last_word : Bool → List ℕ
last_word same = if same then codes "same" else codes "differs"

-- the command is an event
abbrev pub is_event : CommandValue → Bool
is_event (EventCommand event now exists) = true
is_event (ErrorCommand error) = false
is_event (RootCommand path mode) = false
is_event (UnrootCommand path) = false
is_event ErrorsCommand = false
is_event (TickCommand now) = false

-- how many commands the scripts have
abbrev pub command_count : List ScriptValue → ℕ
command_count scripts = sum_by (λ script. length script.commands) scripts

-- how many of them are events
abbrev pub event_count : List ScriptValue → ℕ
event_count scripts = sum_by (λ script. count_by is_event script.commands) scripts

-- the three lines of a run
abbrev pub threads_lines : ℕ → ℕ → Bool → List ℕ
threads_lines commands events same =
    codes "entries "
    ++ (decimal commands
    ++ (codes "\ntaken " ++ (decimal events ++ (codes "\nreplay " ++ (last_word same ++ codes "\n")))))

-- the three lines of a run of the scripts that were read are printed
abbrev pub PrintsLines : Given → Option (List ℕ) → Option (List ℕ) → Bool → Type 0
PrintsLines given old new same =
    (scripts : List ScriptValue) × AreRead given scripts
    × Appends old new (threads_lines (command_count scripts) (event_count scripts) same)
