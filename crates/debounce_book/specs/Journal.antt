-- Journals: the commands that a debouncer accepted, with its replies, in order.
use Rattle.std.specs.Prelude.{◌≡◌, ◌≢◌, ◌-◌, ◌^◌, ℕ, Bool, true, false, List, [], ◌∷◌, ◌++◌}
use Rattle.debounce_model.specs.Command.{CommandValue, EventCommand, ErrorCommand, RootCommand, UnrootCommand, ErrorsCommand, TickCommand, ReplyValue, TakenReply, NotedReply, RootedReply, UnrootedReply, ErrorsReply, BatchReply}
use Rattle.debounce_model.specs.Roots.{with_root, without_roots}
use Rattle.debounce_model.specs.State.{State, empty_state, with_error, without_errors}
use Rattle.debounce_model.specs.Table.{event_step}
use Rattle.debounce_model.specs.Tick.{IsBatch, ticked_state}

-- an accepted command with its reply, and the number of the script that it came from
pub record EntryValue : Type 0 where
  pub from : ℕ
  pub command : CommandValue
  pub reply : ReplyValue

-- in s the command is accepted with this reply, in which the cache's answer stands, and leaves t
abbrev pub Accepts : State → CommandValue → ReplyValue → State → Type 0
Accepts s (EventCommand event now exists) (TakenReply answer) t =
    (s.taken ≢ 2 ^ 64 - 1) × (t ≡ event_step s event now exists answer)
Accepts s (ErrorCommand error) NotedReply t = t ≡ with_error s error
Accepts s (RootCommand path mode) RootedReply t = t ≡ record s { roots = with_root s.roots path mode }
Accepts s (UnrootCommand path) UnrootedReply t = t ≡ record s { roots = without_roots s.roots path }
Accepts s ErrorsCommand (ErrorsReply errors) t = (errors ≡ s.errors) × (t ≡ without_errors s)
Accepts s (TickCommand now) (BatchReply batch) t = IsBatch s now batch × (t ≡ ticked_state s now batch)
Accepts s command reply t = ⊥

-- from s on, the commands of the journal are accepted with their replies, and the last one leaves t
abbrev pub Replays : State → List EntryValue → State → Type 0
Replays s [] t = t ≡ s
Replays s (e ∷ es) t = (m : State) × Accepts s e.command e.reply m × Replays m es t

-- a legal journal of this state: it leads there from the empty state with the same timeout
abbrev pub IsLegal : List EntryValue → State → Type 0
IsLegal es s = Replays (empty_state s.timeout) es s

-- a legal journal of some state with this timeout
abbrev pub IsJournal : ℕ → List EntryValue → Type 0
IsJournal timeout es = (s : State) × (s.timeout ≡ timeout) × IsLegal es s

-- a part of a journal up to this state: it goes on from the state to which the entries before it led, and with them
-- it is a legal journal
pub record IsPart (es : List EntryValue) (s : State) : Type 0 where
  pub before : List EntryValue
  pub begun : State
  pub led : IsLegal before begun
  pub goes_on : Replays begun es s
  pub legal : IsLegal (before ++ es) s

-- the entries lead to this state: as a legal journal if they are all, and else as a part of one
abbrev pub LeadsTo : Bool → List EntryValue → State → Type 0
LeadsTo true es s = IsLegal es s
LeadsTo false es s = IsPart es s
