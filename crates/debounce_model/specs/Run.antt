-- Runs of commands.
use Rattle.std.specs.Prelude.{◌≡◌, true, List, [], ◌∷◌}
use Rattle.notify_paths.specs.Errors.{out_of_memory}
use Rattle.debounce_model.specs.Cache.{Rules}
use Rattle.debounce_model.specs.Command.{CommandValue, EventCommand, ErrorCommand, RootCommand, UnrootCommand, ErrorsCommand, TickCommand, ReplyValue, TakenReply, NotedReply, RootedReply, UnrootedReply, ErrorsReply, BatchReply, RefusedReply}
use Rattle.debounce_model.specs.State.{Core, with_state, with_error, without_errors}
use Rattle.debounce_model.specs.Step.{IsTaken, IsRefused, IsRooted, IsRootRefused, IsUnrooted, IsUnrootRefused}
use Rattle.debounce_model.specs.Tick.{IsBatch, after_tick, is_due}

module _ {C : Type 0} where
  -- from s the command may have this reply and leave t
  abbrev pub Step : Rules C → Core C → CommandValue → ReplyValue → Core C → Type 0
  Step r s (EventCommand event now exists) (TakenReply answer) t =
      IsTaken r s event now exists t × (answer ≡ t.answer)
  Step r s (EventCommand event now exists) (RefusedReply error) t = IsRefused r s event exists error t
  Step r s (ErrorCommand error) NotedReply t =
      t ≡ with_state s (with_error s.state error)
  Step r s (ErrorCommand error) (RefusedReply refusal) t = (refusal ≡ out_of_memory) × (t ≡ s)
  Step r s (RootCommand path mode) RootedReply t = IsRooted r s path mode t
  Step r s (RootCommand path mode) (RefusedReply error) t = IsRootRefused r s path mode error t
  Step r s (UnrootCommand path) UnrootedReply t = IsUnrooted r s path t
  Step r s (UnrootCommand path) (RefusedReply error) t = IsUnrootRefused r s path error t
  Step r s ErrorsCommand (ErrorsReply errors) t =
      (errors ≡ s.state.errors) × (t ≡ with_state s (without_errors s.state))
  Step r s (TickCommand now) (BatchReply batch) t =
      IsBatch s.state now batch × (t ≡ after_tick s now batch)
  Step r s (TickCommand now) (RefusedReply error) t = (error ≡ out_of_memory) × (is_due s.state now ≡ true)
      × (t ≡ s)
  Step r s command reply t = ⊥

  -- one reply a command, each with a step
  abbrev pub Run : Rules C → Core C → List CommandValue → List ReplyValue → Core C → Type 0
  Run r s [] [] t = t ≡ s
  Run r s [] (reply ∷ replies) t = ⊥
  Run r s (command ∷ commands) [] t = ⊥
  Run r s (command ∷ commands) (reply ∷ replies) t =
      (m : Core C) × Step r s command reply m × Run r m commands replies t
