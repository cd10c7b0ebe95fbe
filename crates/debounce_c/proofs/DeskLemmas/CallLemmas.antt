-- Calls that were made in turn are a run of the core, also as its state sees it, and what they begin with.
use Rattle.std.proofs.Common.{◌≡◌, ◌∙◌, ℕ, true, not, List, [], ◌∷◌, refl, sym, ap, subst, arith}
use Rattle.std.specs.List.{list_all}
use Rattle.std.specs.List.Sorted.{IsStrictlySortedBy}
use Rattle.notify_paths.specs.Path.{path_cmp}
use Rattle.debounce_model.specs.Command.{CommandValue, ReplyValue}
use Rattle.debounce_model.specs.Run.{Run}
use Rattle.debounce_model.specs.State.{Core, State, empty_state}
use Rattle.debounce_model.specs.WellFormed.{IsWellFormed}
use Rattle.debounce_laws.proofs.StateRuns.{StateRun}
use Rattle.debounce_c.specs.Numbered.Numbers.{Numbers, said_numbers, with_numbers}
use Rattle.debounce_c.specs.Desk.Calls.{CallValue, Feeds, Notes, Watches, Unwatches, Asks, Ticks, Says, FeedsNext, Forgets, Keeps, Looks, Reads, IsRenumbered, MakesAll, RunsBetween, changes_numbers, commands_of}
use Rattle.debounce_c.specs.Desk.{DeskValue}

-- none of the calls changes the numbers
abbrev pub IsConstant : List CallValue → Type 0
IsConstant calls = list_all (λ call. not (changes_numbers call)) calls ≡ true

-- calls that were made in turn, none of which changed the numbers, are a run
pub runs : (calls : List CallValue) (replies : List ReplyValue) (s t : DeskValue) → IsConstant calls →
    MakesAll calls replies s t → Run said_numbers s.core (commands_of calls) replies t.core
runs [] replies s t same (none, is) = rw none (ap (λ d. d.core) is)
runs (Feeds event now exists ∷ calls) replies s t same (m, rest, split, made, more) =
    rw split (m.core, (made.0, refl), runs calls rest m t same more)
runs (Notes error ∷ calls) replies s t same (m, rest, split, made, more) =
    rw split (m.core, ap (λ d. d.core) made, runs calls rest m t same more)
runs (Watches path mode ∷ calls) replies s t same (m, rest, split, made, more) =
    rw split (m.core, made.0, runs calls rest m t same more)
runs (Unwatches path ∷ calls) replies s t same (m, rest, split, made, more) =
    rw split (m.core, made.0, runs calls rest m t same more)
runs (Asks ∷ calls) replies s t same (m, rest, split, made, more) =
    rw split (m.core, (ap (λ d. d.errors) made.1.rest, ap (λ d. d.core) made.1.rest), runs calls rest m t same more)
runs (Ticks now ∷ calls) replies s t same (m, rest, split, made, more) =
    rw split (m.core, (made.1.batch, ap (λ d. d.core) made.1.rest), runs calls rest m t same more)
runs (Says path id ∷ calls) replies s t same made = cc
runs (Forgets path ∷ calls) replies s t same made = cc
runs (Keeps on ∷ calls) replies s t same (m, rest, split, made, more) =
    rw split
    (subst (λ (k : Core Numbers). Run said_numbers k (commands_of calls) rest t.core)
    (ap (λ (d : DeskValue). d.core) made) (runs calls rest m t same more))
runs (Looks call ∷ calls) replies s t same (m, rest, split, made, more) =
    rw split
    (subst (λ (k : Core Numbers). Run said_numbers k (commands_of calls) rest t.core)
    (ap (λ (d : DeskValue). d.core) made.1) (runs calls rest m t same more))
runs (FeedsNext event now ∷ calls) replies s t same (m, rest, split, made, more) =
    rw split (m.core, (made.taken, refl), runs calls rest m t same more)
runs (Reads ∷ calls) replies s t same (m, rest, split, made, more) =
    rw split
    (subst (λ (k : Core Numbers). Run said_numbers k (commands_of calls) rest t.core) made.0
    (runs calls rest m t same more))

-- where only the numbers have changed, what goes on goes on
renumbered : (commands : List CommandValue) (replies : List ReplyValue) (s m t : Core Numbers) → IsRenumbered s m →
    RunsBetween m commands replies t → RunsBetween s commands replies t
renumbered [] [] s m t is more = more ∙ ap (λ (k : Core Numbers). with_numbers k t.cache) is
renumbered [] (reply ∷ replies) s m t is more = more
renumbered (command ∷ commands) [] s m t is more = more
renumbered (command ∷ commands) (reply ∷ replies) s m t is (k, n, was, step, rest) =
    (k, n, was ∙ ap (λ (j : Core Numbers). with_numbers j k.cache) is, step, rest)

-- calls that were made in turn are a run between whose steps the numbers may change
pub runs_between : (calls : List CallValue) (replies : List ReplyValue) (s t : DeskValue) → MakesAll calls replies s t →
    RunsBetween s.core (commands_of calls) replies t.core
runs_between [] replies s t (none, is) = rw (none, is) refl
runs_between (Feeds event now exists ∷ calls) replies s t (m, rest, split, made, more) =
    rw split (s.core, m.core, refl, (made.0, refl), runs_between calls rest m t more)
runs_between (Notes error ∷ calls) replies s t (m, rest, split, made, more) =
    rw split (s.core, m.core, refl, ap (λ d. d.core) made, runs_between calls rest m t more)
runs_between (Watches path mode ∷ calls) replies s t (m, rest, split, made, more) =
    rw split (s.core, m.core, refl, made.0, runs_between calls rest m t more)
runs_between (Unwatches path ∷ calls) replies s t (m, rest, split, made, more) =
    rw split (s.core, m.core, refl, made.0, runs_between calls rest m t more)
runs_between (Asks ∷ calls) replies s t (m, rest, split, made, more) =
    rw split (
      s.core,
      m.core,
      refl,
      (ap (λ d. d.errors) made.1.rest, ap (λ d. d.core) made.1.rest),
      runs_between calls rest m t more,
    )
runs_between (Ticks now ∷ calls) replies s t (m, rest, split, made, more) =
    rw split
    (s.core, m.core, refl, (made.1.batch, ap (λ d. d.core) made.1.rest), runs_between calls rest m t more)
runs_between (Says path id ∷ calls) replies s t (m, rest, split, made, more) =
    rw split
    (renumbered (commands_of calls) rest s.core m.core t.core (rw made refl) (runs_between calls rest m t more))
runs_between (Forgets path ∷ calls) replies s t (m, rest, split, made, more) =
    rw split
    (renumbered (commands_of calls) rest s.core m.core t.core (rw made refl) (runs_between calls rest m t more))
runs_between (Keeps on ∷ calls) replies s t (m, rest, split, made, more) =
    rw split
    (subst (λ (k : Core Numbers). RunsBetween k (commands_of calls) rest t.core)
    (ap (λ (d : DeskValue). d.core) made) (runs_between calls rest m t more))
runs_between (Looks call ∷ calls) replies s t (m, rest, split, made, more) =
    rw split
    (subst (λ (k : Core Numbers). RunsBetween k (commands_of calls) rest t.core)
    (ap (λ (d : DeskValue). d.core) made.1) (runs_between calls rest m t more))
runs_between (FeedsNext event now ∷ calls) replies s t (m, rest, split, made, more) =
    rw split (s.core, m.core, refl, (made.taken, refl), runs_between calls rest m t more)
runs_between (Reads ∷ calls) replies s t (m, rest, split, made, more) =
    rw split
    (subst (λ (k : Core Numbers). RunsBetween k (commands_of calls) rest t.core) made.0
    (runs_between calls rest m t more))

-- .. and of its state
pub state_runs : (calls : List CallValue) (replies : List ReplyValue) (s t : DeskValue) → MakesAll calls replies s t →
    StateRun s.core.state (commands_of calls) replies t.core.state
state_runs [] replies s t (none, is) = rw none (ap (λ d. d.core.state) is)
state_runs (Feeds event now exists ∷ calls) replies s t (m, rest, split, made, more) =
    rw split (m.core.state, made.0.state, state_runs calls rest m t more)
state_runs (Notes error ∷ calls) replies s t (m, rest, split, made, more) =
    rw split (m.core.state, ap (λ d. d.core.state) made, state_runs calls rest m t more)
state_runs (Watches path mode ∷ calls) replies s t (m, rest, split, made, more) =
    rw split (m.core.state, ap (λ (k : Core Numbers). k.state) made.0.0, state_runs calls rest m t more)
state_runs (Unwatches path ∷ calls) replies s t (m, rest, split, made, more) =
    rw split (m.core.state, ap (λ (k : Core Numbers). k.state) made.0.0, state_runs calls rest m t more)
state_runs (Asks ∷ calls) replies s t (m, rest, split, made, more) =
    rw split (m.core.state, ap (λ d. d.core.state) made.1.rest, state_runs calls rest m t more)
state_runs (Ticks now ∷ calls) replies s t (m, rest, split, made, more) =
    rw split (m.core.state, (made.1.batch, ap (λ d. d.core.state) made.1.rest), state_runs calls rest m t more)
state_runs (Says path id ∷ calls) replies s t (m, rest, split, made, more) =
    rw split
    (subst (λ (k : State). StateRun k (commands_of calls) rest t.core.state) (ap (λ d. d.core.state) made)
    (state_runs calls rest m t more))
state_runs (Forgets path ∷ calls) replies s t (m, rest, split, made, more) =
    rw split
    (subst (λ (k : State). StateRun k (commands_of calls) rest t.core.state) (ap (λ d. d.core.state) made)
    (state_runs calls rest m t more))
state_runs (Keeps on ∷ calls) replies s t (m, rest, split, made, more) =
    rw split
    (subst (λ (k : State). StateRun k (commands_of calls) rest t.core.state) (ap (λ d. d.core.state) made)
    (state_runs calls rest m t more))
state_runs (Looks call ∷ calls) replies s t (m, rest, split, made, more) =
    rw split
    (subst (λ (k : State). StateRun k (commands_of calls) rest t.core.state) (ap (λ d. d.core.state) made.1)
    (state_runs calls rest m t more))
state_runs (FeedsNext event now ∷ calls) replies s t (m, rest, split, made, more) =
    rw split (m.core.state, made.taken.state, state_runs calls rest m t more)
state_runs (Reads ∷ calls) replies s t (m, rest, split, made, more) =
    rw split
    (subst (λ (k : State). StateRun k (commands_of calls) rest t.core.state) (ap (λ (k : Core Numbers). k.state) made.0)
    (state_runs calls rest m t more))

-- no keys are in order
nothing_in_order : IsStrictlySortedBy path_cmp []
unfolding IsStrictlySortedBy
nothing_in_order = tt

-- a debouncer that was just made is well-formed
well_formed-empty : (timeout : ℕ) → IsWellFormed (empty_state timeout)
well_formed-empty timeout = record { queues = tt; ordered = nothing_in_order; bounded = omega arith }

-- .. also if its state is another name for that
pub well_formed-opened : (timeout : ℕ) (s : State) → s ≡ empty_state timeout → IsWellFormed s
well_formed-opened timeout s e = subst (λ (k : State). IsWellFormed k) (sym e) (well_formed-empty timeout)
