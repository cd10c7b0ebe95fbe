-- The state that the code holds.
use Rattle.std.specs.Prelude.{ℕ, List}
use Rattle.notify_paths.specs.Errors.{ErrorValue}
use Rattle.debounce_model.specs.Cache.{Roots}
use Rattle.debounce_model.specs.State.{State}
use Rattle.debounce_core.specs.declared.table.Pending.{Pending}

module _ {Z : Type 0} where
  -- the state that these are the parts of
  abbrev pub state_of : Pending Z → Roots → List ErrorValue → ℕ → ℕ → ℕ → ℕ → State
  state_of pending roots errors timeout latest taken given = record {
    queues = pending.queues;
    roots = roots;
    rename_slot = pending.rename_slot;
    rescan_slot = pending.rescan_slot;
    errors = errors;
    timeout = timeout;
    latest = latest;
    taken = taken;
    given = given;
  }
