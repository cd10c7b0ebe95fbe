-- What is due: what is expired at a moment, or whatever waits.
use Rattle.std.specs.Prelude.{ℕ, ◌-◌, nat_le, Bool, true, List, [], ◌∷◌, if◌then◌else◌}
use Rattle.std.specs.List.{list_any}
use Rattle.notify_types.specs.Event.{Timed}
use Rattle.notify_types.specs.KindNumbers.{kind_eq}
use Rattle.debounce_model.specs.Tick.{is_expired}
use Rattle.debounce_queues.specs.declared.due.Due.{Due}
use Rattle.debounce_queues.specs.declared.due.Due.TheVariants.{Expired, Always}

-- an event is due
abbrev pub is_due : Due → Timed → Bool
is_due (Expired timeout now) x = is_expired timeout now x
is_due Always x = true

-- an event of this time is due
abbrev pub is_due_at : Due → ℕ → Bool
is_due_at (Expired timeout now) time = nat_le timeout (now - time)
is_due_at Always time = true

-- the event, unless one of the later events has its kind
abbrev pub unless_later : Timed → List Timed → List Timed
unless_later x later = if list_any (λ y. kind_eq x.event.kind y.event.kind) later then [] else x ∷ []
