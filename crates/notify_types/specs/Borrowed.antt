-- Events that are borrowed.
use Rattle.std.specs.Prelude.{List, map}
use denote.Ref.{Bor}
use Rattle.notify_types.specs.Event.{Timed}

-- the events of these references
abbrev pub borrowed : List (Bor Timed) → List Timed
borrowed events = map (λ e. e.now) events
