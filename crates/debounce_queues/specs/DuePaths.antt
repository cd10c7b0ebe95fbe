-- What a tick knows of the queues that are due, once it has lent what is due.
use Rattle.std.specs.Prelude.{◌≡◌, ℕ, List, [], Option, Some, None}
use Rattle.std.specs.BTreeSet.{BTreeSet}
use Rattle.notify_paths.specs.Path.{PathValue}
use Rattle.debounce_model.specs.Due.{rests}
use Rattle.debounce_model.specs.Queues.{Queues}
use Rattle.debounce_queues.specs.declared.due.Due.{Due}
use Rattle.debounce_queues.specs.Due.{is_due}
use Rattle.debounce_queues.specs.Steps.{AreLater, ArePathsDue}

-- the paths of the queues that are due, and the pairs of what stays there
pub record DuePathsValue : Type 0 where
  pub paths : BTreeSet PathValue
  pub later : List (ℕ × PathValue)

-- the paths and the pairs are these; if there are none, all that waits is due
abbrev pub AreDueAt : Due → Queues → Option DuePathsValue → Type 0
AreDueAt due queues None = rests (is_due due) queues ≡ []
AreDueAt due queues (Some at) = ArePathsDue due queues at.paths × AreLater due queues at.later
