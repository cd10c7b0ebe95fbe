-- What one search finds at a path of a rename.
use Rattle.std.specs.Prelude.{◌≡◌, Bool, option_copied}
use Rattle.std.specs.List.{list_any}
use Rattle.notify_paths.specs.Path.{PathValue, is_below}
use Rattle.debounce_model.specs.Queues.{Queues, queue_at}
use Rattle.debounce_core.specs.declared.rename.look.Look.{Look}

-- something waits strictly below the path
abbrev pub waits_below : Queues → PathValue → Bool
waits_below queues path = list_any (λ e. is_below e.0 path) queues

module _ {Z : Type 0} where
  -- the queue of this path, and whether something waits below it
  abbrev pub IsLookAt : Queues → PathValue → Look Z → Type 0
  IsLookAt queues path look =
      (look.path.now ≡ path)
      × (option_copied look.queue ≡ queue_at queues path)
      × (look.below ≡ waits_below queues path)
