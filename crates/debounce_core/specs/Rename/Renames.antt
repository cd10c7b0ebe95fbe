-- A joined rename as the code has it, in parts.
use Rattle.std.specs.Prelude.{◌≡◌, ℕ, List, Option, option_copied}
use Rattle.std.specs.Option.{option_map}
use Rattle.notify_types.specs.Event.{Timed, first_of}
use Rattle.notify_paths.specs.Path.{PathValue}
use Rattle.debounce_model.specs.MapSteps.{arrived_of}
use Rattle.debounce_model.specs.Moved.{joined_rename}
use Rattle.debounce_model.specs.Queues.{Queues}
use Rattle.debounce_model.specs.Table.{renamed_to}
use Rattle.debounce_model.specs.Rename.{original_path, original_time, renaming}
use Rattle.debounce_core.specs.declared.rename.FirstHalf.{FirstHalf}
use Rattle.debounce_core.specs.declared.rename.Rename.{Rename}
use Rattle.debounce_core.specs.declared.rename.source.Source.{Source}
use Rattle.debounce_core.specs.declared.rename.target.Target.{Target}
use Rattle.debounce_core.specs.Rename.Target.{target_of}

module _ {Z : Type 0} where
  -- what it makes of all that waits
  abbrev pub joined_by : Queues → Rename Z → Queues
  joined_by queues rename = joined_rename queues rename.from.now rename.to.now rename.time rename.attrs

  -- the event that reports it, if what goes along from this source was not created
  abbrev pub renaming_by : Source Z → Rename Z → List Timed
  renaming_by source rename =
      let earlier = option_copied source.earlier in
      renaming (original_path earlier rename.from.now) rename.to.now rename.attrs
      (original_time earlier rename.time) source.moving.now

  -- what then waits at its target, of this source and of what waits there
  abbrev pub arrived_by : Source Z → Option (List Timed) → Rename Z → List Timed
  arrived_by source waited rename =
      arrived_of (option_copied source.earlier) source.moving.now waited rename.from.now rename.to.now
      rename.time rename.attrs

  -- what then waits at its target, of which the code knows this much
  abbrev pub HasArrived : Source Z → Target → Rename Z → List Timed → Type 0
  HasArrived source target rename queue =
      (waited : Option (List Timed)) → target ≡ target_of waited → queue ≡ arrived_by source waited rename

  -- the first half of a rename: its path, and its time
  abbrev pub half_value : Option (FirstHalf Z) → Option (PathValue × ℕ)
  half_value half = option_map (λ h. (h.from.now, h.time)) half

  -- what an event whose rename has this first half, or none, makes of all that waits
  abbrev pub renamed_by : Queues → Option (FirstHalf Z) → Timed → Queues
  renamed_by queues half x = renamed_to queues (first_of x.event.paths) x (half_value half)
