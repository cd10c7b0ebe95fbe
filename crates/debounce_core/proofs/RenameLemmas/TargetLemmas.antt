-- What a rename finds at its target, as the code tells it apart.
use Rattle.std.proofs.Common.{◌≡◌, ℕ, Bool, true, false, cond, List, [], ◌∷◌, ◌++◌, Option, Some, None, option_copied, map, refl, ◌∙◌}
use Rattle.notify_types.specs.Event.{Timed, no_attributes}
use Rattle.notify_paths.specs.Path.{PathValue}
use Rattle.debounce_model.specs.Queues.{was_created, was_removed}
use Rattle.debounce_model.specs.Rename.{at_path, original_time, override_attributes, override_event, overriding}
use Rattle.debounce_model.proofs.RenameParts.{arrived_in_parts}
use Rattle.debounce_core.specs.declared.rename.Rename.{Rename}
use Rattle.debounce_core.specs.declared.rename.source.Source.{Source}
use Rattle.debounce_core.specs.declared.rename.target.Target.{Target}
use Rattle.debounce_core.specs.Rename.Renames.{HasArrived, renaming_by}
use Rattle.debounce_core.specs.Rename.Target.{target_of, reported}
use Rattle.debounce_core.specs.declared.rename.target.Target.TheVariants.{Free, Removed, Overridden}

-- what is reported for a queue is what the joined rename says
pub reported_target : (t : PathValue) (time : ℕ) (target : Option (List Timed)) →
    overriding t time target ≡ reported t time (target_of target)
reported_target t time None = refl
reported_target t time (Some q) = by (was_created q) (was_removed q)
  where
    by : (c r : Bool) → cond c [] (override_event t (cond r no_attributes override_attributes) time ∷ [])
        ≡ reported t time (cond c Free (cond r Removed Overridden))
    by true r = refl
    by false true = refl
    by false false = refl

-- what then waits there, of the pieces that the code adds
pub has_arrived : {Z : Type 0} (source : Source Z) (target : Target) (rename : Rename Z)
    {start : ℕ} {none over named all queue : List Timed} →
    start ≡ original_time (option_copied source.earlier) rename.time → none ≡ [] →
    over ≡ none ++ reported rename.to.now start target → named ≡ over ++ renaming_by source rename →
    all ≡ named ++ map (at_path rename.to.now) source.moving.now → queue ≡ all → HasArrived source target rename queue
has_arrived source target rename {start} begins empty reports names moves made = λ waited is.
    made ∙ rw (moves, names, reports, empty, is, ← reported_target rename.to.now start waited, begins)
    (arrived_in_parts (option_copied source.earlier) source.moving.now waited rename.from.now rename.to.now
    rename.time rename.attrs)
