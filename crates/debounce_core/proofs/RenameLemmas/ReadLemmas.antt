-- What the calls of `carry_over` return, one after the other: what is put, and the joined rename in the end.
use Rattle.std.proofs.Common.{◌≡◌, ◌==◌, ℕ, length, Bool, true, false, List, [], refl, ap, sym, ◌∙◌, is_some, option_copied, unwrap_or}
use Rattle.std.specs.List.Sorted.{IsStrictlySortedBy}
use Rattle.std.specs.Map.{keys_of}
use Rattle.notify_paths.specs.Path.{PathValue, path_cmp}
use Rattle.debounce_model.specs.MapSteps.{without_queues}
use Rattle.debounce_model.specs.Moved.{began, with_queues}
use Rattle.debounce_model.specs.Queues.{Queues, events_at, without_below}
use Rattle.debounce_model.specs.Rename.{original_time}
use Rattle.debounce_model.specs.WellFormed.{AreQueues}
use Rattle.debounce_queues.specs.Steps.{AreFilled}
use Rattle.debounce_core.specs.declared.rename.look.Look.{Look}
use Rattle.debounce_core.specs.declared.rename.Rename.{Rename}
use Rattle.debounce_core.specs.declared.rename.source.Source.{Source}
use Rattle.debounce_core.specs.Rename.Look.{IsLookAt}
use Rattle.debounce_core.specs.Rename.Renames.{joined_by}
use Rattle.debounce_core.specs.Rename.RenameSteps.{IsPuts, IsSourceOf, going_at, kept_at, left_by, stale_at}
use Rattle.debounce_core.proofs.RenameLemmas.JoinLemmas.{in_steps_alone, in_steps_moved, puts_filled, puts_of, puts_of_all}

module _ {Z : Type 0} {m map : Queues} {start : ℕ} {going puts : Queues} (rename : Rename Z) (source : Source Z)
    (at_source at_target : Look Z) (is : map ≡ m) (ordered : IsStrictlySortedBy path_cmp (keys_of map))
    (from : IsLookAt map rename.from.now at_source) (to : IsLookAt map rename.to.now at_target)
    (of : IsSourceOf (unwrap_or (option_copied at_source.queue) []) source)
    (begins : start ≡ original_time (option_copied source.earlier) rename.time)
    (goes : going ≡ going_at map at_source.path.now rename.to.now start)
    (put : IsPuts source (option_copied at_target.queue) rename going puts) where
  order : IsStrictlySortedBy path_cmp (keys_of m)
  order = rw is at ordered

  source_is : IsSourceOf (events_at m rename.from.now) source
  source_is = rw (from.1, is) at of

  along : going ≡ going_at m rename.from.now rename.to.now (began m rename.from.now rename.time)
  along = goes ∙ rw (begins, from.0, is, source_is.0) refl

  all : puts ≡ puts_of m rename.from.now rename.to.now rename.time rename.attrs
  all = puts_of_all m source rename going puts order source_is (rw (to.1, is) at put) along

  -- no queue that is put is empty
  pub filled_made : AreQueues m → AreFilled puts
  filled_made a = rw all (puts_filled m rename.from.now rename.to.now rename.time rename.attrs a)

  module _ {stays none : Bool} {new left out items : Queues} {stale paths : List PathValue}
      (kept : stays ≡ is_some (option_copied source.stays)) (empty : none ≡ (length items == 0))
      (all_go : items ≡ going) (all_stale : paths ≡ stale)
      (stales : stale ≡ stale_at map rename.from.now at_target.path.now) (all_put : new ≡ with_queues m puts)
      (leaves : left ≡ left_by new rename.from.now rename.to.now stays)
      (takes : out ≡ without_queues left paths) where
    steps : out ≡ without_queues
        (left_by (with_queues m (puts_of m rename.from.now rename.to.now rename.time rename.attrs))
        rename.from.now rename.to.now (kept_at m rename.from.now))
        (stale_at m rename.from.now rename.to.now)
    steps = takes ∙ rw (leaves, kept, source_is.1, all_put, all, all_stale, stales, to.0, is) refl

    none_goes : none ≡ (length (going_at m rename.from.now rename.to.now (began m rename.from.now rename.time)) == 0)
    none_goes = empty ∙ ap (λ es. length es == 0) (all_go ∙ along)

    -- if something goes along, what is below the source is dropped; if nothing does, all is done
    pub joined_made : (none ≡ false → without_below out rename.from.now ≡ joined_by m rename)
        × (none ≡ true → out ≡ joined_by m rename)
    joined_made = (
      λ no. rw steps (in_steps_moved m rename.from.now rename.to.now rename.time rename.attrs order
          (sym none_goes ∙ no)),
      λ yes. steps ∙ in_steps_alone m rename.from.now rename.to.now rename.time rename.attrs order
          (sym none_goes ∙ yes),
    )
