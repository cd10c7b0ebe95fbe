-- If nothing waits below the target, no path there is stale.
use Rattle.std.proofs.Common.{◌∙◌, sym, refl}
use Rattle.debounce_model.proofs.MovedPaths.{apart_target}
use Rattle.debounce_core.proofs.RenameLemmas.LookLemmas.{none_stale}
use Rattle.debounce_core.proofs.rename.below.stale_paths.Goals as goal
use Rattle.debounce_core.proofs.rename.below.stale_paths.Goals.{then-not-at_target-via-then-not-at_target, then-not-at_target-via-else-not-at_target+then-not-are_apart}

pub returns-then-not-at_target : goal.returns-then-not-at_target
returns-then-not-at_target g c =
    let none = none_stale c.args.queues.now.entries c.args.from.now c.args.at_target.now.path.now in
    c.new.ensures.items ∙ elim c.then-not-at_target.branch [
      | then-not-at_target-via-then-not-at_target w ↦ none (sym c.requires ∙ w.if-not-at_target.true)
      | then-not-at_target-via-else-not-at_target+then-not-are_apart w ↦
          rw (sym w.are_apart.ensures ∙ w.if-not-are_apart.true) refl
    ]

pub stale_below-requires : goal.stale_below-requires
stale_below-requires g c = apart_target c.args.from.now c.args.at_target.now.path.now (sym c.are_apart.ensures
    ∙ c.if-not-are_apart.false)
