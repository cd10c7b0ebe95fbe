-- If nothing waits below the source, nothing goes along.
use Rattle.std.proofs.Common.{◌∙◌, sym, refl}
use Rattle.debounce_core.proofs.RenameLemmas.LookLemmas.{none_goes}
use Rattle.debounce_core.proofs.rename.below.going_along.Goals as goal
use Rattle.debounce_core.proofs.rename.below.going_along.Goals.{then-not-at_source-via-then-not-at_source, then-not-at_source-via-else-not-at_source+then-not-are_apart}

pub returns-then-not-at_source : goal.returns-then-not-at_source
returns-then-not-at_source g c =
    let none = none_goes c.args.queues.now.entries c.args.at_source.now.path.now c.args.to.now c.args.began in
    c.new-going.ensures.items ∙ elim c.then-not-at_source.branch [
      | then-not-at_source-via-then-not-at_source w ↦ none (sym c.requires ∙ w.if-not-at_source.true)
      | then-not-at_source-via-else-not-at_source+then-not-are_apart w ↦
          rw (sym w.are_apart.ensures ∙ w.if-not-are_apart.true) refl
    ]
