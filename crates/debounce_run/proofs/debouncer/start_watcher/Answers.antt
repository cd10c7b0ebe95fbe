use Rattle.debounce_run.specs.Access.Adds.{FeedsItem}
use Rattle.debounce_run.proofs.TurnsLemmas.Ends.{stays_of}
use Rattle.debounce_run.proofs.debouncer.start_watcher.Goals as goal

pub returns-clause-stays : goal.returns-clause-stays
returns-clause-stays g c = λ begun config now last ended.
    stays_of FeedsItem (λ old item new fed. fed.0) begun now (c.new.ensures.called begun config now last ended)
