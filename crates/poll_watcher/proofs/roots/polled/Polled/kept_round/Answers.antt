-- A round that keeps nothing finds just what the folders show.
use Rattle.poll_watcher.proofs.RootsLemmas.ShownLemmas.{shown_whole}
use Rattle.poll_watcher.proofs.roots.polled.Polled.kept_round.Goals as goal

pub returns-clause-kept : goal.returns-clause-kept
returns-clause-kept g c = rw (← c.self.view_is, ← c.as_slice.ensures.value) c.kept_round-went_well.ensures.kept

pub returns-clause-shown : goal.returns-clause-shown
returns-clause-shown g c = rw (← c.self.view_is, ← c.as_slice.ensures.value) (λ went_well none.
    shown_whole (g.D.Folders.told c.args.folders.now) c.as_slice.result.now _ c.self.inside.last _
    c.iter-entries.ensures.law (c.kept_round-went_well.ensures.kept went_well) none)
