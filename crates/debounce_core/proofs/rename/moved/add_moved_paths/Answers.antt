use Rattle.debounce_model.specs.Moved.{moved_path}
use Rattle.debounce_core.proofs.RenameLemmas.PushLemmas.{pushed_more}
use Rattle.debounce_core.proofs.rename.moved.add_moved_paths.Goals as goal

pub loop-path-preserved : goal.loop-path-preserved
loop-path-preserved g c =
    pushed_more (moved_path c.args.from.now c.args.to.now) c.args.paths.now c.loop-path.path-index c.args.list.now.items
    c.loop-path-test.true c.path-item.is c.loop-path.invariant c.in_ok-moved_path.ensures c.in_ok-push.ensures.items
