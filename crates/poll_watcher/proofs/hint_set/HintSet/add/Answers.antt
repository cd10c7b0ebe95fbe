use Rattle.std.proofs.Common.{rules}
use Rattle.poll_watcher.proofs.HintSetLemmas.HintLemmas.{put-added, put-kept}
use Rattle.poll_watcher.proofs.hint_set.HintSet.add.Goals as goal

pub returns-clause-added : goal.returns-clause-added
returns-clause-added g c = put-added c.args.self.now c.args.path c.put.new.self c.put.ensures

pub returns-clause-kept : goal.returns-clause-kept
returns-clause-kept g c = put-kept c.args.self.now c.args.path c.put.new.self
    (search rules) c.put.ensures
