use Rattle.std.proofs.Common.{◌∙◌, sym}
use Rattle.notify_paths.specs.Path.{is_below}
use Rattle.notify_paths.proofs.Removals.{all_left}
use Rattle.debounce_queues.proofs.index.IndexedMap.drop_below.Goals as goal

pub returns-then-count-eq0-clause-left : goal.returns-then-count-eq0-clause-left
returns-then-count-eq0-clause-left g c =
    sym (all_left (λ e. is_below e.0 c.args.path.now) c.args.self.now.map.entries (sym c.count_below-count.ensures
    ∙ c.if-count-eq0.true))

pub returns-then-count_below-eq0-clause-left : goal.returns-then-count_below-eq0-clause-left
returns-then-count_below-eq0-clause-left g c =
    sym (all_left (λ e. is_below e.0 c.args.path.now) c.remove_below.new.self.map.entries (sym c.count_below.ensures
    ∙ c.if-count_below-eq0.true)) ∙ c.remove_below.ensures.left
