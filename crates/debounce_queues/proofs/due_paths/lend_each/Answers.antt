use Rattle.std.proofs.Common.{◌≡◌, ◌∙◌, ◌++◌, ap, rules}
use Rattle.notify_types.specs.Borrowed.{borrowed}
use Rattle.debounce_queues.specs.Steps.{emitted_at}
use Rattle.debounce_queues.proofs.FrontPlaces.{emitted-all, later-all}
use Rattle.debounce_queues.proofs.due_paths.lend_each.Goals as goal

pub returns-clause-places : goal.returns-clause-places
returns-clause-places g c =
    let m = c.args.map.now.entries in
    let all : borrowed c.loop-path.places.items ≡ borrowed c.args.places.now.items
    ++ emitted_at c.args.due m c.args.paths.now.keys = search rules in
    all ∙ ap (λ r. borrowed c.args.places.now.items
    ++ r) (emitted-all c.args.due c.args.paths.now m c.len-paths.ensures.ordered c.len-len.ensures.ordered
    c.requires)

pub returns-clause-later : goal.returns-clause-later
returns-clause-later g c =
    let m = c.args.map.now.entries in
    later-all c.args.due c.args.paths.now m c.len-paths.ensures.ordered c.len-len.ensures.ordered c.requires
    c.loop-path.later.items (search rules)
