-- The queues of the paths that are due are all that is due.
use Rattle.std.proofs.Common.{◌∙◌, ◌++◌, ap, arith}
use Rattle.debounce_queues.proofs.FrontTaken.{indexed_taken, taken_counted, taken_given, taken_left, taken_there}
use Rattle.debounce_queues.proofs.index.IndexedMap.take_each.Goals as goal

pub give_each-requires-clause-there : goal.give_each-requires-clause-there
give_each-requires-clause-there g c =
    taken_there c.args.due c.args.self.now.map.entries c.args.paths c.len-len.ensures.ordered
    c.requires.indexed.filled c.len-count.ensures.ordered c.requires.paths

pub give_each-requires-clause-room : goal.give_each-requires-clause-room
give_each-requires-clause-room g c =
    rw (taken_given c.args.due c.args.self.now.map.entries c.args.paths c.len-len.ensures.ordered
    c.requires.indexed.filled c.len-count.ensures.ordered c.requires.paths) c.requires.room

pub returns-clause-moved : goal.returns-clause-moved
returns-clause-moved g c =
    c.give_each.ensures.moved
    ∙ ap (λ l. c.args.out.now.items ++ l) (taken_given c.args.due c.args.self.now.map.entries c.args.paths
    c.len-len.ensures.ordered c.requires.indexed.filled c.len-count.ensures.ordered c.requires.paths)

pub returns-clause-left : goal.returns-clause-left
returns-clause-left g c =
    c.give_each.ensures.taken
    ∙ taken_left c.args.due c.args.self.now.map.entries c.args.paths c.len-len.ensures.ordered
    c.requires.indexed.filled c.len-count.ensures.ordered c.requires.paths

pub returns-clause-count : goal.returns-clause-count
returns-clause-count g c =
    let all = taken_counted c.args.due c.args.self.now.map.entries c.args.paths c.len-len.ensures.ordered
    c.requires.indexed.filled c.len-count.ensures.ordered c.requires.paths in
    omega (arith, all, c.len-count.ensures.len)

pub returns-clause-indexed : goal.returns-clause-indexed
returns-clause-indexed g c =
    indexed_taken c.args.due c.args.self.now.fronts c.insert_pairs.new.fronts c.drop_due.new.fronts
    c.args.self.now.map.entries c.give_each.new.map.entries c.args.later.items c.requires.indexed
    c.len-len.ensures.ordered c.requires.later c.in_default.ensures.ok c.drop_due.ensures
    (c.give_each.ensures.taken
    ∙ taken_left c.args.due c.args.self.now.map.entries c.args.paths c.len-len.ensures.ordered
    c.requires.indexed.filled c.len-count.ensures.ordered c.requires.paths)
