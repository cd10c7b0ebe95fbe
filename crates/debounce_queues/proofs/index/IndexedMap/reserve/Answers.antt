-- An empty queue makes room, unless there is a queue.
use Rattle.std.proofs.Common.{◌∙◌, sym}
use Rattle.debounce_queues.proofs.FrontPuts.{reserved_new, reserved_there}
use Rattle.debounce_queues.proofs.index.IndexedMap.reserve.Goals as goal

pub returns-then-contains_key-clause-ok : goal.returns-then-contains_key-clause-ok
returns-then-contains_key-clause-ok g c =
    reserved_there c.args.self.now.map.entries c.args.path.now (sym c.contains_key.ensures ∙ c.if-contains_key.true)

pub returns-clause-ok : goal.returns-clause-ok
returns-clause-ok g c =
    reserved_new c.args.self.now.map.entries c.args.path.now c.in_ok-key.key c.new-2.result c.insert.new.self.entries
    (sym c.contains_key.ensures ∙ c.if-contains_key.false) c.in_ok-key.ensures.cases
    (c.new-2.ensures ∙ c.new.ensures.items) c.in_ok-insert.ensures.entries
