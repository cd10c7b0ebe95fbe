-- One more queue is counted.
use Rattle.std.proofs.Common.{◌≡◌, ◌∙◌, ◌+◌, ap, arith, length}
use Rattle.std.specs.Map.{values_of}
use Rattle.std.proofs.lemmas.List.Sums.{sum_by-cons}
use Rattle.debounce_model.specs.Queues.{waiting_in}
use Rattle.debounce_queues.proofs.index.IndexedMap.waiting.Goals as goal

pub overflow_add-count : goal.overflow_add-count
overflow_add-count g c =
    let counted : waiting_in c.loop-path._path-iterator
    ≡ length c.in-Some.queue.now + waiting_in c.next.new.self =
    ap waiting_in c.in-Some.ensures.steps
    ∙ sum_by-cons length c.in-Some.queue.now (values_of c.next.new.self) in
    omega (arith, counted, c.loop-path.invariant, c.requires, ap length c.events.ensures)

pub loop-path-preserved : goal.loop-path-preserved
loop-path-preserved g c =
    let counted : waiting_in c.loop-path._path-iterator
    ≡ length c.in-Some.queue.now + waiting_in c.next.new.self =
    ap waiting_in c.in-Some.ensures.steps
    ∙ sum_by-cons length c.in-Some.queue.now (values_of c.next.new.self) in
    omega (arith, counted, c.loop-path.invariant, ap length c.events.ensures)
