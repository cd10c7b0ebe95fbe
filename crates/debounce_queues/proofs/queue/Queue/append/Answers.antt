-- An event that is skipped needs no memory.
use Rattle.debounce_queues.proofs.queue.Queue.append.Goals as goal

pub returns-then-was_created-clause-sure : goal.returns-then-was_created-clause-sure
returns-then-was_created-clause-sure g c = tt
