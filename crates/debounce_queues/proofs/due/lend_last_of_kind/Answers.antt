-- One more event of the queue.
use Rattle.std.proofs.Common.{◌≡◌, append_assoc, drop, take, length, ◌+◌, ◌-◌, arith}
use Rattle.std.proofs.lemmas.Grind.{common_steps}
use Rattle.debounce_model.proofs.QueueLemmas.{last_of_kind-more}
use Rattle.debounce_queues.proofs.due.lend_last_of_kind.Goals as goal

pub loop-i-preserved : goal.loop-i-preserved
loop-i-preserved g c =
    let xs = c.args.events.now in
    let i = c.loop-i.i in
    let x = c.index-events-i.result in
    let more = last_of_kind-more xs i x c.loop-i-test.true c.index-events-i.is in
    let all : take (length xs - (i + 1)) (drop (i + 1) xs) ≡ drop (i + 1) xs = grind (arith, common_steps) in
    rw (c.in_ok-lend_unless_later.ensures, all, append_assoc, ← more) c.loop-i.invariant
