-- The event is put first, and what waits below is dropped then.
use Rattle.std.proofs.Common.{◌≡◌, ◌∙◌, ap, ◌∷◌, [], rules}
use Rattle.notify_types.specs.Event.{first_of}
use Rattle.debounce_model.specs.Queues.{Queues, with_queue, without_below}
use Rattle.debounce_model.proofs.QueueLemmas.{put_before_drop}
use Rattle.debounce_queues.proofs.removal.replace.Goals as goal

pub returns-clause-ok : goal.returns-clause-ok
returns-clause-ok g c =
    let queues = c.args.queues.now in
    let x = c.args.event in
    let path = first_of x.event.paths in
    let put = c.put_alone.new.self in
    let made : without_below put path ≡ with_queue (without_below queues path) path (x ∷ []) =
    ap (λ (q : Queues). without_below q path) c.in_ok-put_alone.ensures.ok
    ∙ put_before_drop queues path (x ∷ []) (rw c.by_path.ensures at c.len-len.ensures.ordered) in
    let same = c.in_ok-folder.ensures.cases ∙ c.first_path.ensures in
    rw (← made, ← same) (search rules depth 2)
