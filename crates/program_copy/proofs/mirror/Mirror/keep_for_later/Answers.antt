use Rattle.std.proofs.Common.{◌≡◌, ◌∙◌, true}
use Rattle.notify_paths.specs.Path.{PathValue}
use Rattle.program_copy.specs.After.{waits}
use Rattle.program_copy.proofs.NamedLemmas.{left_next, of_first}
use Rattle.program_copy.proofs.mirror.Mirror.keep_for_later.Goals as goal

pub loop-event-preserved : goal.loop-event-preserved
loop-event-preserved g c =
    let wait : PathValue → Type 0 = λ p. waits c.keep_event.new.self.waiting p ≡ true in
    record {
      wait = left_next (λ p. waits c.loop-event.self.waiting p ≡ true) wait
          c.args.batch.now c.loop-event.event-index c.event-item.result c.loop-event-test.true c.event-item.is
          c.in_ok-keep_event.ensures.stay
          (of_first wait c.event-item.result.event.paths c.in_ok-keep_event.ensures.wait)
          c.loop-event.invariant.wait;
      same = c.keep_event.ensures.same ∙ c.loop-event.invariant.same;
    }
