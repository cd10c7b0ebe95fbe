use Rattle.std.proofs.Common.{◌∙◌}
use Rattle.program_logic.proofs.JournalLemmas.SourceLemmas.{after_step, entries_step, read_step}
use Rattle.program_logic.proofs.journal.Journal.push_batch.Goals as goal

pub loop-event-preserved : goal.loop-event-preserved
loop-event-preserved c =
    let written = c.in_ok-push_moved_event.ensures in
    let counted = c.saturating_add-next.ensures in
    let within = c.loop-event-test.true in
    record {
      text = entries_step _ _ _ _ _ _ _ _ _ _ counted within c.event-item.is written.text
          ∙ c.loop-event.invariant.text;
      next = after_step _ _ _ _ _ counted within c.event-item.is ∙ c.loop-event.invariant.next;
      again = λ json rest. c.loop-event.invariant.again json
          (read_step _ _ _ _ _ _ _ counted within c.event-item.is (written.again json) rest);
    }
