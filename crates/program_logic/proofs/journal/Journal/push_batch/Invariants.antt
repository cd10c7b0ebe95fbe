use Rattle.std.proofs.Common.{◌≡◌, ◌++◌, drop, option_map}
use Rattle.reader_paths.specs.Moves.{source_of}
use Rattle.program_logic.specs.Journal.Lines.{AreReadBack, entries_of, after}
use Rattle.program_logic.specs.declared.journal.form.Form.TheVariants.{Json}
use Rattle.program_logic.proofs.journal.Journal.push_batch.Given as goal

-- what is written so far and then the events that are left, the number after these, and what is read back
abbrev pub invariant-loop-event : goal.invariant-loop-event
invariant-loop-event l = record {
  text : l.text.items ++ entries_of l.form (option_map (λ s. s.now) l.fn.at) (λ x. source_of l.moves x.event) l.next
      (drop l.event-index l.batch)
      ≡ l.fn.text.items ++ entries_of l.form (option_map (λ s. s.now) l.fn.at) (λ x. source_of l.moves x.event)
      l.fn.self.next l.fn.batch;
  next : after l.next (drop l.event-index l.batch) ≡ after l.fn.self.next l.fn.batch;
  again : l.form ≡ Json → AreReadBack (option_map (λ s. s.now) l.fn.at) (λ x. source_of l.moves x.event) l.next
      (drop l.event-index l.batch)
      → AreReadBack (option_map (λ s. s.now) l.fn.at) (λ x. source_of l.moves x.event) l.fn.self.next l.fn.batch;
}
