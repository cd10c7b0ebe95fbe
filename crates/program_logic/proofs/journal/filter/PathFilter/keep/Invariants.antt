use Rattle.std.proofs.Common.{◌≡◌, ◌++◌, length}
use Rattle.std.specs.List.{filter}
use Rattle.std.specs.Vec.Iter.{into_iter_items, into_iter_len}
use Rattle.program_logic.specs.Journal.Kept.{is_kept}
use Rattle.program_logic.specs.Journal.KeptView.{filter_rule}
use Rattle.program_logic.proofs.journal.filter.PathFilter.keep.Given as goal

-- what is kept so far, and then what is kept of the events that are left
abbrev pub invariant-loop-event : goal.invariant-loop-event
invariant-loop-event l = record {
  kept : l.kept.items ++ filter (is_kept (filter_rule l.fn.self)) (into_iter_items l.event-iterator)
      ≡ filter (is_kept (filter_rule l.fn.self)) l.fn.batch.items;
  counted : length (into_iter_items l.event-iterator) ≡ into_iter_len l.event-iterator;
  same : filter_rule l.self ≡ filter_rule l.fn.self;
}
