use Rattle.std.proofs.Common.{◌≡◌, ◌++◌}
use Rattle.notify_types.specs.Borrowed.{borrowed}
use Rattle.debounce_model.specs.Due.{place_list}
use Rattle.debounce_queues.specs.Due.{is_due}
use Rattle.debounce_queues.proofs.whole.lend_all_places.Given as goal

-- what was added and what the other queues emit are all
abbrev pub invariant-loop-path : goal.invariant-loop-path
invariant-loop-path g l = borrowed l.places.items ++ place_list (is_due l.due) l._path-iterator
    ≡ borrowed l.fn.places.items ++ place_list (is_due l.due) l.map.entries
