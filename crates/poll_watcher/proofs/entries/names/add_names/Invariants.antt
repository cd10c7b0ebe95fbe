use Rattle.std.proofs.Common.{length, map, string_bytes}
use Rattle.poll_watcher.proofs.EntriesLemmas.NameLemmas.{Adding}
use Rattle.poll_watcher.proofs.entries.names.add_names.Given as goal

-- the entries before what is left were added
abbrev pub invariant-loop-rest : goal.invariant-loop-rest
invariant-loop-rest g l =
    Adding l.fn.bytes l.rest (map string_bytes l.fn.names.items) (map string_bytes l.names.items)
    l.fn.left_out l.left_out

abbrev pub decreases-loop-rest : goal.decreases-loop-rest
decreases-loop-rest g l = length l.rest
