use Rattle.std.proofs.Common.{map, string_bytes}
use Rattle.poll_watcher.proofs.EntriesLemmas.ReadingLemmas.{Reading}
use Rattle.poll_watcher.proofs.entries.names.read_names.Given as goal

-- the names that were read so far were added
abbrev pub invariant-loop : goal.invariant-loop
invariant-loop g l =
    Reading (g.F.Read.remaining l.fn.folder) (g.F.Read.remaining l.folder) (map string_bytes l.names.items)
    l.fn.left_out l.left_out
