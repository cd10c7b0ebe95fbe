use Rattle.poll_watcher.proofs.EntriesLemmas.ReadingLemmas.{reading_more, reading_kept}
use Rattle.poll_watcher.proofs.entries.names.read_names.Goals as goal
use Rattle.poll_watcher.proofs.entries.names.read_names.Goals.{in-Ok+in_ok-add_names-in-Ok, in-Err}

pub loop-preserved : goal.loop-preserved
loop-preserved g c =
    let remaining = g.F.Read.remaining in
    elim c.match-read.branch [
      | in-Ok+in_ok-add_names-in-Ok w ↦
          rw (w.left_out-is, w.names-is)
          (reading_more _ (remaining c.loop.folder) (remaining c.read.new.self) _ _ _ _ _ _ c.loop.invariant
          w.in-Ok.ensures.bytes.0 w.in_ok-add_names-in-Ok.ensures.ok w.in_ok-add_names-in-Ok.ensures.counted)
      | in-Err w ↦
          rw (w.left_out-is, w.names-is)
          (reading_kept _ (remaining c.loop.folder) (remaining c.read.new.self) _ _ _ c.loop.invariant
          w.in-Err.ensures.bytes)
    ]
