use Rattle.std.specs.BTreeMap.{is_at}
use Rattle.std.specs.Map.{lookup}
use Rattle.debounce_model.specs.Play.{events_of}
use Rattle.notify_paths.specs.Path.{path_cmp}
use Rattle.reader_paths.specs.Moves.{source_among}
use Rattle.reader_paths.proofs.MovesLemmas.SourceLemmas.{next_source}
use Rattle.reader_paths.proofs.moves.Moves.find_sources.Goals as goal

pub loop-event-preserved : goal.loop-event-preserved
loop-event-preserved g c = λ path.
    next_source c.args.self.now c.args.batch.now c.loop-event.event-index c.event-item.result path
    (lookup (is_at (path_cmp path)) c.loop-event.sources.entries)
    (lookup (is_at (path_cmp path)) c.add_source.new.sources.entries)
    (source_among c.args.self.now (events_of c.args.batch.now) path)
    c.loop-event-test.true c.event-item.is (c.in_ok-add_source.ensures path) (c.loop-event.invariant path)
