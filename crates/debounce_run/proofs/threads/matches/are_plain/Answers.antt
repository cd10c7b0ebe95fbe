use Rattle.std.proofs.Common.{refl}
use Rattle.debounce_run.specs.Threads.Merged.{IsPlain}
use Rattle.debounce_run.proofs.ThreadsLemmas.Merges.{all-more}
use Rattle.debounce_run.proofs.threads.matches.are_plain.Goals as goal

pub loop-entry-preserved : goal.loop-entry-preserved
loop-entry-preserved g c =
    all-more (IsPlain c.args.count) c.args.entries.now c.loop-entry.entry-index c.entry-item.result
    c.loop-entry-test.true c.entry-item.is c.loop-entry.invariant (c.if-not-is_plain.ensures refl)
