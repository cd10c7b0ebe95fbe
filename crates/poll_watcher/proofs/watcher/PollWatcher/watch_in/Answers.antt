-- What the watcher under the lock did.
use Rattle.std.proofs.Common.{IfErr, rules}
use Rattle.poll_watcher.specs.Roots.Polled.{IsWatchError}
use Rattle.poll_watcher.proofs.RootsLemmas.PolledLemmas.{watched_next}
use Rattle.poll_watcher.proofs.watcher.PollWatcher.watch_in.Goals as goal

pub returns-clause-answer : goal.returns-clause-answer
returns-clause-answer g c =
    let err : IfErr c.watch_reported-done.result IsWatchError = search rules in
    watched_next (c.args.path.now, c.args.mode) _ _ c.watch_reported-done.result c.watch_reported-done.ensures.ok err
