-- What the watcher under the lock did.
use Rattle.std.proofs.Common.{IfErr, rules}
use Rattle.poll_watcher.specs.Roots.Polled.{IsWatchError}
use Rattle.poll_watcher.proofs.RootsLemmas.PolledLemmas.{watched}
use Rattle.poll_watcher.proofs.watcher.PollWatcher.watch_silently.Goals as goal

pub returns : goal.returns
returns g c =
    let err : IfErr c.watch-done.result IsWatchError = search rules in
    watched (c.args.path.now, c.args.mode) _ _ c.watch-done.result c.watch-done.ensures.ok err
