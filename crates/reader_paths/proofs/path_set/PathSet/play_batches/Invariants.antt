use Rattle.std.proofs.Common.{◌≡◌, drop}
use Rattle.debounce_model.specs.CommandView.{reply_values}
use Rattle.reader_paths.specs.Played.{reader_paths}
use Rattle.reader_paths.proofs.path_set.PathSet.play_batches.Given as goal

-- what is left to play makes what all make of the set
abbrev pub invariant-loop-reply : goal.invariant-loop-reply
invariant-loop-reply g l = reader_paths l.self (reply_values (drop l.reply-index l.replies))
    ≡ reader_paths l.fn.self (reply_values l.fn.replies)
