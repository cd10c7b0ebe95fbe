use Rattle.std.proofs.Common.{◌≡◌}
use Rattle.std.specs.Iterator.Adapters.{zip_first, zip_second}
use Rattle.std.specs.Slice.Iter.{iter_rest}
use Rattle.debounce_model.specs.CommandView.{command_values, reply_values}
use Rattle.debounce_model.specs.Play.{raw_paths}
use Rattle.reader_paths.proofs.path_set.PathSet.play_accepted.Given as goal

-- what is left to play makes what all make of the set
abbrev pub invariant-loop-command : goal.invariant-loop-command
invariant-loop-command g l =
    raw_paths l.self (command_values (iter_rest (zip_first l.command-iterator)))
    (reply_values (iter_rest (zip_second l.command-iterator)))
    ≡ raw_paths l.fn.self (command_values l.fn.commands) (reply_values l.fn.replies)
