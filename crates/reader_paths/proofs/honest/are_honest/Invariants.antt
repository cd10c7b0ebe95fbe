use Rattle.std.proofs.Common.{◌≡◌}
use Rattle.std.specs.Iterator.Adapters.{zip_first, zip_second}
use Rattle.std.specs.Slice.Iter.{iter_rest}
use Rattle.debounce_model.specs.CommandView.{command_values, reply_values}
use Rattle.debounce_model.specs.Honest.{are_honest}
use Rattle.debounce_model.specs.Play.{accepted}
use Rattle.reader_paths.proofs.honest.are_honest.Given as goal

-- the events that are left decide whether all are honest
abbrev pub invariant-loop-command : goal.invariant-loop-command
invariant-loop-command g l =
    are_honest l.raw (accepted (command_values (iter_rest (zip_first l.command-iterator)))
    (reply_values (iter_rest (zip_second l.command-iterator))))
    ≡ are_honest l.fn.raw (accepted (command_values l.fn.commands) (reply_values l.fn.replies))
