use Rattle.std.proofs.Common.{◌++◌}
use Rattle.std.specs.Iterator.Adapters.{zip_first, zip_second}
use Rattle.std.specs.Slice.Iter.{iter_rest}
use Rattle.std.specs.String.{string_bytes}
use Rattle.debounce_model.specs.CommandView.{command_values, reply_values}
use Rattle.mirror_run.specs.Output.{Prints}
use Rattle.mirror_run.specs.Printed.{replies_lines}
use Rattle.mirror_run.proofs.transcript.print_replies.Given as goal

-- what is printed so far, and then what is left to print
abbrev pub invariant-loop-command : goal.invariant-loop-command
invariant-loop-command g l =
    Prints (g.O.Write.contents l.fn.out) (string_bytes l.fn.text) (g.O.Write.contents l.out)
    (string_bytes l.text ++ replies_lines (command_values (iter_rest (zip_first l.command-iterator)))
    (reply_values (iter_rest (zip_second l.command-iterator))))
    (replies_lines (command_values l.fn.commands) (reply_values l.fn.replies))
