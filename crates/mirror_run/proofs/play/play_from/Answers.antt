use Rattle.debounce_model.specs.CommandView.{command_values}
use Rattle.mirror_run.proofs.Runs.{printed_from, begun_from}
use Rattle.mirror_run.proofs.play.play_from.Goals as goal

pub returns-clause-ok : goal.returns-clause-ok
returns-clause-ok g c =
    printed_from c.args.report _ _ c.play_commands.result c.args.core.now _ _
    (command_values c.args.commands.items) c.play_commands.new.core
    c.in_ok-start.ensures.ok c.play_commands.ensures.ok

pub returns-clause-begun : goal.returns-clause-begun
returns-clause-begun g c =
    begun_from c.args.report _ _ c.play_commands.result c.args.core.now _ _
    (command_values c.args.commands.items) c.play_commands.new.core
    c.in_ok-start.ensures.ok c.play_commands.ensures.begun
