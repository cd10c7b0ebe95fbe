use Rattle.std.proofs.Common.{◌≡◌, List}
use Rattle.std.specs.List.{AllZip}
use Rattle.std.proofs.lemmas.Result.{IfOk-weaker}
use Rattle.debounce_model.specs.CommandView.{command_value, command_values}
use Rattle.debounce_model.proofs.Lists.{same_values}
use Rattle.debounce_model.proofs.command.clone_commands.Goals as goal

pub returns : goal.returns
returns g c =
    IfOk-weaker c.to_vec.result
    (λ copies. AllZip (λ x y. command_value y ≡ command_value x) c.args.commands.now copies.items)
    (λ copies. command_values copies.items ≡ command_values c.args.commands.now)
    (λ copies. same_values command_value c.args.commands.now copies.items) c.to_vec.ensures.ok
