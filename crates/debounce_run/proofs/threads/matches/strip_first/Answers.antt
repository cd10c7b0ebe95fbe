-- The list begins with the command, or not.
use Rattle.std.proofs.Common.{arith, ◌∙◌, sym}
use Rattle.std.proofs.lemmas.Grind.{common_steps}
use Rattle.debounce_model.specs.CommandView.{command_value}
use Rattle.debounce_run.proofs.ThreadsLemmas.Merges.{stripped-first, stripped-none, unstripped-first}
use Rattle.debounce_run.proofs.threads.matches.strip_first.Goals as goal
use Rattle.debounce_run.proofs.threads.matches.strip_first.Goals.{in_default-via-then-commands-lt1, in_default-via-in-len1-up+else-eq}

pub returns-in-len1-up : goal.returns-in-len1-up
returns-in-len1-up g c =
    stripped-first command_value c.args.commands.now c.command-item.result (command_value c.args.first.now)
    c.in-len1-up.len_at_least c.command-item.is (sym c.eq.ensures ∙ c.if-eq.true)

pub returns-in_default : goal.returns-in_default
returns-in_default g c =
    elim c.in_default.branch [
      | in_default-via-then-commands-lt1 w ↦
          stripped-none command_value c.args.commands.now (command_value c.args.first.now)
          (grind (arith, common_steps))
      | in_default-via-in-len1-up+else-eq w ↦
          unstripped-first command_value c.args.commands.now w.command-item.result
          (command_value c.args.first.now)
          w.in-len1-up.len_at_least w.command-item.is (sym w.eq.ensures ∙ w.if-eq.false)
    ]
