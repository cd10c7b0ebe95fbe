use Rattle.debounce_model.specs.CommandView.{command_values}
use Rattle.debounce_run.proofs.ThreadsLemmas.Merges.{copied-more}
use Rattle.debounce_run.proofs.threads.run.clone_scripts.Goals as goal

pub loop-script-preserved : goal.loop-script-preserved
loop-script-preserved g c =
    let l = c.loop-script in
    rw c.in_ok-push.ensures.items (copied-more (λ script. command_values script.items) l.copies.items
    c.args.scripts.now l.script-index c.in_ok-clone_commands.field-0 c.script-item.result
    c.loop-script-test.true c.script-item.is (rw c.as_slice.ensures.value at c.in_ok-clone_commands.ensures)
    l.invariant)
