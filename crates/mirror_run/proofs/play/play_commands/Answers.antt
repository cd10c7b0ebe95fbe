use Rattle.std.proofs.Common.{◌∙◌, ap}
use Rattle.debounce_cache.specs.declared.cache.NoCache.{NoCache}
use Rattle.debounce_model.specs.CommandView.{command_values, reply_values}
use Rattle.mirror_run.specs.Transcript.{IsRunFrom}
use Rattle.mirror_run.proofs.Runs.{printed, begun, ran_from}
use Rattle.mirror_run.proofs.play.play_commands.Goals as goal

pub returns-clause-ok : goal.returns-clause-ok
returns-clause-ok g c =
    let told = ap command_values c.as_slice-2.ensures.value ∙ c.in_ok-copies.ensures
    ∙ ap command_values c.as_slice.ensures.value in
    let said = ap reply_values c.as_slice-3.ensures.value in
    let run = ran_from c.args.core.now c.args.start.now (command_values c.args.commands.items) _
    (reply_values c.in_ok-replies.replies.items) _ c.run.new.self c.in_ok-outlook.outlook.items _ told said
    c.as_slice-4.ensures.value c.in_ok-replies.ensures.run c.in_ok-outlook.ensures.outlook in
    printed c.args.report _ _ c.print_run.result (IsRunFrom {C = NoCache} c.args.core.now c.args.start.now
    (command_values c.args.commands.items) c.run.new.self) _ run c.print_run.ensures.ok

pub returns-clause-begun : goal.returns-clause-begun
returns-clause-begun g c =
    let told = ap command_values c.as_slice-2.ensures.value ∙ c.in_ok-copies.ensures
    ∙ ap command_values c.as_slice.ensures.value in
    let said = ap reply_values c.as_slice-3.ensures.value in
    let run = ran_from c.args.core.now c.args.start.now (command_values c.args.commands.items) _
    (reply_values c.in_ok-replies.replies.items) _ c.run.new.self c.in_ok-outlook.outlook.items _ told said
    c.as_slice-4.ensures.value c.in_ok-replies.ensures.run c.in_ok-outlook.ensures.outlook in
    begun c.args.report _ _ c.print_run.result (IsRunFrom {C = NoCache} c.args.core.now c.args.start.now
    (command_values c.args.commands.items) c.run.new.self) _ run c.print_run.ensures.begun
