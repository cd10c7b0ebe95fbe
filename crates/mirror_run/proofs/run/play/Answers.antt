use Rattle.mirror_run.specs.Script.ScriptView.{script_value}
use Rattle.mirror_run.proofs.Runs.{printed_given, stopped_given}
use Rattle.mirror_run.proofs.run.play.Goals as goal

pub returns-clause-ok : goal.returns-clause-ok
returns-clause-ok g c =
    printed_given c.args.report _ _ _ (script_value c.in_ok-script.script) c.in_ok-script.ensures.ok
    c.play_script.result c.play_script.ensures.ok

pub returns-clause-err : goal.returns-clause-err
returns-clause-err g c =
    stopped_given c.args.report _ _ _ (script_value c.in_ok-script.script) c.in_ok-script.ensures.ok
    c.play_script.result c.play_script.ensures.begun c.play_script.ensures.err
