use Rattle.mirror_run.specs.Script.ScriptView.{script_value}
use Rattle.mirror_run.proofs.Runs.{printed_script, begun_script}
use Rattle.mirror_run.proofs.play.play_script.Goals as goal

pub returns-clause-ok : goal.returns-clause-ok
returns-clause-ok g c =
    printed_script c.args.report _ _ (script_value c.args.script) c.opening-core.result _
    c.opening-core.ensures.state c.opening-core.ensures.answer c.play_from.result c.play_from.ensures.ok

pub returns-clause-begun : goal.returns-clause-begun
returns-clause-begun g c =
    begun_script c.args.report _ _ (script_value c.args.script) c.opening-core.result _
    c.opening-core.ensures.state c.opening-core.ensures.answer c.play_from.result c.play_from.ensures.begun
