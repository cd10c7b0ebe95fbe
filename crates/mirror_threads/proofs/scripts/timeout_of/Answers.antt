-- One script more has the timeout, or has another one.
use Rattle.std.proofs.Common.{◌≡◌, ◌∙◌, ℕ, ap, arith, get_or, map, sym, take}
use Rattle.std.proofs.lemmas.List.{take_all}
use Rattle.std.proofs.lemmas.List.Elements.{All-same}
use Rattle.mirror_run.specs.Script.{ScriptValue}
use Rattle.mirror_run.specs.Script.ScriptView.{script_value}
use Rattle.mirror_threads.proofs.GivenLemmas.{all-more, value_has}
use Rattle.mirror_threads.proofs.scripts.timeout_of.Goals as goal

pub loop-script-preserved : goal.loop-script-preserved
loop-script-preserved g c =
    let timeout = (get_or c.args.scripts.now 0 c.index-scripts-0.result).timeout in
    all-more script_value c.args.scripts.now c.loop-script.script-index c.script-item.result
    c.loop-script-test.true c.script-item.is (λ (s : ScriptValue). s.timeout ≡ timeout)
    c.loop-script.invariant c.if-script-timeout.false

pub returns-then-script-timeout-clause-differ : goal.returns-then-script-timeout-clause-differ
returns-then-script-timeout-clause-differ g c = λ timeout all.
    let xs = c.args.scripts.now in
    let first = value_has script_value xs 0 c.index-scripts-0.result (omega arith) c.index-scripts-0.is
    (λ (s : ScriptValue). s.timeout ≡ timeout) all in
    let here = value_has script_value xs c.loop-script.script-index c.script-item.result
    c.loop-script-test.true c.script-item.is (λ (s : ScriptValue). s.timeout ≡ timeout) all in
    c.if-script-timeout.true (here ∙ sym first ∙ ap (λ s. s.timeout) c.index-scripts-0.is)

pub returns-clause-ok : goal.returns-clause-ok
returns-clause-ok g c =
    let xs = c.args.scripts.now in
    let timeout = (get_or xs 0 c.index-scripts-0.result).timeout in
    All-same (λ (s : ScriptValue). s.timeout ≡ timeout) (map script_value xs)
    (map script_value (take c.loop-script.script-index xs))
    (ap (map script_value) (sym (take_all c.loop-script.script-index xs c.loop-script-test.false)))
    c.loop-script.invariant
