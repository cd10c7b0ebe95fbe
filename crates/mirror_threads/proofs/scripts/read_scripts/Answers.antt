-- One reader more gives its script, or stops the run.
use Rattle.std.proofs.Common.{◌≡◌, ◌∙◌, ◌<◌, arith, length, subst, sym}
use Rattle.std.proofs.lemmas.List.{length-set}
use Rattle.std.proofs.lemmas.Result.{err_from_is_err_and}
use Rattle.mirror_run.specs.Script.ScriptView.{script_value}
use Rattle.mirror_threads.specs.Threads.{IsGiven, IsPlainStop}
use Rattle.mirror_threads.proofs.GivenLemmas.{given_more, next_same, one_stops, rest_same}
use Rattle.mirror_threads.proofs.scripts.read_scripts.Goals as goal

pub loop-number-preserved : goal.loop-number-preserved
loop-number-preserved g c =
    let l = c.loop-number in
    let xs = c.args.readers.now in
    let reader = c.index-readers-number.result in
    let before : l.number < length l.readers = omega (arith, l.invariant.long, c.loop-number-test.true) in
    let here : l.number < length xs = omega (arith, l.invariant.long, before) in
    let is = next_same l.readers xs l.number reader before here l.invariant.rest c.index-readers-number.is in
    let given = subst (λ r. IsGiven (g.R.Read.remaining r) (script_value c.in_ok-script.script))
    (sym c.index-readers-number.is) c.in_ok-script.ensures.ok in
    record {
      given = rw c.in-Ok-push.ensures.items (given_more g.R.Read.remaining xs l.number reader here is
          script_value l.scripts.items c.in_ok-script.script l.invariant.given given);
      rest = rest_same l.readers xs l.number c.read_named.new.reader before here l.invariant.rest;
      long = length-set l.readers l.number c.read_named.new.reader ∙ l.invariant.long;
    }

pub returns-in_err-script-clause-err : goal.returns-in_err-script-clause-err
returns-in_err-script-clause-err g c =
    let l = c.loop-number in
    let xs = c.args.readers.now in
    let reader = c.index-readers-number.result in
    let before : l.number < length l.readers = omega (arith, l.invariant.long, c.loop-number-test.true) in
    let here : l.number < length xs = omega (arith, l.invariant.long, before) in
    let is = next_same l.readers xs l.number reader before here l.invariant.rest c.index-readers-number.is in
    let plain = subst (λ r. IsPlainStop (g.R.Read.remaining r) c.in_err-script.field-0.0)
    (sym c.index-readers-number.is) c.in_err-script.ensures.err in
    let told = one_stops g.R.Read.remaining xs l.number reader here is c.in_err-script.field-0.0 plain in
    let err = err_from_is_err_and c.from_residual.result c.from_residual.ensures.1 in
    rw (err.1, err.2) told
