-- One command more, which is an event or not.
use Rattle.std.proofs.Common.{◌∙◌, ℕ, ◌+◌, ap, arith, sym}
use Rattle.debounce_model.specs.CommandView.{command_value}
use Rattle.mirror_threads.specs.Threads.{is_event}
use Rattle.mirror_threads.proofs.GivenLemmas.{count-yes, count-no}
use Rattle.mirror_threads.proofs.scripts.events_of.Goals as goal

pub loop-number-preserved-then-not-is_event : goal.loop-number-preserved-then-not-is_event
loop-number-preserved-then-not-is_event g c = record {
  counted = c.loop-number.invariant.counted
      ∙ sym (count-no command_value c.args.commands.now c.loop-number.number c.index-commands-number.result
      c.loop-number-test.true c.index-commands-number.is is_event
      (sym c.is_event.ensures ∙ c.if-not-is_event.true));
  bound = omega arith;
}

pub loop-number-preserved : goal.loop-number-preserved
loop-number-preserved g c = record {
  counted = ap (λ (n : ℕ). n + 1) c.loop-number.invariant.counted
      ∙ sym (count-yes command_value c.args.commands.now c.loop-number.number c.index-commands-number.result
      c.loop-number-test.true c.index-commands-number.is is_event
      (sym c.is_event.ensures ∙ c.if-not-is_event.false));
  bound = omega arith;
}
