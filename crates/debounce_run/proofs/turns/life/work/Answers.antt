use Rattle.std.proofs.Common.{◌∙◌, refl}
use Rattle.debounce_run.proofs.TurnsLemmas.Hands.{handed_none, hands_more}
use Rattle.debounce_run.proofs.TurnsLemmas.Ticks.{first_among, ticks_among}
use Rattle.debounce_run.proofs.turns.life.work.Goals as goal

pub loop-init : goal.loop-init
loop-init g c = (
  c.requires.ready,
  refl,
  handed_none g.H.DebounceEventHandler.handles c.args.handler c.args.gate c.requires.fresh,
  first_among c.args.gate c.requires.fresh,
)

pub loop-preserved-then-is_err : goal.loop-preserved-then-is_err
loop-preserved-then-is_err g c =
    let went = c.turn_now.ensures in (
      went.again,
      went.handed.0 ∙ c.loop.invariant.1,
      hands_more g.H.DebounceEventHandler.handles c.args.handler
          c.loop.handler c.turn_now.new.handler c.loop.gate c.turn_now.new.gate c.loop.invariant.2 went.handed,
      ticks_among c.loop.gate c.turn_now.new.gate c.loop.invariant.3 went.moment,
    )

pub loop-preserved : goal.loop-preserved
loop-preserved g c =
    let went = c.turn_now.ensures in (
      went.again,
      went.handed.0 ∙ c.loop.invariant.1,
      hands_more g.H.DebounceEventHandler.handles c.args.handler
          c.loop.handler c.turn_now.new.handler c.loop.gate c.turn_now.new.gate c.loop.invariant.2 went.handed,
      ticks_among c.loop.gate c.turn_now.new.gate c.loop.invariant.3 went.moment,
    )
