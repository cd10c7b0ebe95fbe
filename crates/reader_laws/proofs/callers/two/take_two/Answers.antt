-- The three calls are a run of three steps.
use Rattle.std.proofs.Common.{[], ◌∷◌, refl}
use Rattle.debounce_model.specs.Command.{TakenReply, BatchReply}
use Rattle.debounce_model.specs.Honest.{IsHonest}
use Rattle.debounce_model.specs.Run.{Run}
use Rattle.reader_laws.specs.Callers.Two.{two_commands}
use Rattle.reader_laws.proofs.callers.two.take_two.Goals as goal

pub returns : goal.returns
returns g c =
    let s = c.args.core.now in
    let a = c.add_event.new.self in
    let b = c.add_event-2.new.self in
    let t = c.debounced_events.new.self in
    let commands = two_commands c.args.first c.args.second c.args.now in
    let replies = TakenReply a.answer ∷ TakenReply b.answer ∷ BatchReply c.in_ok-batch.batch.items ∷ [] in
    let run : Run g.C.FileIdCache.rules s commands replies t = (
      a,
      (c.in_ok-add_event.ensures.ok, refl),
      (
        b,
        (c.in_ok-add_event-2.ensures.ok, refl),
        (t, (c.in_ok-batch.ensures.batch, c.in_ok-batch.ensures.ok), refl),
      ),
    ) in
    record {
      raw = λ none paths outlook ordered honest shown.
          let stream : IsHonest paths commands replies =
          record { closed = honest.closed; events = honest.events } in
          c.laws_of_runs.ensures.raw s t commands replies run c.waiting-waiting.ensures.laws none
          paths outlook ordered stream shown;
    }
