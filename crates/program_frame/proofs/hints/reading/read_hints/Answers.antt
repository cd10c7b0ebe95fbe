use Rattle.std.proofs.Common.{refl, false}
use Rattle.std.proofs.KnownBytes.{Consumes-kept}
use Rattle.program_frame.proofs.HintsLemmas.ReadLemmas.{consumes_none, read_ended, read_more, read_stopped}
use Rattle.program_frame.proofs.hints.reading.read_hints.Goals as goal
use Rattle.program_frame.proofs.hints.reading.read_hints.Goals.{in-Ok+else-not-take, in-Err}

pub returns-in-Ok-eq0-clause-given : goal.returns-in-Ok-eq0-clause-given
returns-in-Ok-eq0-clause-given g c =
    let remaining = g.S.Read.remaining in
    let known = remaining c.args.source.now in
    let left = remaining c.loop.source in
    let now = remaining c.read.new.self in
    let read = rw (c.in-Ok-eq0.is, c.in-Ok-eq0.field-0-test) at c.read.ensures.bytes in
    let end = read_ended g.T.TakesHints.takes c.args.lines known c.args.sink.now c.loop.lines left now c.loop.sink
    c.finish.new.sink c.finish.result c.loop.invariant
    (λ bytes h. consumes_none known left now bytes h read.0) c.finish.ensures in
    (end.0, c.finish.result, end.1, end.2, refl)

pub returns-then-not-take-clause-given : goal.returns-then-not-take-clause-given
returns-then-not-take-clause-given g c =
    let remaining = g.S.Read.remaining in
    let known = remaining c.args.source.now in
    let left = remaining c.loop.source in
    let now = remaining c.read.new.self in
    let end = read_stopped g.T.TakesHints.takes c.args.lines known c.args.sink.now c.loop.lines left now c.loop.sink
    c.take.new.sink false _ c.loop.invariant c.in-Ok.ensures.bytes.0
    (λ line h more. c.if-not-take.ensures.stopped line h refl more) in
    (end.0, false, end.1, end.2, refl)

pub returns-in-Err-2-clause-given : goal.returns-in-Err-2-clause-given
returns-in-Err-2-clause-given g c =
    let remaining = g.S.Read.remaining in
    let known = remaining c.args.source.now in
    let left = remaining c.loop.source in
    let now = remaining c.read.new.self in
    let end = read_ended g.T.TakesHints.takes c.args.lines known c.args.sink.now c.loop.lines left now c.loop.sink
    c.finish-in-Err-2.new.sink c.finish-in-Err-2.result c.loop.invariant
    (λ bytes h. Consumes-kept known left now bytes h c.in-Err.ensures.bytes) c.finish-in-Err-2.ensures in
    (end.0, c.finish-in-Err-2.result, end.1, end.2, tt)

pub returns-clause-given : goal.returns-clause-given
returns-clause-given g c =
    let remaining = g.S.Read.remaining in
    let known = remaining c.args.source.now in
    let left = remaining c.loop.source in
    let end = read_ended g.T.TakesHints.takes c.args.lines known c.args.sink.now c.loop.lines left left c.loop.sink
    c.finish-2.new.sink c.finish-2.result c.loop.invariant (λ bytes h. h) c.finish-2.ensures in
    (end.0, c.finish-2.result, end.1, end.2, tt)

pub loop-preserved : goal.loop-preserved
loop-preserved g c =
    let remaining = g.S.Read.remaining in
    let known = remaining c.args.source.now in
    let left = remaining c.loop.source in
    let now = remaining c.read.new.self in
    let inv = c.loop.invariant in
    elim c.match-read.branch [
      | in-Ok+else-not-take w ↦
          rw (w.lines-is, w.sink-is) (read_more g.T.TakesHints.takes c.args.lines known c.args.sink.now c.loop.lines
          w.take.new.self left now c.loop.sink w.take.new.sink _ inv w.in-Ok.ensures.bytes.0
          w.if-not-take.ensures.same (λ line h. w.if-not-take.ensures.taken line h refl))
      | in-Err w ↦
          rw (w.lines-is, w.sink-is) (
            inv.0,
            (
              inv.1.0,
              inv.1.1,
              Consumes-kept known left now inv.1.0 inv.1.2
                  w.in-Err.ensures.bytes,
              inv.1.3,
              inv.1.4,
            ),
          )
    ]
