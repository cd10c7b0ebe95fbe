use Rattle.std.proofs.Common.{◌≡◌, ◌∙◌, true}
use Rattle.notify_paths.specs.Path.{PathValue}
use Rattle.program_copy.specs.Looked.{is_known}
use Rattle.program_copy.proofs.NamedLemmas.{left_next, of_first}
use Rattle.program_copy.proofs.looks.Looks.look_for_each.Goals as goal

pub loop-event-preserved : goal.loop-event-preserved
loop-event-preserved g c =
    let before = c.loop-event.self in
    let after = c.look_for.new.self in
    let known : PathValue → Type 0 = λ p. is_known after.standing.entries after.others.entries p ≡ true in
    record {
      wanted = c.in_ok-look_for.ensures.wanted ∙ c.loop-event.invariant.wanted;
      known = left_next (λ p. is_known before.standing.entries before.others.entries p ≡ true) known
          c.args.batch.now c.loop-event.event-index c.event-item.result c.loop-event-test.true c.event-item.is
          c.in_ok-look_for.ensures.stay (of_first known c.event-item.result.event.paths c.in_ok-look_for.ensures.known)
          c.loop-event.invariant.known;
      seen = λ noted. c.in_ok-look_for.ensures.seen (c.loop-event.invariant.seen noted);
    }
