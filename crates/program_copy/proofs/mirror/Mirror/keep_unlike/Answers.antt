use Rattle.std.proofs.Common.{◌≡◌, ◌∙◌, inl, inr, subst, true}
use Rattle.std.specs.Prelude.{◌⊎◌, IfSome, slice_get}
use Rattle.notify_paths.specs.Path.{PathValue}
use Rattle.reader_paths.specs.Plan.{look_at}
use Rattle.program_copy.specs.After.{waits}
use Rattle.program_copy.proofs.NamedLemmas.{left_next, of_first, or_grows}
use Rattle.program_copy.proofs.mirror.Mirror.keep_unlike.Goals as goal

pub loop-event-preserved : goal.loop-event-preserved
loop-event-preserved g c =
    let same = c.keep_event_unlike.ensures.same ∙ c.loop-event.invariant.same in
    let seen = c.args.looks.now.standing.entries in
    let like : PathValue → Type 0 = λ p. (waits c.keep_event_unlike.new.self.waiting p ≡ true)
    ⊎ (look_at c.args.self.now.kept.copied p ≡ look_at seen p) in
    record {
      like = left_next (λ p. (waits c.loop-event.self.waiting p ≡ true)
          ⊎ (look_at c.args.self.now.kept.copied p ≡ look_at seen p)) like
          c.args.batch.now c.loop-event.event-index c.event-item.result c.loop-event-test.true c.event-item.is
          (λ p. or_grows (c.in_ok-keep_event_unlike.ensures.stay p))
          (of_first like c.event-item.result.event.paths
          (subst (λ kept. IfSome (slice_get c.event-item.result.event.paths 0) (λ p.
          (waits c.keep_event_unlike.new.self.waiting p ≡ true) ⊎ (look_at kept.copied p ≡ look_at seen p))) same
          c.in_ok-keep_event_unlike.ensures.like))
          c.loop-event.invariant.like;
      same = same;
    }
