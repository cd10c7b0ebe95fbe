-- No queue from the path on, the path's own, or one of another path.
use Rattle.std.proofs.Common.{◌≡◌, ◌∙◌, ap, sym}
use Rattle.debounce_core.proofs.RenameLemmas.LookLemmas.{none_look, other_look, same_look, starts_below}
use Rattle.debounce_core.proofs.rename.look.look_at.Goals as goal
use Rattle.debounce_core.proofs.rename.look.look_at.Goals.{in-None, in-Some-next}

pub returns-in_default-clause-look : goal.returns-in_default-clause-look
returns-in_default-clause-look g c =
    none_look c.args.path.now c.args.queues.now.entries c.range-from_path.ensures.ordered
    (c.range-from_path.ensures.between tt) c.in_default.ensures.steps.0

pub returns-then-eq-clause-look : goal.returns-then-eq-clause-look
returns-then-eq-clause-look g c =
    let below : c.match-next-2.below ≡ starts_below c.args.path.now c.next.new.self =
    elim c.match-next-2.branch [
      | in-None w ↦ w.below-is ∙ sym (ap (starts_below c.args.path.now) w.in-None.ensures.steps.0)
      | in-Some-next w ↦ w.below-is ∙ w.starts_with-below.ensures
          ∙ sym (ap (starts_below c.args.path.now) w.in-Some-next.ensures.steps)
    ] in
    same_look c.args.path.now c.args.queues.now.entries (c.in-Some.first.now, c.in-Some.queue.now) c.next.new.self
    c.range-from_path.ensures.ordered (c.range-from_path.ensures.between tt) c.in-Some.ensures.steps c.eq.ensures.value
    c.if-eq.true below

pub returns-clause-look : goal.returns-clause-look
returns-clause-look g c =
    other_look c.args.path.now c.args.queues.now.entries (c.in-Some.first.now, c.in-Some.queue.now) c.next.new.self
    c.range-from_path.ensures.ordered (c.range-from_path.ensures.between tt) c.in-Some.ensures.steps c.eq.ensures.value
    c.if-eq.false c.starts_with.ensures

pub returns-in_default-clause-ordered : goal.returns-in_default-clause-ordered
returns-in_default-clause-ordered g c = c.range-from_path.ensures.ordered

pub returns-then-eq-clause-ordered : goal.returns-then-eq-clause-ordered
returns-then-eq-clause-ordered g c = c.range-from_path.ensures.ordered

pub returns-clause-ordered : goal.returns-clause-ordered
returns-clause-ordered g c = c.range-from_path.ensures.ordered
