use Rattle.std.proofs.Common.{rules, ◌∙◌, ap, sym, ◌||◌, ◌∷◌, []}
use Rattle.std.specs.BTreeMap.{is_at}
use Rattle.std.specs.BTreeSet.{contains}
use Rattle.std.specs.List.{list_any}
use Rattle.std.proofs.lemmas.List.Folds.{list_any-append}
use Rattle.notify_paths.specs.Path.{path_cmp}
use Rattle.debounce_queues.specs.Due.{is_due_at}
use Rattle.debounce_queues.specs.Steps.{is_due_pair}
use Rattle.debounce_queues.proofs.FrontTicks.{end_quiet, or_quiet, later_step, sorted_newer}
use Rattle.debounce_queues.proofs.FrontPlaces.{path_step}
use Rattle.debounce_queues.proofs.index.IndexedMap.due_paths.Goals as goal

pub returns-then-not-is_due_at : goal.returns-then-not-is_due_at
returns-then-not-is_due_at g c = λ p.
    or_quiet _ _ _ (c.loop-front.invariant.found p)
    (ap (list_any (is_due_pair c.args.due p)) c.in-Some.ensures.steps
    ∙ end_quiet c.args.due (λ k. is_at (path_cmp p) k.1) c.in-Some.front.now c.next_back.new.self
    (ap (λ k. is_due_at c.args.due k.0) (sym c.front.view_is) ∙ sym c.is_due_at.ensures
    ∙ c.if-not-is_due_at.true)
    (rw c.in-Some.ensures.steps at c.loop-front.invariant.ordered))

pub loop-front-preserved : goal.loop-front-preserved
loop-front-preserved g c =
    let i = c.loop-front.invariant in
    let k = c.in-Some.front.now in
    record {
      found = λ p. later_step (contains path_cmp c.loop-front.paths p) _ (is_due_at c.args.due k.0)
          (is_at (path_cmp p) k.1) (list_any (is_due_pair c.args.due p) c.next_back.new.self) _
          (ap (λ k. is_due_at c.args.due k.0) (sym c.front.view_is) ∙ sym c.is_due_at.ensures
          ∙ c.if-not-is_due_at.false)
          (path_step c.loop-front.paths c.insert.new.self c.in_ok-key.key k.1 p
          (c.in_ok-key.ensures.cases ∙ ap (λ k. k.1) c.front.view_is)
          c.in_ok-insert.ensures.updates.0) (ap (λ b. contains path_cmp c.loop-front.paths p || b)
          (sym (ap (list_any (is_due_pair c.args.due p)) c.in-Some.ensures.steps
          ∙ list_any-append (is_due_pair c.args.due p) c.next_back.new.self (k ∷ []))) ∙ i.found p);
      ordered = sorted_newer k c.next_back.new.self (rw c.in-Some.ensures.steps at i.ordered);
    }

pub loop-front-init : goal.loop-front-init
loop-front-init g c =
    record {
      found = λ p. search rules;
      ordered = rw c.iter-fronts.ensures.rest c.iter-fronts.ensures.ordered;
    }
