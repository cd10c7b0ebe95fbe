use Rattle.std.proofs.Common.{◌≡◌, true, cond, sym, subst, ◌∙◌}
use Rattle.std.specs.BTreeMap.{is_at}
use Rattle.std.specs.BTreeSet.{contains}
use Rattle.debounce_queues.specs.Fronts.{front_cmp}
use Rattle.debounce_queues.proofs.FrontSettle.{put_in, was_in}
use Rattle.debounce_queues.proofs.settle.insert_copy.Goals as goal

pub returns-then-contains-clause-ok : goal.returns-then-contains-clause-ok
returns-then-contains-clause-ok g c = was_in c.args.fronts.now c.args.pair.now (sym c.contains.ensures
    ∙ c.if-contains.true)

pub returns-clause-ok : goal.returns-clause-ok
returns-clause-ok g c =
    put_in c.args.fronts.now c.insert.new.self c.args.pair.now
    (subst (λ k. (q : _) → contains front_cmp c.insert.new.self q
    ≡ cond (is_at (front_cmp k) q) true (contains front_cmp c.args.fronts.now q)) c.pair.view_is
    (rw c.in_ok-clone.ensures.cases at c.in_ok-insert.ensures.updates.0))
