use Rattle.std.proofs.Common.{rules, ◌≡◌, ◌∙◌, refl, ap, sym, subst, Some}
use Rattle.std.specs.List.{AllByRecursion}
use Rattle.poll_listing.specs.Updates.{added_at, after_each, update_at}
use Rattle.poll_listing.proofs.UpdateLemmas.{adds-nothing, differ-next, updates-found}
use Rattle.poll_listing.proofs.updates.add_each.Goals as goal

pub loop-path-init : goal.loop-path-init
loop-path-init g c = record {
  added = ap (after_each added_at c.args.entries.now.entries) c.iter-rest.ensures.rest;
  others = (c.len-count.ensures.ordered, λ q h. refl);
  found = subst (AllByRecursion (λ u. update_at c.args.updates.now.entries u.0 ≡ Some u.1))
      (sym c.iter-rest.ensures.rest) (updates-found c.args.updates.now.entries c.iter-rest.ensures.ordered);
}

pub loop-path-preserved : goal.loop-path-preserved
loop-path-preserved g c =
    let es = c.loop-path.entries.entries in
    let next = c.in-Some.ensures.steps in
    let i = c.loop-path.invariant in
    let same : added_at es (c.in-Some.path.now, c.in-Some.update.now) ≡ es =
    adds-nothing es c.in-Some.path.now c.in-Some.update.now c.in_default-update.not-Added in
    record {
      added = ap (λ es. after_each added_at es c.next.new.self) (sym same)
          ∙ (ap (after_each added_at es) (sym next) ∙ i.added);
      others = i.others;
      found = (subst (AllByRecursion (λ u. update_at c.args.updates.now.entries u.0 ≡ Some u.1)) next i.found).1;
    }

pub loop-path-preserved-in_ok-insert : goal.loop-path-preserved-in_ok-insert
loop-path-preserved-in_ok-insert g c =
    let us = c.args.updates.now.entries in
    let i = c.loop-path.invariant in
    let next = c.in-Some.ensures.steps in
    let found = subst (AllByRecursion (λ u. update_at us u.0 ≡ Some u.1)) next i.found in
    let is : c.insert.new.self.entries
    ≡ added_at c.loop-path.entries.entries (c.in-Some.path.now, c.in-Some.update.now) =
    rw c.in-Added.is (search rules) in
    record {
      added = ap (λ es. after_each added_at es c.next.new.self) is
          ∙ (ap (after_each added_at c.loop-path.entries.entries) (sym next) ∙ i.added);
      others = differ-next us c.args.entries.now.entries c.loop-path.entries.entries c.insert.new.self.entries
          c.in-Some.path.now c.in-Some.update.now found.0 is i.others;
      found = found.1;
    }
