use Rattle.std.proofs.Common.{◌∙◌, ap, subst, sym}
use Rattle.std.specs.Map.Iter.{deref_pair}
use Rattle.std.specs.Ordering.{is_lt}
use Rattle.notify_paths.specs.Path.{PathValue}
use Rattle.poll_listing.specs.declared.entry.Found.{Found}
use Rattle.poll_listing.proofs.UpdateLemmas.{Ascends}
use Rattle.listing_looks.specs.Looks.{within}
use Rattle.listing_looks.proofs.WithinLemmas.{none_within, taken-sorted, within-skip}
use Rattle.listing_looks.proofs.said.next_within.Goals as goal

pub returns-then-starts_with-clause-sorted : goal.returns-then-starts_with-clause-sorted
returns-then-starts_with-clause-sorted g c =
    taken-sorted deref_pair c.loop-path.entries c.next.new.self c.next.result c.loop-path.invariant.sorted
    c.next.ensures.steps

pub returns-then-is_lt-clause-next : goal.returns-then-is_lt-clause-next
returns-then-is_lt-clause-next g c =
    let top = c.args.top.now in
    let entry : PathValue × Found = (c.in-Some.path.now, c.in-Some.found.now) in
    sym c.loop-path.invariant.same ∙ ap (λ es. within es top) c.in-Some.ensures.steps
    ∙ none_within top entry c.next.new.self (subst Ascends c.in-Some.ensures.steps c.loop-path.invariant.sorted)
    (ap is_lt (sym c.cmp.ensures) ∙ sym c.is_lt.ensures ∙ c.if-is_lt.true)
    (sym c.starts_with.ensures ∙ c.if-starts_with.false)

pub returns-then-is_lt-clause-sorted : goal.returns-then-is_lt-clause-sorted
returns-then-is_lt-clause-sorted g c =
    taken-sorted deref_pair c.loop-path.entries c.next.new.self c.next.result c.loop-path.invariant.sorted
    c.next.ensures.steps

pub loop-path-preserved : goal.loop-path-preserved
loop-path-preserved g c =
    let top = c.args.top.now in
    let entry : PathValue × Found = (c.in-Some.path.now, c.in-Some.found.now) in
    record {
      same = sym (within-skip top entry c.next.new.self (sym c.starts_with.ensures ∙ c.if-starts_with.false))
          ∙ (ap (λ es. within es top) (sym c.in-Some.ensures.steps) ∙ c.loop-path.invariant.same);
      sorted = taken-sorted deref_pair c.loop-path.entries c.next.new.self c.next.result
          c.loop-path.invariant.sorted c.next.ensures.steps;
    }
