use Rattle.std.proofs.Common.{◌∙◌, ap, subst, sym}
use Rattle.std.specs.Ordering.{is_lt}
use Rattle.notify_paths.specs.Path.{PathValue}
use Rattle.poll_listing.specs.declared.entry.Found.{Found}
use Rattle.poll_listing.proofs.UpdateLemmas.{Ascends}
use Rattle.poll_rounds.specs.Beside.{within}
use Rattle.poll_rounds.proofs.LaterLemmas.{none_within}
use Rattle.poll_rounds.proofs.later.next_within.Goals as goal

pub returns-then-is_lt : goal.returns-then-is_lt
returns-then-is_lt g c =
    let top = c.args.top.now in
    let entry : PathValue × Found = (c.in-Some.path.now, c.in-Some.found.now) in
    sym c.loop-path.invariant ∙ ap (λ es. within es top) c.in-Some.ensures.next
    ∙ none_within top entry c.next.new.self (subst Ascends c.in-Some.ensures.next c.in-Some.ensures.sorted)
    (ap is_lt (sym c.cmp.ensures) ∙ sym c.is_lt.ensures ∙ c.if-is_lt.true)
    (sym c.starts_with.ensures ∙ c.if-starts_with.false)
