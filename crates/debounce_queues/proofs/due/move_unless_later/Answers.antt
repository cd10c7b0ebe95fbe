-- One more event is moved, unless a later one has its kind.
use Rattle.std.proofs.Common.{◌≡◌, ◌∙◌, sym, ap, true, false, arith}
use Rattle.std.specs.List.{list_any}
use Rattle.std.proofs.lemmas.List.{append-nil}
use Rattle.notify_types.specs.KindNumbers.{kind_eq}
use Rattle.debounce_queues.proofs.due.move_unless_later.Goals as goal

pub push_reserved-requires : goal.push_reserved-requires
push_reserved-requires g c =
    let x = c.args.event in
    let later = c.args.later.now in
    let none : list_any (λ y. kind_eq x.event.kind y.event.kind) later ≡ false =
    ap (λ k. list_any (λ y. kind_eq k y.event.kind) later) (sym c.kind.ensures) ∙ sym c.has_kind.ensures
    ∙ c.if-not-has_kind.true in
    omega (arith, rw none at c.requires)

pub returns-then-not-has_kind-clause-moved : goal.returns-then-not-has_kind-clause-moved
returns-then-not-has_kind-clause-moved g c =
    let x = c.args.event in
    let later = c.args.later.now in
    let none : list_any (λ y. kind_eq x.event.kind y.event.kind) later ≡ false =
    ap (λ k. list_any (λ y. kind_eq k y.event.kind) later) (sym c.kind.ensures) ∙ sym c.has_kind.ensures
    ∙ c.if-not-has_kind.true in
    rw none c.push_reserved.ensures.items

pub returns-else-not-has_kind-clause-moved : goal.returns-else-not-has_kind-clause-moved
returns-else-not-has_kind-clause-moved g c =
    let x = c.args.event in
    let later = c.args.later.now in
    let some : list_any (λ y. kind_eq x.event.kind y.event.kind) later ≡ true =
    ap (λ k. list_any (λ y. kind_eq k y.event.kind) later) (sym c.kind.ensures) ∙ sym c.has_kind.ensures
    ∙ c.if-not-has_kind.false in
    rw some (sym (append-nil c.args.out.now.items))
