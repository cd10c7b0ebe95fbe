-- The event is lent, unless a later one has its kind.
use Rattle.std.proofs.Common.{◌≡◌, ◌∙◌, sym, ap, true, false}
use Rattle.std.specs.List.{list_any}
use Rattle.std.proofs.lemmas.List.{append-nil}
use Rattle.notify_types.specs.Borrowed.{borrowed}
use Rattle.notify_types.specs.KindNumbers.{kind_eq}
use Rattle.debounce_model.proofs.OrderLemmas.{map-push}
use Rattle.debounce_queues.proofs.due.lend_unless_later.Goals as goal

pub returns : goal.returns
returns g c =
    let x = c.args.event.now in
    let later = c.args.later.now in
    let none : list_any (λ y. kind_eq x.event.kind y.event.kind) later ≡ false =
    ap (λ k. list_any (λ y. kind_eq k y.event.kind) later) (sym c.kind.ensures) ∙ sym c.has_kind.ensures
    ∙ c.if-has_kind.false in
    rw none (ap borrowed c.in_ok-push.ensures.items ∙ map-push (λ e. e.now) c.args.out.now.items c.args.event)

pub returns-then-has_kind : goal.returns-then-has_kind
returns-then-has_kind g c =
    let x = c.args.event.now in
    let later = c.args.later.now in
    let has : c.has_kind.result ≡ true = cc in
    let some : list_any (λ y. kind_eq x.event.kind y.event.kind) later ≡ true =
    ap (λ k. list_any (λ y. kind_eq k y.event.kind) later) (sym c.kind.ensures) ∙ sym c.has_kind.ensures
    ∙ has in
    rw some (sym (append-nil (borrowed c.args.out.now.items)))
