-- What is turned round, emptied from the back and turned round again.
use Rattle.std.proofs.Common.{◌≡◌, ◌∙◌, ◌+◌, ◌-◌, ◌++◌, ap, arith, length, drop, take, rules}
use Rattle.std.specs.Prelude.{reverse}
use Rattle.debounce_model.specs.Due.{last_of_kind, expired_beginning}
use Rattle.debounce_queues.specs.Due.{is_due}
use Rattle.debounce_queues.proofs.MoveLemmas.{end_turned, front_turned}
use Rattle.debounce_queues.proofs.queue.Queue.take_due.Goals as goal

pub move_last_of_kind-requires-clause-room : goal.move_last_of_kind-requires-clause-room
move_last_of_kind-requires-clause-room g c =
    let xs = c.self.inside.events.items in
    let n = c.expired_count-count.result in
    let left = c.len.result - n in
    let size : left + n ≡ length xs = omega (
      arith,
      c.expired_count-count.ensures.bound,
      c.as_slice.ensures.len,
      c.len.ensures,
      c.self.inside.events.ok.0,
    ) in
    let given : reverse (drop left c.reverse_events.new.events.items)
    ≡ expired_beginning (is_due c.args.due) c.args.self.now =
    ap (λ l. reverse (drop left l)) c.reverse_events.ensures ∙ end_turned xs n left size ∙ search rules in
    rw given c.requires

pub returns-clause-moved : goal.returns-clause-moved
returns-clause-moved g c =
    let xs = c.self.inside.events.items in
    let n = c.expired_count-count.result in
    let left = c.len.result - n in
    let size : left + n ≡ length xs = omega (
      arith,
      c.expired_count-count.ensures.bound,
      c.as_slice.ensures.len,
      c.len.ensures,
      c.self.inside.events.ok.0,
    ) in
    let given : reverse (drop left c.reverse_events.new.events.items)
    ≡ expired_beginning (is_due c.args.due) c.args.self.now =
    ap (λ l. reverse (drop left l)) c.reverse_events.ensures ∙ end_turned xs n left size ∙ search rules in
    c.move_last_of_kind.ensures.moved ∙ ap (λ l. c.args.out.now.items ++ last_of_kind l) given

pub returns-clause-rest : goal.returns-clause-rest
returns-clause-rest g c =
    let xs = c.self.inside.events.items in
    let n = c.expired_count-count.result in
    let left = c.len.result - n in
    let size : left + n ≡ length xs = omega (
      arith,
      c.expired_count-count.ensures.bound,
      c.as_slice.ensures.len,
      c.len.ensures,
      c.self.inside.events.ok.0,
    ) in
    c.reverse_events-2.ensures
    ∙ ap reverse (c.move_last_of_kind.ensures.left ∙ ap (take left) c.reverse_events.ensures)
    ∙ front_turned xs n left size ∙ search rules
