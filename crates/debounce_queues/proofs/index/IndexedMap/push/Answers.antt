-- The push, by what the first path has.
use Rattle.std.proofs.Common.{◌≡◌, ◌∙◌, sym, ap, rules, refl, None}
use Rattle.std.specs.Map.{set_value}
use Rattle.std.specs.BTreeMap.{is_at}
use Rattle.std.proofs.lemmas.Result.{on_ok_weaker, on_err_weaker}
use Rattle.std.proofs.lemmas.Map.Steps.{set_value_same}
use Rattle.notify_paths.specs.Path.{path_cmp}
use Rattle.debounce_model.specs.Queues.{queue_at, with_queue, push, skips_at}
use Rattle.debounce_model.proofs.QueueLemmas.{push_appended, push-new}
use Rattle.debounce_queues.proofs.FrontMoves.{indexed-append}
use Rattle.debounce_queues.proofs.index.IndexedMap.push.Goals as goal

pub returns-in-Some-clause-ok : goal.returns-in-Some-clause-ok
returns-in-Some-clause-ok g c =
    let queues = c.args.self.now.map.entries in
    let x = c.args.event in
    let path = c.first_path-path.result.now in
    on_ok_weaker c.append.result
    (λ e. (c.get_mut.follows.holds c.append.new.self).0 ∙ ap (set_value (is_at (path_cmp path)) queues) e
    ∙ push_appended queues path x c.in-Some.queue.now c.get_mut.ensures.ordered
    (sym (c.in-Some.ensures.value)) ∙ ap (λ p. push queues p x) c.first_path-path.ensures)
    c.append.ensures.ok

pub returns-in-Some-clause-unchanged : goal.returns-in-Some-clause-unchanged
returns-in-Some-clause-unchanged g c =
    let queues = c.args.self.now.map.entries in
    let path = c.first_path-path.result.now in
    on_err_weaker c.append.result
    (λ e. (c.get_mut.follows.holds c.append.new.self).0 ∙ ap (set_value (is_at (path_cmp path)) queues) e
    ∙ set_value_same (is_at (path_cmp path)) queues c.in-Some.queue.now (sym (c.in-Some.ensures.value)))
    c.append.ensures.unchanged

pub returns-in-Some-clause-indexed : goal.returns-in-Some-clause-indexed
returns-in-Some-clause-indexed g c =
    indexed-append c.append.result c.args.self.now.fronts c.args.self.now.map.entries
    (c.get_mut.follows.lender c.append.new.self).entries c.first_path-path.result.now c.args.event
    c.in-Some.queue.now c.append.new.self c.requires.indexed c.get_mut.ensures.ordered
    (sym c.in-Some.ensures.value) (c.get_mut.follows.holds c.append.new.self).0 c.append.ensures.ok
    c.append.ensures.unchanged

pub put_first-requires : goal.put_first-requires
put_first-requires g c =
    let queues = c.args.self.now.map.entries in
    let kept : c.get_mut.follows.lender-at-none.entries ≡ queues = search rules in
    let none : queue_at queues c.first_path-path.result.now ≡ None = search rules in
    record {
      indexed = rw kept c.requires.indexed;
      none = rw (kept, c.in_ok-key.ensures.cases) none;
      front = rw (c.in_ok-queue.ensures, c.time-time.ensures) refl;
    }

pub returns-clause-ok : goal.returns-clause-ok
returns-clause-ok g c =
    let queues = c.args.self.now.map.entries in
    let x = c.args.event in
    let path = c.first_path-path.result.now in
    let none : queue_at queues path ≡ None = search rules in
    let kept : c.get_mut.follows.lender-at-none.entries ≡ queues = search rules in
    on_ok_weaker c.put_first.result
    (λ e. e
    ∙ ap (λ q. with_queue q c.in_ok-key.key c.in_ok-queue.queue) kept
    ∙ ap (λ k. with_queue queues k c.in_ok-queue.queue) c.in_ok-key.ensures.cases
    ∙ ap (λ q. with_queue queues path q) c.in_ok-queue.ensures
    ∙ push-new queues path x none
    ∙ ap (λ p. push queues p x) c.first_path-path.ensures)
    c.put_first.ensures.ok

pub returns-clause-unchanged : goal.returns-clause-unchanged
returns-clause-unchanged g c =
    let kept : c.get_mut.follows.lender-at-none.entries ≡ c.args.self.now.map.entries = search rules in
    on_err_weaker c.put_first.result (λ e. e ∙ kept) c.put_first.ensures.unchanged

pub returns-clause-sure : goal.returns-clause-sure
returns-clause-sure g c =
    let queues = c.args.self.now.map.entries in
    let x = c.args.event in
    let none : queue_at queues c.first_path-path.result.now ≡ None = search rules in
    on_err_weaker c.put_first.result
    (λ e. ap (λ o. skips_at o x.event.kind) (ap (queue_at queues) (sym c.first_path-path.ensures)
    ∙ none)) c.put_first.ensures.unchanged
