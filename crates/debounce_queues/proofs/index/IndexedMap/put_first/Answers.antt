-- The index gets the pair of the queue, the only one of its path.
use Rattle.std.proofs.Common.{◌≡◌, ◌∙◌, ap, ℕ, false}
use Rattle.debounce_queues.specs.Fronts.{front_of, has, is_time}
use Rattle.debounce_queues.proofs.FrontLemmas.{first_pair, front_nonempty, indexed-same, indexed-with, out_again}
use Rattle.debounce_queues.proofs.index.IndexedMap.put_first.Goals as goal

pub returns-in_err-insert-clause-indexed : goal.returns-in_err-insert-clause-indexed
returns-in_err-insert-clause-indexed g c = rw c.in_err-insert.ensures.err c.requires.indexed

pub returns-in-Ok-clause-indexed : goal.returns-in-Ok-clause-indexed
returns-in-Ok-clause-indexed g c =
    let absent : (t : ℕ) → has c.args.self.now.fronts t c.args.path ≡ false =
    λ t. c.requires.indexed.exact t c.args.path ∙ ap (λ o. is_time (front_of o) t) c.requires.none in
    let put = first_pair c.args.self.now.fronts c.insert.new.self c.args.time c.args.path absent
    (rw c.in_ok-clone.ensures.cases at c.in_ok-insert.ensures.updates.0) in
    indexed-with c.args.self.now.fronts c.insert.new.self c.args.self.now.map.entries c.insert-2.new.self.entries
    c.args.path c.args.queue c.requires.indexed (rw c.requires.front put) c.in-Ok.ensures.entries
    (front_nonempty c.args.queue c.args.time c.requires.front)

pub returns-in-Err-clause-indexed : goal.returns-in-Err-clause-indexed
returns-in-Err-clause-indexed g c =
    let absent : (t : ℕ) → has c.args.self.now.fronts t c.args.path ≡ false =
    λ t. c.requires.indexed.exact t c.args.path ∙ ap (λ o. is_time (front_of o) t) c.requires.none in
    let key : c.in-Err.refused.value.0 ≡ c.args.path = ap (λ y. y.0) c.in-Err.ensures.value_returned in
    indexed-same c.args.self.now.fronts c.remove.new.self c.args.self.now.map.entries c.insert-2.new.self.entries
    c.requires.indexed
    (out_again c.args.self.now.fronts c.insert.new.self c.remove.new.self c.args.time c.args.path absent
    (rw c.in_ok-clone.ensures.cases at c.in_ok-insert.ensures.updates.0)
    (rw key at c.remove.ensures.updates.0)) c.in-Err.ensures.err
