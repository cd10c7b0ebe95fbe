-- The index gets the pair of the new front, and then has no other of its path.
use Rattle.std.proofs.Common.{◌≡◌, ◌∙◌, ◌||◌, ◌==◌, ap, sym, ℕ, Some, false, cond}
use Rattle.std.specs.BTreeMap.{is_at}
use Rattle.notify_paths.specs.Path.{PathValue, path_cmp}
use Rattle.debounce_queues.specs.Fronts.{front_of, has, is_time, front_time}
use Rattle.debounce_queues.proofs.FrontLemmas.{first_pair, indexed-same, indexed-with, inserted, inserted_here, last_says, out_again}
use Rattle.debounce_queues.proofs.index.IndexedMap.put.Goals as goal

pub returns-in_err-insert-clause-indexed : goal.returns-in_err-insert-clause-indexed
returns-in_err-insert-clause-indexed g c = rw c.in_err-insert.ensures.err c.requires.indexed

pub drop_old_front-requires : goal.drop_old_front-requires
drop_old_front-requires g c = λ t.
    let time = c.unwrap-time.result in
    let path = c.args.path in
    rw c.in_ok-copy_from.ensures.ok (inserted_here c.args.self.now.fronts c.insert.new.self time path
    (rw c.in_ok-clone.ensures.cases at c.in_ok-insert.ensures.updates.0) t
    ∙ ap (λ b. (time == t) || b) (c.requires.indexed.exact t path
    ∙ ap (λ o. is_time (front_of o) t) (sym c.in-Ok-Some.ensures.old ∙ c.in-Ok-Some.field-0-is)))

pub returns-in-Ok-None-clause-indexed : goal.returns-in-Ok-None-clause-indexed
returns-in-Ok-None-clause-indexed g c =
    let was = c.args.self.now in
    let time = c.unwrap-time.result in
    let path = c.args.path in
    let front : front_time c.args.queue ≡ Some time = sym c.front_time.ensures ∙ c.unwrap-time.ensures in
    let absent : (t : ℕ) → has was.fronts t path ≡ false =
    λ t. c.requires.indexed.exact t path
    ∙ ap (λ o. is_time (front_of o) t) (sym c.in-Ok-None.ensures.old ∙ c.in-Ok-None.field-0-is) in
    let put = first_pair was.fronts c.insert.new.self time path absent
    (rw c.in_ok-clone.ensures.cases at c.in_ok-insert.ensures.updates.0) in
    indexed-with was.fronts c.insert.new.self was.map.entries c.insert-2.new.self.entries path c.args.queue
    c.requires.indexed (rw front put) c.in-Ok-None.ensures.entries c.requires.filled

pub returns-in-Ok-Some-clause-indexed : goal.returns-in-Ok-Some-clause-indexed
returns-in-Ok-Some-clause-indexed g c =
    let was = c.args.self.now in
    let time = c.unwrap-time.result in
    let path = c.args.path in
    let front : front_time c.args.queue ≡ Some time = sym c.front_time.ensures ∙ c.unwrap-time.ensures in
    let put = inserted was.fronts c.insert.new.self time path
    (rw c.in_ok-clone.ensures.cases at c.in_ok-insert.ensures.updates.0) in
    let only = rw c.in_ok-copy_from.ensures.ok at c.drop_old_front.ensures.fronts in
    let both : (t : ℕ) (p : PathValue) → has c.drop_old_front.new.self.fronts t p
    ≡ cond (is_at (path_cmp path) p) (time == t) (has was.fronts t p) =
    λ t p. only t p ∙ ap (cond (is_at (path_cmp path) p) (time == t)) (put t p)
    ∙ last_says path (time == t) ((time == t) || has was.fronts t path) (has was.fronts t p) p in
    rw c.drop_old_front.ensures.map
    (indexed-with was.fronts c.drop_old_front.new.self.fronts was.map.entries c.insert-2.new.self.entries path
    c.args.queue c.requires.indexed (rw front both) c.in-Ok-Some.ensures.entries c.requires.filled)

pub returns-in-Err-clause-indexed : goal.returns-in-Err-clause-indexed
returns-in-Err-clause-indexed g c =
    let was = c.args.self.now in
    let path = c.args.path in
    let absent : (t : ℕ) → has was.fronts t path ≡ false =
    λ t. c.requires.indexed.exact t path ∙ ap (λ o. is_time (front_of o) t) c.in-Err.ensures.absent in
    let key : c.in-Err.refused.value.0 ≡ path = ap (λ y. y.0) c.in-Err.ensures.value_returned in
    indexed-same was.fronts c.remove.new.self was.map.entries c.insert-2.new.self.entries c.requires.indexed
    (out_again was.fronts c.insert.new.self c.remove.new.self c.unwrap-time.result path absent
    (rw c.in_ok-clone.ensures.cases at c.in_ok-insert.ensures.updates.0)
    (rw key at c.remove.ensures.updates.0)) c.in-Err.ensures.err
