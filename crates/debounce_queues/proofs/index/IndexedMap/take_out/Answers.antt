-- The pairs of the path go with its queue.
use Rattle.std.proofs.Common.{◌≡◌, ◌∙◌, ap, sym}
use Rattle.notify_paths.proofs.Prefixes.{same_path}
use Rattle.debounce_queues.specs.Fronts.{is_time, front_of}
use Rattle.debounce_queues.proofs.FrontLemmas.{last_pair, no_pair}
use Rattle.debounce_queues.proofs.FrontMoves.{indexed-without}
use Rattle.debounce_queues.proofs.index.IndexedMap.take_out.Goals as goal

pub returns-in-None-clause-indexed : goal.returns-in-None-clause-indexed
returns-in-None-clause-indexed g c =
    let was = c.args.self.now in
    let path = c.args.path.now in
    let out = c.remove_entry in
    indexed-without was.fronts was.fronts was.map.entries out.new.self.entries path c.requires
    (no_pair was.fronts path (λ t. c.requires.exact t path
    ∙ ap (λ o. is_time (front_of o) t) (sym c.in-None.ensures.value)))
    out.ensures.updates.0 out.ensures.entries

pub returns-in-None-front_time-clause-indexed : goal.returns-in-None-front_time-clause-indexed
returns-in-None-front_time-clause-indexed g c =
    let was = c.args.self.now in
    let path = c.args.path.now in
    let out = c.remove_entry in
    indexed-without was.fronts was.fronts was.map.entries out.new.self.entries path c.requires
    (no_pair was.fronts path (λ t. c.requires.exact t path
    ∙ ap (λ o. is_time (front_of o) t) (sym c.in-Some.ensures.value)
    ∙ ap (λ o. is_time o t) (sym c.front_time.ensures ∙ c.in-None-front_time.is)))
    out.ensures.updates.0 out.ensures.entries

pub returns-in-Some-front_time-clause-indexed : goal.returns-in-Some-front_time-clause-indexed
returns-in-Some-front_time-clause-indexed g c =
    let was = c.args.self.now in
    let path = c.args.path.now in
    let out = c.remove_entry in
    let key : c.in-Some.entry.0 ≡ path = sym (same_path path c.in-Some.entry.0 c.in-Some.ensures.same_key) in
    indexed-without was.fronts c.remove.new.self was.map.entries out.new.self.entries path c.requires
    (last_pair was.fronts c.remove.new.self c.in-Some-front_time.time path (λ t. c.requires.exact t path
    ∙ ap (λ o. is_time (front_of o) t) (sym c.in-Some.ensures.value)
    ∙ ap (λ o. is_time o t) (sym c.front_time.ensures ∙ c.in-Some-front_time.is))
    (rw key at c.remove.ensures.updates.0))
    out.ensures.updates.0 out.ensures.entries
