-- The paths that have a number now are those that had one, and those of the pairs.
use Rattle.debounce_cache.proofs.Counts.{count_put}
use Rattle.debounce_cache.proofs.file_id_map.put_copies.Goals as goal

pub returns-clause-count : goal.returns-clause-count
returns-clause-count g c =
    let copied = c.in_ok-copies.ensures.items_if_clones_equal (λ _ _ same i. (same.0 i, same.1 i)) in
    count_put c.args.entries.now.entries c.reserve.new.self.entries c.args.pairs.now
    c.put_pairs.new.entries.entries c.put_pairs.ensures.law c.reserve.ensures.entries.2
    (rw (← copied) c.put_pairs.ensures.ok)
