-- The pairs of one queue more.
use Rattle.std.proofs.Common.{◌∙◌, ◌+◌, ◌++◌, ap, sym, drop, append_assoc}
use Rattle.debounce_model.proofs.Lists.{drop_at}
use Rattle.debounce_queues.specs.Steps.{put_pairs, put_pairs_at}
use Rattle.debounce_queues.proofs.index.IndexedMap.fronts_at.Goals as goal

pub loop-path-preserved : goal.loop-path-preserved
loop-path-preserved g c =
    let m = c.args.self.now.map.entries in
    let xs = c.args.queues.now in
    let i = c.loop-path.path-index in
    let x = c.loop-path-item.result in
    let old = c.loop-path.pairs.items in
    let rest = put_pairs m (drop (i + 1) xs) in
    ap (λ l. l ++ rest) c.in_ok-add_fronts.ensures
    ∙ append_assoc old (put_pairs_at m x.0 x.1) rest
    ∙ ap (λ es. old ++ put_pairs m es) (sym (drop_at xs i x c.loop-path-test.true c.loop-path-item.is))
    ∙ c.loop-path.invariant
