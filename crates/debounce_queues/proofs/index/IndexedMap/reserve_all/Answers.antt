-- Room for one queue more, in which nothing waits.
use Rattle.std.proofs.Common.{◌≡◌, ◌∙◌, ◌+◌, ap, sym, drop}
use Rattle.debounce_model.specs.MapSteps.{reserved, reserved_all, nonempty_of}
use Rattle.debounce_model.proofs.MoveSteps.{nonempty-reserved}
use Rattle.debounce_model.proofs.Lists.{drop_at}
use Rattle.debounce_queues.proofs.index.IndexedMap.reserve_all.Goals as goal

pub loop-path-preserved : goal.loop-path-preserved
loop-path-preserved g c =
    let xs = c.args.queues.now in
    let i = c.loop-path.path-index in
    let x = c.loop-path-item.result in
    let q = c.loop-path.self.map.entries in
    let cut = drop_at xs i x c.loop-path-test.true c.loop-path-item.is in
    let made : c.reserve.new.self.map.entries ≡ reserved q x.0 = c.in_ok-reserve.ensures.ok in
    record {
      made = ap (λ r. reserved_all r (drop (i + 1) xs)) made ∙ ap (reserved_all q) (sym cut)
          ∙ c.loop-path.invariant.made;
      kept = ap nonempty_of made ∙ nonempty-reserved q x.0 ∙ c.loop-path.invariant.kept;
      same = c.reserve.ensures.fronts ∙ c.loop-path.invariant.same;
    }
