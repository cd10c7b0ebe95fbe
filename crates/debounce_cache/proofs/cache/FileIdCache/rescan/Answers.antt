-- One root more; the trait's laws say what the calls so far leave of a rescan.
use Rattle.std.proofs.Common.{inl, inr, rules, refl, arith}
use Rattle.debounce_model.proofs.Lists.{drop_at, drop_all}
use Rattle.debounce_cache.proofs.cache.FileIdCache.rescan.Goals as goal

pub loop-root-preserved : goal.loop-root-preserved
loop-root-preserved g c =
    let cut = drop_at c.args.roots.now c.loop-root.root-index c.loop-root-item.result c.loop-root-test.true
    c.loop-root-item.is in
    record {
      made = λ d h. c.loop-root.invariant.made d (rw cut (c.add_path.new.self, c.in_ok-add_path.ensures.ok, h));
      stopped = λ d h. c.loop-root.invariant.stopped d
          (rw cut (inr (c.add_path.new.self, c.in_ok-add_path.ensures.ok, h)));
    }

pub returns-clause-ok : goal.returns-clause-ok
returns-clause-ok g c =
    let xs = c.args.roots.now in
    let none = drop_all xs c.loop-root.root-index (omega arith) in
    g.met.Self.FileIdCache.rescan_leaves c.args.self.now xs c.loop-root.self
    (c.loop-root.invariant.made _ (rw none refl))

pub returns-in_err-add_path-clause-err : goal.returns-in_err-add_path-clause-err
returns-in_err-add_path-clause-err g c =
    let xs = c.args.roots.now in
    let cut = drop_at xs c.loop-root.root-index c.loop-root-item.result c.loop-root-test.true
    c.loop-root-item.is in
    let told = g.met.Self.FileIdCache.rescan_refused c.args.self.now xs c.add_path.new.self
    (c.loop-root.invariant.stopped _ (rw cut (inl c.in_err-add_path.ensures.err))) in
    search (rules, told)
