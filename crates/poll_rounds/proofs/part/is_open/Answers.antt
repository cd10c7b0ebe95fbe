use Rattle.std.proofs.Common.{◌≡◌, ◌∙◌, ◌≤◌, ◌<◌, subst, arith, length, IfSome}
use Rattle.poll_listing.specs.Listing.{entry_at}
use Rattle.poll_rounds.proofs.PartLemmas.{passes-next, passes-not, passes-all}
use Rattle.poll_rounds.proofs.part.is_open.Goals as goal

pub loop-count-preserved : goal.loop-count-preserved
loop-count-preserved g c =
    let i = c.loop-count.invariant in
    let n = c.loop-count.count in
    let path = c.args.path.now in
    let low : 1 ≤ n = omega (arith, c.loop-count.auto.count) in
    let high : n < length path = omega (arith, c.loop-count-test.true, c.part_count-count-end.ensures) in
    let told = g.D.Folders.told c.args.folders.now in
    let found : IfSome told (λ tree. c.in_ok-found.found ≡ entry_at tree c.in_ok-folder.folder) =
    subst (λ o. IfSome o (λ tree. c.in_ok-found.found ≡ entry_at tree c.in_ok-folder.folder)) i.same
    c.in_ok-found.ensures.found in
    record {
      passed = passes-next told c.args.root.now path n c.in_ok-folder.folder c.in_ok-found.found c.passes.result low
          high c.in_ok-folder.ensures.ok found c.passes.ensures c.if-not-passes.false i.passed;
      same = c.look.ensures.same ∙ i.same;
      counted = omega (arith, i.counted, c.look.ensures.counted);
    }

pub returns-then-not-passes-clause-passed : goal.returns-then-not-passes-clause-passed
returns-then-not-passes-clause-passed g c =
    let i = c.loop-count.invariant in
    let n = c.loop-count.count in
    let path = c.args.path.now in
    let low : 1 ≤ n = omega (arith, c.loop-count.auto.count) in
    let high : n < length path = omega (arith, c.loop-count-test.true, c.part_count-count-end.ensures) in
    let told = g.D.Folders.told c.args.folders.now in
    let found : IfSome told (λ tree. c.in_ok-found.found ≡ entry_at tree c.in_ok-folder.folder) =
    subst (λ o. IfSome o (λ tree. c.in_ok-found.found ≡ entry_at tree c.in_ok-folder.folder)) i.same
    c.in_ok-found.ensures.found in
    passes-not told c.args.root.now path n c.in_ok-folder.folder c.in_ok-found.found c.passes.result low
    high c.in_ok-folder.ensures.ok found c.passes.ensures c.if-not-passes.true i.passed

pub returns-clause-passed : goal.returns-clause-passed
returns-clause-passed g c =
    let n = c.loop-count.count in
    let path = c.args.path.now in
    let high : length path ≤ n = omega (arith, c.loop-count-test.false, c.part_count-count-end.ensures) in
    passes-all (g.D.Folders.told c.args.folders.now) c.args.root.now path n high c.loop-count.invariant.passed
