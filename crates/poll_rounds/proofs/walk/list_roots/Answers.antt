use Rattle.std.proofs.Common.{◌∙◌, [], refl, subst, arith, sym, IfSome}
use Rattle.poll_rounds.specs.Folders.{Adds, IsTree, shows}
use Rattle.poll_rounds.proofs.RootLemmas.{HasListed, listed-next, listed-none, listed-roots}
use Rattle.poll_rounds.proofs.walk.list_roots.Goals as goal

pub loop-root-init : goal.loop-root-init
loop-root-init g c =
    let told = g.D.Folders.told c.args.folders.now in
    record {
      listed = subst (HasListed told []) (sym c.requires) (listed-none told);
      last = refl;
      same = refl;
      counted = omega arith;
    }

pub loop-root-preserved : goal.loop-root-preserved
loop-root-preserved g c =
    let i = c.loop-root.invariant in
    let told = g.D.Folders.told c.args.folders.now in
    let root = c.loop-root-item.result in
    let before = g.L.Entries.entries c.loop-root.listing in
    let after = g.L.Entries.entries c.list_root.new.listing in
    record {
      listed = listed-next told c.args.roots.now c.loop-root.root-index root before after c.loop-root-test.true
          c.loop-root-item.is i.listed
          (subst (λ o. IfSome o (λ tree. IsTree tree → Adds tree (shows tree root) before after)) i.same
          c.in_ok-list_root.ensures.added);
      last = c.list_root.ensures.beside ∙ i.last;
      same = c.list_root.ensures.same ∙ i.same;
      counted = omega (arith, i.counted, c.list_root.ensures.counted);
    }

pub returns-clause-added : goal.returns-clause-added
returns-clause-added g c =
    listed-roots (g.D.Folders.told c.args.folders.now) c.args.roots.now c.loop-root.root-index
    (g.L.Entries.entries c.loop-root.listing) c.loop-root-test.false c.loop-root.invariant.listed
