use Rattle.std.proofs.Common.{◌∙◌, subst, arith, refl, IfSome}
use Rattle.poll_listing.proofs.ListingLemmas.{folders-grow}
use Rattle.poll_rounds.specs.Folders.{Adds}
use Rattle.poll_rounds.specs.Parts.{shows_in}
use Rattle.poll_rounds.proofs.PartLemmas.{parts-none, parts-next, parts-all, none-below}
use Rattle.poll_rounds.proofs.part.list_parts.Goals as goal

pub loop-root-init : goal.loop-root-init
loop-root-init g c = record {
  added = parts-none (g.D.Folders.told c.args.folders.now) c.args.path.now (g.L.Entries.entries c.args.listing.now);
  above = c.requires.folders;
  last = refl;
  same = refl;
  counted = omega arith;
}

pub loop-root-preserved : goal.loop-root-preserved
loop-root-preserved g c =
    let at = g.L.Entries.entries in
    let i = c.loop-root.invariant in
    let told = g.D.Folders.told c.args.folders.now in
    let root = c.loop-root-item.result in
    record {
      added = parts-next told c.args.path.now c.args.roots.now c.loop-root.root-index root (at c.args.listing.now)
          (at c.loop-root.listing) (at c.list_part.new.listing) c.loop-root-test.true c.loop-root-item.is i.added
          (subst (λ o. IfSome o (λ tree. Adds tree (shows_in tree c.args.path.now root) (at c.loop-root.listing)
          (at c.list_part.new.listing))) i.same c.in_ok-list_part.ensures.added);
      above = folders-grow (at c.loop-root.listing) (at c.list_part.new.listing) c.in_ok-list_part.ensures.grows
          c.args.path.now i.above;
      last = c.list_part.ensures.beside ∙ i.last;
      same = c.list_part.ensures.same ∙ i.same;
      counted = omega (arith, i.counted, c.list_part.ensures.counted);
    }

pub list_part-requires : goal.list_part-requires
list_part-requires g c = record {
  folders = c.loop-root.invariant.above;
  above = none-below c.args.roots.now c.args.path.now c.loop-root.root-index c.loop-root-item.result
      c.loop-root-test.true c.loop-root-item.is c.requires.above;
}

pub returns-clause-added : goal.returns-clause-added
returns-clause-added g c =
    let at = g.L.Entries.entries in
    parts-all (g.D.Folders.told c.args.folders.now) c.args.path.now c.args.roots.now c.loop-root.root-index
    (at c.args.listing.now) (at c.loop-root.listing) c.loop-root-test.false c.loop-root.invariant.added
