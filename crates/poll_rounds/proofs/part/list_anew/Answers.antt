use Rattle.std.proofs.Common.{◌∙◌, [], ap, sym, subst, IfSome}
use Rattle.std.specs.List.{list_any}
use Rattle.std.specs.Map.{keys_of}
use Rattle.debounce_model.specs.Honest.{has_folders}
use Rattle.poll_listing.specs.Near.{outside}
use Rattle.poll_rounds.specs.Beside.{put_in}
use Rattle.poll_rounds.specs.Folders.{Adds, IsTree, shows}
use Rattle.poll_rounds.specs.Parts.{shows_in}
use Rattle.poll_rounds.proofs.BesideLemmas.{outside-all}
use Rattle.poll_rounds.proofs.PartLemmas.{folders-outside, looks-roots, looks-there}
use Rattle.poll_rounds.proofs.part.list_anew.Goals as goal

pub list_roots-requires : goal.list_roots-requires
list_roots-requires g c =
    let before = put_in c.args.listing.now in
    c.in_ok-drop_at.ensures.ok ∙ (ap (outside before) c.empty.ensures ∙ outside-all before)

pub list_parts-requires : goal.list_parts-requires
list_parts-requires g c = record {
  folders = ap (λ es. has_folders (keys_of es) c.args.path.now) c.in_ok-drop_at-2.ensures.ok
      ∙ folders-outside (put_in c.args.listing.now) c.args.path.now c.requires.folders;
  above = sym c.has_root_below.ensures ∙ c.if-has_root_below.false;
}

pub returns-then-has_root_below-clause-shown : goal.returns-then-has_root_below-clause-shown
returns-then-has_root_below-clause-shown g c =
    let told = g.D.Folders.told c.args.folders.now in
    let roots = c.args.roots.now in
    looks-roots c.drop_rest.result told roots c.args.path.now (put_in c.args.listing.now)
    (put_in c.drop_rest.new.self) (sym c.has_root_below.ensures ∙ c.if-has_root_below.true) c.drop_rest.ensures.law
    (subst (λ es. IfSome
    told (λ tree. IsTree tree → Adds tree (λ q. list_any (λ root. shows tree root q) roots) [] es))
    (sym c.drop_rest.ensures.same) c.in_ok-list_roots.ensures.added)

pub returns-clause-shown : goal.returns-clause-shown
returns-clause-shown g c =
    let told = g.D.Folders.told c.args.folders.now in
    let roots = c.args.roots.now in
    let path = c.args.path.now in
    let without = put_in c.drop_at-2.new.self in
    looks-there c.drop_rest-2.result told roots path (put_in c.args.listing.now) without
    (put_in c.drop_rest-2.new.self) (sym c.has_root_below.ensures ∙ c.if-has_root_below.false)
    c.in_ok-drop_at-2.ensures.ok
    (subst (λ es. IfSome
    told (λ tree. Adds tree (λ q. list_any (λ root. shows_in tree path root q) roots) without es))
    (sym c.drop_rest-2.ensures.same) c.in_ok-list_parts.ensures.added)
