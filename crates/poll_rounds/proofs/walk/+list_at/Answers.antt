use Rattle.std.proofs.Common.{rules, ◌≡◌, ◌∙◌, sym, subst, ap, ◌<◌, ◌-◌, ◌++◌, ◌∷◌, [], true, false, arith, Some, map, suc, IfSome, string_bytes, String, Vec, List}
use Rattle.std.specs.Option.{option_map}
use Rattle.std.specs.Map.{keys_of}
use Rattle.notify_paths.specs.Path.{PartValue, NamePart}
use Rattle.debounce_model.specs.Honest.{has_folders}
use Rattle.poll_listing.specs.Listing.{ListingValue, entry_at, is_nonempty}
use Rattle.poll_rounds.specs.Folders.{Adds, reach, reaches, NamesOf}
use Rattle.poll_listing.proofs.ListingLemmas.{folders-grow, folders-child, nonempty-child, child-is}
use Rattle.poll_rounds.proofs.BesideLemmas.{put-grows, put-there}
use Rattle.poll_rounds.proofs.ListLemmas.{missing, alone, no_level, no_folder, begun, goes_on, passes_over, ended}
use Rattle.poll_rounds.proofs.walk.+list_at.Goals.{then-depth-eq0-via-then-depth-eq0, then-depth-eq0-via-else-depth-eq0+then-not-is_folder}
use Rattle.poll_rounds.proofs.walk.+list_at.Goals as goal

pub loop-name-init : goal.loop-name-init
loop-name-init g t c =
    let at = g.L.Entries.entries in
    let before = at c.args.listing.now in
    let after = at c.put-2.new.self in
    let path = c.args.path.now in
    let grows = put-grows before after path c.in-Some.found c.in_ok-put.ensures.ok in
    record {
      added = begun (λ (name : String g.row.A.Denot). string_bytes name) (g.D.Folders.told c.args.folders.now)
          (c.args.depth - 1) c.args.path.now (at c.args.listing.now) c.in_ok-found.field-0 c.in-Some.found
          (at c.put-2.new.self) c.in_ok-found.ensures.found c.in-Some.is c.in_ok-put.ensures.ok;
      grows = grows;
      here = put-there before after path c.in-Some.found c.in_ok-put.ensures.ok;
      folders = folders-grow (at c.args.listing.now) (at c.put-2.new.self) grows c.args.path.now c.requires.1;
      last = c.in_ok-put.ensures.same;
      same = c.names_for.ensures.same ∙ c.look.ensures.same;
      counted = omega (arith, c.look.ensures.counted, c.names_for.ensures.counted);
    }

pub list_at-requires : goal.list_at-requires
list_at-requires g t c κs within =
    let at = g.L.Entries.entries in
    let i = c.loop-name.invariant in
    let folder = c.args.path.now in
    let name = c.deref.result.now in
    let path = c.in-Some-child.child in
    let child : path ≡ folder ++ NamePart name ∷ [] =
    child-is folder name path (sym c.in-Some-child.is ∙ c.in-Ok.ensures) in
    let deep : 0 < c.args.depth = search rules in
    let down : c.args.depth - 1 < t = omega (arith, c.decreases, deep) in
    let nonempty : is_nonempty path ≡ true = rw child (nonempty-child folder (NamePart name)) in
    let folders : has_folders (keys_of (at c.loop-name.listing)) path ≡ true =
    rw child (folders-child (at c.loop-name.listing) folder (NamePart name) c.requires.0 i.folders i.here) in
    (down, (within.0, (within.1.0, (within.1.1, (nonempty, folders)))))

pub loop-name-preserved : goal.loop-name-preserved
loop-name-preserved g t c =
    let at = g.L.Entries.entries in
    let i = c.loop-name.invariant in
    let grows = c.in_ok-list_at.ensures.grows in
    let told = g.D.Folders.told c.args.folders.now in
    record {
      added = goes_on string_bytes told (c.args.depth - 1) c.args.path.now (at c.args.listing.now)
          c.deref-name-items.result.now c.loop-name.name-index c.name-item.result c.in-Some-child.child
          c.deref.result.now (at c.loop-name.listing) (at c.list_at.new.listing) c.loop-name-test.true c.name-item.is
          (sym c.deref.ensures) (sym c.in-Some-child.is ∙ c.in-Ok.ensures) i.added
          (subst (λ o. IfSome o (λ tree. Adds tree (reaches tree (c.args.depth - 1) c.in-Some-child.child)
          (at c.loop-name.listing) (at c.list_at.new.listing))) i.same c.in_ok-list_at.ensures.added);
      grows = λ q h. grows q (i.grows q h);
      here = grows c.args.path.now i.here;
      folders = folders-grow (at c.loop-name.listing) (at c.list_at.new.listing) grows c.args.path.now i.folders;
      last = c.list_at.ensures.beside ∙ i.last;
      same = c.list_at.ensures.same ∙ i.same;
      counted = omega (arith, i.counted, c.list_at.ensures.counted);
    }

pub loop-name-preserved-in_default-child-2 : goal.loop-name-preserved-in_default-child-2
loop-name-preserved-in_default-child-2 g t c =
    let at = g.L.Entries.entries in
    let i = c.loop-name.invariant in
    record {
      added = passes_over string_bytes (g.D.Folders.told c.args.folders.now) (c.args.depth - 1) c.args.path.now
          (at c.args.listing.now) c.deref-name-items.result.now c.loop-name.name-index c.name-item.result
          c.deref.result.now (at c.loop-name.listing) c.loop-name-test.true c.name-item.is (sym c.deref.ensures)
          (sym c.in_default-child-2.is ∙ c.in-Ok.ensures) i.added;
      grows = i.grows;
      here = i.here;
      folders = i.folders;
      last = i.last;
      same = i.same;
      counted = i.counted;
    }

pub returns-in_default-clause-added : goal.returns-in_default-clause-added
returns-in_default-clause-added g t c =
    let at = g.L.Entries.entries in
    missing (g.D.Folders.told c.args.folders.now) c.in_ok-found.field-0 c.args.depth c.args.path.now
    (at c.args.listing.now) c.in_ok-found.ensures.found c.in_default.is

pub returns-then-depth-eq0-clause-added : goal.returns-then-depth-eq0-clause-added
returns-then-depth-eq0-clause-added g t c =
    let at = g.L.Entries.entries in
    let last : (tree : ListingValue) → entry_at tree c.args.path.now ≡ Some c.in-Some.found →
    (x : PartValue) (s : List PartValue) → reach tree c.args.depth c.args.path.now (x ∷ s) ≡ false =
    elim c.then-depth-eq0.branch [
      | then-depth-eq0-via-then-depth-eq0 w ↦ no_level c.args.depth c.args.path.now c.in-Some.found
          w.if-depth-eq0.true
      | then-depth-eq0-via-else-depth-eq0+then-not-is_folder w ↦ no_folder c.args.depth c.args.path.now
          c.in-Some.found (sym w.is_folder.ensures ∙ w.if-not-is_folder.true)
    ] in
    alone (g.D.Folders.told c.args.folders.now) c.put.result c.in_ok-found.field-0 c.in-Some.found
    c.args.depth c.args.path.now (at c.args.listing.now) (at c.put.new.self) c.in_ok-found.ensures.found
    c.in-Some.is last c.put.ensures.ok

pub returns-clause-added : goal.returns-clause-added
returns-clause-added g t c =
    let at = g.L.Entries.entries in
    let i = c.loop-name.invariant in
    let told = g.D.Folders.told c.args.folders.now in
    let deep : c.args.depth ≡ suc (c.args.depth - 1) = let pos : 0 < c.args.depth = search rules in
    omega (arith, pos) in
    subst (λ n. IfSome told (λ tree. Adds tree (reaches tree n c.args.path.now) (at c.args.listing.now)
    (at c.loop-name.listing))) (sym deep)
    (ended string_bytes told (c.args.depth - 1) c.args.path.now (at c.args.listing.now)
    (λ (v : Vec (String g.row.A.Denot) g.row.A.Denot). map string_bytes v.items) c.in_ok-names.field-0
    c.in-Some-2.names c.deref-name-items.result.now c.loop-name.name-index c.in_ok-found.field-0
    c.in-Some.found (at c.loop-name.listing) c.loop-name-test.false
    (ap (map string_bytes) (sym c.deref-name-items.ensures.value)) c.in-Some-2.is c.in-Some.is
    (sym c.is_folder.ensures ∙ c.if-not-is_folder.false) c.in_ok-found.ensures.found
    (subst (λ o. IfSome
    o (λ tree. NamesOf tree c.args.path.now
    (option_map (λ (v : Vec (String g.row.A.Denot) g.row.A.Denot). map string_bytes v.items)
    c.in_ok-names.field-0))) c.look.ensures.same c.in_ok-names.ensures.found) i.added)
