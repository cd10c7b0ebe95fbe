use Rattle.std.proofs.Common.{◌≡◌, ◌∙◌, ap, sym, subst, true, OnOk}
use Rattle.std.specs.BTreeMap.{insert_entry}
use Rattle.std.specs.Map.{keys_of}
use Rattle.notify_paths.specs.Path.{path_cmp}
use Rattle.debounce_model.specs.Honest.{has_folders}
use Rattle.poll_listing.specs.Listing.{has_entry}
use Rattle.poll_listing.proofs.ListingLemmas.{folders-grow}
use Rattle.poll_rounds.specs.Beside.{put_in}
use Rattle.poll_rounds.proofs.BesideLemmas.{change-grows, met-grows, met-put_over}
use Rattle.poll_rounds.proofs.beside.BesideEntries.put.Goals as goal

pub change-requires-clause-folders : goal.change-requires-clause-folders
change-requires-clause-folders g c =
    let before = put_in c.drop_before.new.self in
    let grows = met-grows c.meet.result before (put_in c.meet.new.self) c.args.path.now c.meet.ensures.ok in
    folders-grow before (put_in c.meet.new.self) grows c.args.path.now
    (subst (λ es. has_folders (keys_of es) c.args.path.now ≡ true) (sym c.drop_before.ensures.same)
    c.requires.folders)

pub returns-in-Some-clause-grows : goal.returns-in-Some-clause-grows
returns-in-Some-clause-grows g c = λ q h.
    met-grows c.meet.result (put_in c.drop_before.new.self) (put_in c.meet.new.self) c.args.path.now
    c.meet.ensures.ok q (ap (λ es. has_entry es q) c.drop_before.ensures.same ∙ h)

pub returns-in_default-clause-ok : goal.returns-in_default-clause-ok
returns-in_default-clause-ok g c =
    let before = put_in c.drop_before.new.self in
    let path = c.args.path.now in
    subst (λ es. OnOk c.change.result (put_in c.change.new.self ≡ es))
    (met-put_over c.meet.result before (put_in c.meet.new.self) path c.meet.ensures.ok c.args.found
    ∙ ap (λ es. insert_entry path_cmp es path c.args.found) c.drop_before.ensures.same) c.change.ensures.ok

pub returns-in_default-clause-grows : goal.returns-in_default-clause-grows
returns-in_default-clause-grows g c = λ q h.
    change-grows c.change.result (put_in c.meet.new.self) (put_in c.change.new.self) c.args.path.now c.args.found
    c.change.ensures.ok c.change.ensures.unchanged q
    (met-grows c.meet.result (put_in c.drop_before.new.self) (put_in c.meet.new.self) c.args.path.now
    c.meet.ensures.ok q (ap (λ es. has_entry es q) c.drop_before.ensures.same ∙ h))
