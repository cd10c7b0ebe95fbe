use Rattle.std.proofs.Common.{◌∙◌, sym, ap, false}
use Rattle.std.specs.List.{list_all}
use Rattle.debounce_model.specs.Play.{has_path}
use Rattle.reader_paths.proofs.HonestLemmas.{folders_alike, folders_from, all_first}
use Rattle.reader_paths.proofs.path_set.PathSet.holds_folders.Goals as goal

pub returns-then-not-contains : goal.returns-then-not-contains
returns-then-not-contains g c =
    let f = has_path c.args.self.now in
    sym (sym (folders_alike f c.args.path.now) ∙ sym c.loop-next.invariant
    ∙ ap (λ n. list_all f (folders_from n)) c.in-Some.is
    ∙ all_first f c.in-Some.folder false (sym c.contains.ensures ∙ c.if-not-contains.true))

pub returns : goal.returns
returns g c =
    let f = has_path c.args.self.now in
    sym (sym (folders_alike f c.args.path.now) ∙ sym c.loop-next.invariant
    ∙ ap (λ n. list_all f (folders_from n)) c.in_default.is)
