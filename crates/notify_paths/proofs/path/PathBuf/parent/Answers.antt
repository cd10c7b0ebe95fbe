use Rattle.std.proofs.Common.{◌≡◌, ◌∙◌, sym, ap, Some}
use Rattle.notify_paths.specs.PathMoves.{nearest, parent_of}
use Rattle.notify_paths.specs.PathText.{parts_of}
use Rattle.notify_paths.proofs.Folders.{folders_of_parent}
use Rattle.notify_paths.proofs.path.PathBuf.parent.Goals as goal

pub returns-in_ok-read-in-Some-clause-above : goal.returns-in_ok-read-in-Some-clause-above
returns-in_ok-read-in-Some-clause-above g c =
    let next : parent_of c.args.self.now ≡ Some c.in_ok-read-in-Some.field-0 =
    ap nearest (sym c.folders.ensures.value ∙ c.in-Some.ensures.steps)
    ∙ ap Some (sym (c.in_ok-read-in-Some.ensures ∙ ap parts_of c.as_os_str.ensures)) in
    folders_of_parent c.args.self.now c.in_ok-read-in-Some.field-0 next
