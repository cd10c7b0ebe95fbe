use Rattle.std.proofs.Common.{◌∙◌, sym, ap, subst}
use Rattle.notify_paths.specs.PathText.{parts_of, IsNormal}
use Rattle.notify_paths.proofs.Texts.{text_again, parts_of_is_path, normal_written}
use Rattle.notify_paths.proofs.path.PathBuf.read.Goals as goal

pub invariant_of-result : goal.invariant_of-result
invariant_of-result g c = subst IsNormal (sym c.in_ok-normal_text.ensures) (normal_written c.args.text.now)

pub returns : goal.returns
returns g c = ap parts_of c.in_ok-normal_text.ensures
    ∙ text_again (parts_of c.args.text.now) (parts_of_is_path c.args.text.now)
