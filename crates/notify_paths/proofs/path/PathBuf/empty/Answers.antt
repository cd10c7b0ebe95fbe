use Rattle.std.proofs.Common.{◌∙◌, sym, ap, subst}
use Rattle.notify_paths.specs.PathText.{parts_of, IsNormal}
use Rattle.notify_paths.proofs.Texts.{empty_parts, empty_normal}
use Rattle.notify_paths.proofs.path.PathBuf.empty.Goals as goal

pub invariant_of-result : goal.invariant_of-result
invariant_of-result g c = subst IsNormal (sym c.new.ensures.bytes) empty_normal

pub returns : goal.returns
returns g c = ap parts_of c.new.ensures.bytes ∙ empty_parts
