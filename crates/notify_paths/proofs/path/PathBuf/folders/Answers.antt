use Rattle.std.proofs.Common.{◌<◌, ◌^◌, length, sym, ap, subst}
use Rattle.notify_paths.specs.PathMoves.{folders_above, AreFoldersAbove}
use Rattle.notify_paths.proofs.Folders.{above_says, folders_fit}
use Rattle.notify_paths.proofs.path.PathBuf.folders.Goals as goal

pub returns-clause-above : goal.returns-clause-above
returns-clause-above g c =
    subst (AreFoldersAbove c.args.self.now) (sym (ap folders_above c.components.ensures.value))
    (above_says c.args.self.now)

pub returns-clause-fits : goal.returns-clause-fits
returns-clause-fits g c = subst (λ l. length l < 2 ^ 64) (sym (ap folders_above c.components.ensures.value))
    (folders_fit c.args.self.now (2 ^ 64) c.components.ensures.fits)
