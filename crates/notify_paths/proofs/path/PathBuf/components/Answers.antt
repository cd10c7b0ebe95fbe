use Rattle.std.proofs.Common.{◌^◌}
use Rattle.notify_paths.proofs.Folders.{parts_fit}
use Rattle.notify_paths.proofs.path.PathBuf.components.Goals as goal

pub returns-clause-fits : goal.returns-clause-fits
returns-clause-fits g c =
    parts_fit c.as_str.result.now c.args.self.now (2 ^ 64) c.as_str.ensures.normal c.as_str.ensures.again
    c.as_str.type_inv.0
