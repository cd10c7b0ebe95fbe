use Rattle.std.proofs.Common.{refl}
use Rattle.program_copy.proofs.files.real.RealDiskDisk.rename.Goals as goal

pub returns-clause-only : goal.returns-clause-only
returns-clause-only g c = (c.args.self.now, tt, (c.args.self.now, tt, refl))
