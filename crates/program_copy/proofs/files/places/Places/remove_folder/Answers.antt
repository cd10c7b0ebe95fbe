use Rattle.std.proofs.Common.{refl}
use Rattle.program_copy.specs.Files.Writes.{IsAt}
use Rattle.program_copy.proofs.FilesLemmas.OnlyLemmas.{one}
use Rattle.program_copy.proofs.files.places.Places.remove_folder.Goals as goal

pub returns-in-Ok-clause-only : goal.returns-in-Ok-clause-only
returns-in-Ok-clause-only g c =
    one g.D.Disk.changes (IsAt c.args.self.now.leave.dry_run c.args.target.now.path) c.args.disk.now
    c.args.target.now.path c.remove_folder.new.self c.remove_folder.ensures.only (c.if-self.false, refl)

pub returns-in-Err-clause-only : goal.returns-in-Err-clause-only
returns-in-Err-clause-only g c =
    one g.D.Disk.changes (IsAt c.args.self.now.leave.dry_run c.args.target.now.path) c.args.disk.now
    c.args.target.now.path c.remove_folder.new.self c.remove_folder.ensures.only (c.if-self.false, refl)

pub returns-in-Err-2-clause-only : goal.returns-in-Err-2-clause-only
returns-in-Err-2-clause-only g c =
    one g.D.Disk.changes (IsAt c.args.self.now.leave.dry_run c.args.target.now.path) c.args.disk.now
    c.args.target.now.path c.remove_folder.new.self c.remove_folder.ensures.only (c.if-self.false, refl)
