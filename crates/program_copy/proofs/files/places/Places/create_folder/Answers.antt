use Rattle.std.proofs.Common.{refl}
use Rattle.program_copy.specs.Files.Writes.{IsAt}
use Rattle.program_copy.proofs.FilesLemmas.OnlyLemmas.{one}
use Rattle.program_copy.proofs.files.places.Places.create_folder.Goals as goal

pub returns-in_err-create_folder-clause-only : goal.returns-in_err-create_folder-clause-only
returns-in_err-create_folder-clause-only g c =
    one g.D.Disk.changes (IsAt c.args.self.now.leave.dry_run c.args.target.now.path) c.args.disk.now
    c.args.target.now.path c.create_folder.new.self c.create_folder.ensures.only (c.if-self.false, refl)

pub returns-clause-only : goal.returns-clause-only
returns-clause-only g c =
    one g.D.Disk.changes (IsAt c.args.self.now.leave.dry_run c.args.target.now.path) c.args.disk.now
    c.args.target.now.path c.create_folder.new.self c.create_folder.ensures.only (c.if-self.false, refl)
