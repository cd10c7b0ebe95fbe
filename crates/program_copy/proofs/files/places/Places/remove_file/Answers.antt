use Rattle.std.proofs.Common.{refl}
use Rattle.program_copy.specs.Files.Writes.{IsAt}
use Rattle.program_copy.proofs.FilesLemmas.OnlyLemmas.{one}
use Rattle.program_copy.proofs.files.places.Places.remove_file.Goals as goal

pub returns-in_err-remove_file-clause-only : goal.returns-in_err-remove_file-clause-only
returns-in_err-remove_file-clause-only g c =
    one g.D.Disk.changes (IsAt c.args.self.now.leave.dry_run c.args.target.now.path) c.args.disk.now
    c.args.target.now.path c.remove_file.new.self c.remove_file.ensures.only (c.if-self.false, refl)

pub returns-clause-only : goal.returns-clause-only
returns-clause-only g c =
    one g.D.Disk.changes (IsAt c.args.self.now.leave.dry_run c.args.target.now.path) c.args.disk.now
    c.args.target.now.path c.remove_file.new.self c.remove_file.ensures.only (c.if-self.false, refl)
