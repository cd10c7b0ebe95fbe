use Rattle.program_copy.specs.Files.Writes.{IsAt, IsAtOrBeside}
use Rattle.program_copy.proofs.FilesLemmas.BesideLemmas.{at_beside}
use Rattle.program_copy.proofs.FilesLemmas.OnlyLemmas.{wider}
use Rattle.program_copy.proofs.files.places.Places.put.Goals as goal

pub returns-in-Folder-clause-only : goal.returns-in-Folder-clause-only
returns-in-Folder-clause-only g c =
    let dry_run = c.args.self.now.leave.dry_run in
    wider g.D.Disk.changes (IsAt dry_run c.args.target.now.path)
    (IsAtOrBeside dry_run c.args.self.now.to c.args.target.now.path) c.args.disk.now c.make.new.disk
    (at_beside dry_run c.args.self.now.to c.args.target.now.path) c.make.ensures.only
