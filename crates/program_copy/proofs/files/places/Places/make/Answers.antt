use Rattle.program_copy.specs.Files.Writes.{IsAt}
use Rattle.program_copy.proofs.FilesLemmas.OnlyLemmas.{after}
use Rattle.program_copy.proofs.files.places.Places.make.Goals as goal

pub returns-in_ok-remove_file-in-Some-3-clause-only :
    goal.returns-in_ok-remove_file-in-Some-3-clause-only
returns-in_ok-remove_file-in-Some-3-clause-only g c =
    after g.D.Disk.changes (IsAt c.args.self.now.leave.dry_run c.args.target.now.path) c.args.disk.now
    c.remove_file.new.disk c.create_folder.new.disk c.remove_file.ensures.only c.create_folder.ensures.only
