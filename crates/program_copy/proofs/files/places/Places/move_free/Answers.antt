use Rattle.std.proofs.Common.{inl, inr, refl}
use Rattle.program_copy.specs.Files.Writes.{IsAtEither}
use Rattle.program_copy.proofs.FilesLemmas.OnlyLemmas.{both}
use Rattle.program_copy.proofs.files.places.Places.move_free.Goals as goal

pub returns-in_err-move_to-clause-only : goal.returns-in_err-move_to-clause-only
returns-in_err-move_to-clause-only g c =
    both g.D.Disk.changes (IsAtEither c.args.self.now.leave.dry_run c.args.old.now.path c.args.new.now.path)
    c.args.disk.now c.args.old.now.path c.args.new.now.path c.move_to.new.self c.move_to.ensures.only
    (c.if-self.false, inl refl) (c.if-self.false, inr refl)

pub returns-clause-only : goal.returns-clause-only
returns-clause-only g c =
    both g.D.Disk.changes (IsAtEither c.args.self.now.leave.dry_run c.args.old.now.path c.args.new.now.path)
    c.args.disk.now c.args.old.now.path c.args.new.now.path c.move_to.new.self c.move_to.ensures.only
    (c.if-self.false, inl refl) (c.if-self.false, inr refl)
