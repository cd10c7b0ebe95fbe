use Rattle.std.proofs.Common.{inl, refl}
use Rattle.program_copy.specs.Files.Writes.{IsEither}
use Rattle.program_copy.proofs.FilesLemmas.OnlyLemmas.{after, one}
use Rattle.program_copy.proofs.files.places.put_there.Goals as goal

pub returns-in-Err-clause-only : goal.returns-in-Err-clause-only
returns-in-Err-clause-only g c =
    after g.D.Disk.changes (IsEither c.args.partial.now.path c.args.target.now.path) c.args.disk.now
    c.rename_there.new.disk c.give_up.new.disk c.rename_there.ensures.only
    (one g.D.Disk.changes (IsEither c.args.partial.now.path c.args.target.now.path) c.rename_there.new.disk
    c.args.partial.now.path c.give_up.new.disk c.give_up.ensures.only (inl refl))
