use Rattle.std.proofs.Common.{inl, inr, refl}
use Rattle.program_copy.specs.Files.Writes.{IsEither}
use Rattle.program_copy.proofs.FilesLemmas.OnlyLemmas.{after, both, one}
use Rattle.program_copy.proofs.files.places.rename_there.Goals as goal

pub returns-in_err-remove_all-clause-only : goal.returns-in_err-remove_all-clause-only
returns-in_err-remove_all-clause-only g c =
    one g.D.Disk.changes (IsEither c.args.partial.now.path c.args.target.now.path) c.args.disk.now
    c.args.target.now.path c.remove_all.new.self c.remove_all.ensures.only (inr refl)

pub returns-then-not-of_folder-clause-only : goal.returns-then-not-of_folder-clause-only
returns-then-not-of_folder-clause-only g c =
    both g.D.Disk.changes (IsEither c.args.partial.now.path c.args.target.now.path) c.args.disk.now
    c.args.partial.now.path c.args.target.now.path c.rename.new.self c.rename.ensures.only (inl refl) (inr refl)

pub returns-clause-only : goal.returns-clause-only
returns-clause-only g c =
    after g.D.Disk.changes (IsEither c.args.partial.now.path c.args.target.now.path) c.args.disk.now
    c.remove_all.new.self c.rename-2.new.self
    (one g.D.Disk.changes (IsEither c.args.partial.now.path c.args.target.now.path) c.args.disk.now
    c.args.target.now.path c.remove_all.new.self c.remove_all.ensures.only (inr refl))
    (both g.D.Disk.changes (IsEither c.args.partial.now.path c.args.target.now.path) c.remove_all.new.self
    c.args.partial.now.path c.args.target.now.path c.rename-2.new.self c.rename-2.ensures.only (inl refl) (inr refl))
