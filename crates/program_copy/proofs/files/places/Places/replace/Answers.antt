use Rattle.std.proofs.Common.{inr, rules}
use Rattle.program_copy.specs.Files.Writes.{IsEither, IsPartial, IsPlaceOrBeside}
use Rattle.program_copy.proofs.FilesLemmas.BesideLemmas.{partial_beside}
use Rattle.program_copy.proofs.FilesLemmas.OnlyLemmas.{after, either_beside, one, wider}
use Rattle.program_copy.proofs.files.places.Places.replace.Goals as goal

pub returns-in-Ok-clause-only : goal.returns-in-Ok-clause-only
returns-in-Ok-clause-only g c =
    let to = c.args.self.now.to in
    let target = c.args.target.now.path in
    let path = c.in_ok-partial.partial.path in
    let beside : IsPartial to path = search rules in
    after g.D.Disk.changes (IsPlaceOrBeside to target) c.args.disk.now c.open_new.new.disk c.put_there.new.disk
    (wider g.D.Disk.changes (IsPartial to) (IsPlaceOrBeside to target) c.args.disk.now c.open_new.new.disk
    (partial_beside to target) c.open_new.ensures.only)
    (wider g.D.Disk.changes (IsEither path target) (IsPlaceOrBeside to target) c.open_new.new.disk
    c.put_there.new.disk (either_beside to path target beside) c.put_there.ensures.only)

pub returns-clause-only : goal.returns-clause-only
returns-clause-only g c =
    let to = c.args.self.now.to in
    let target = c.args.target.now.path in
    let path = c.in_ok-partial.partial.path in
    let beside : IsPartial to path = search rules in
    after g.D.Disk.changes (IsPlaceOrBeside to target) c.args.disk.now c.open_new.new.disk c.give_up.new.disk
    (wider g.D.Disk.changes (IsPartial to) (IsPlaceOrBeside to target) c.args.disk.now c.open_new.new.disk
    (partial_beside to target) c.open_new.ensures.only)
    (one g.D.Disk.changes (IsPlaceOrBeside to target) c.open_new.new.disk path c.give_up.new.disk
    c.give_up.ensures.only (inr beside))
