use Rattle.std.proofs.Common.{rules}
use Rattle.program_copy.specs.Files.Writes.{IsPartial}
use Rattle.program_copy.proofs.FilesLemmas.OnlyLemmas.{after, one}
use Rattle.program_copy.proofs.files.places.Places.open_new.Goals as goal

pub returns-in-Ok-clause-only : goal.returns-in-Ok-clause-only
returns-in-Ok-clause-only g c =
    let path = c.in_ok-partial.partial.path in
    let beside : IsPartial c.args.self.now.to path = search rules in
    after g.D.Disk.changes (IsPartial c.args.self.now.to) c.args.disk.now c.loop-number.disk c.create_file.new.self
    c.loop-number.invariant (one g.D.Disk.changes (IsPartial c.args.self.now.to) c.loop-number.disk path
    c.create_file.new.self c.create_file.ensures.only beside)

pub returns-in-Err-2-clause-only : goal.returns-in-Err-2-clause-only
returns-in-Err-2-clause-only g c =
    let path = c.in_ok-partial.partial.path in
    let beside : IsPartial c.args.self.now.to path = search rules in
    after g.D.Disk.changes (IsPartial c.args.self.now.to) c.args.disk.now c.loop-number.disk c.create_file.new.self
    c.loop-number.invariant (one g.D.Disk.changes (IsPartial c.args.self.now.to) c.loop-number.disk path
    c.create_file.new.self c.create_file.ensures.only beside)

pub loop-number-preserved : goal.loop-number-preserved
loop-number-preserved g c =
    let path = c.in_ok-partial.partial.path in
    let beside : IsPartial c.args.self.now.to path = search rules in
    after g.D.Disk.changes (IsPartial c.args.self.now.to) c.args.disk.now c.loop-number.disk c.create_file.new.self
    c.loop-number.invariant (one g.D.Disk.changes (IsPartial c.args.self.now.to) c.loop-number.disk path
    c.create_file.new.self c.create_file.ensures.only beside)
