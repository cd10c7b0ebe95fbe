use Rattle.std.proofs.Common.{refl}
use Rattle.program_copy.proofs.LookLemmas.{seen_moved, seen_none}
use Rattle.program_copy.proofs.looks.Looks.new.Goals as goal

pub returns-clause-seen : goal.returns-clause-seen
returns-clause-seen g c =
    let sees = g.C.FolderAndCopy.sees c.args.kept.now.copy in
    let wanted = c.in_ok-wanted.field-0.entries in
    c.in_ok-look_for_each.ensures.seen (seen_moved sees wanted wanted _ _ _ _ refl c.new.ensures.empty
    c.new-2.ensures.empty (seen_none sees wanted))
