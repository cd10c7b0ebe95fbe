use Rattle.std.proofs.lemmas.Result.{on_ok_weaker}
use Rattle.program_copy.proofs.MovingLemmas.{named_left, told_here}
use Rattle.program_copy.proofs.moving.note_came.Goals as goal

pub returns-then-is_told : goal.returns-then-is_told
returns-then-is_told c =
    told_here c.args.sources.now.entries c.args.new.now _ (c.is_told.ensures c.if-is_told.true)

pub returns : goal.returns
returns c =
    on_ok_weaker c.name_removed.result
    (λ added. named_left c.args.sources.now.entries c.args.new.now c.args.left.now.items _ added)
    c.name_removed.ensures
