use Rattle.reader_paths.proofs.PairLemmas.{honest_ends, honest_goes, honest_stops}
use Rattle.reader_paths.proofs.honest.are_honest.Goals as goal

pub returns-then-not-branch-clause-ok : goal.returns-then-not-branch-clause-ok
returns-then-not-branch-clause-ok g c =
    honest_stops c.loop-command.raw c.loop-command.command-iterator c.next.new.self c.next.ensures.steps
    c.loop-command.invariant (c.in-Some.command, c.in-Some.reply) c.in-Some.is c.in_ok-play_honest.ensures.ok
    c.if-not-branch.true

pub loop-command-preserved : goal.loop-command-preserved
loop-command-preserved g c =
    honest_goes c.loop-command.raw c.loop-command.command-iterator c.next.new.self c.next.ensures.steps
    c.loop-command.invariant (c.in-Some.command, c.in-Some.reply) c.in-Some.is c.in_ok-play_honest.ensures.ok
    c.if-not-branch.false (c.in_ok-play_honest.ensures.played c.if-not-branch.false)

pub returns-clause-ok : goal.returns-clause-ok
returns-clause-ok g c =
    honest_ends c.loop-command.raw c.loop-command.command-iterator c.next.new.self c.next.ensures.steps
    c.loop-command.invariant c.in-None.is
