use Rattle.reader_paths.proofs.PairLemmas.{played_ends, played_goes}
use Rattle.reader_paths.proofs.path_set.PathSet.play_accepted.Goals as goal

pub loop-command-preserved : goal.loop-command-preserved
loop-command-preserved g c =
    played_goes c.loop-command.self c.loop-command.command-iterator c.next.new.self c.next.ensures.steps
    c.loop-command.invariant (c.in-Some.command, c.in-Some.reply) c.in-Some.is c.in_ok-play_taken.ensures.ok

pub returns-clause-ok : goal.returns-clause-ok
returns-clause-ok g c =
    played_ends c.loop-command.self c.loop-command.command-iterator c.next.new.self c.next.ensures.steps
    c.loop-command.invariant c.in-None.is
