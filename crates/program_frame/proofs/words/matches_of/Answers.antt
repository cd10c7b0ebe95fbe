use Rattle.program_frame.proofs.words.matches_of.Goals as goal

pub returns-in-Ok-try_get_matches_from-clause-reading :
    goal.returns-in-Ok-try_get_matches_from-clause-reading
returns-in-Ok-try_get_matches_from-clause-reading g c =
    rw c.in-Ok.is c.in-Ok-try_get_matches_from.ensures.matches
