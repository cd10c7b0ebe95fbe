use Rattle.debounce_run.proofs.TurnsLemmas.Ticks.{turn_now_hands}
use Rattle.debounce_run.proofs.turns.life.turn_now.Goals as goal

pub returns-clause-handed : goal.returns-clause-handed
returns-clause-handed g c =
    (turn_now_hands g.H.DebounceEventHandler.handles _ _ _ _ _ _ _ c.in_ok-moment.ensures.ok c.turn.ensures.turned).0

pub returns-clause-moment : goal.returns-clause-moment
returns-clause-moment g c =
    (turn_now_hands g.H.DebounceEventHandler.handles _ _ _ _ _ _ _ c.in_ok-moment.ensures.ok c.turn.ensures.turned).1
