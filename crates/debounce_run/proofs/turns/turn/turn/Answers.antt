use Rattle.debounce_run.proofs.turns.turn.turn.Goals as goal

pub returns-clause-turned : goal.returns-clause-turned
returns-clause-turned g c = (
  c.tick-batch.result.0,
  c.tick-batch.result.1,
  c.hand_batch-answer.new.handler,
  c.tick-batch.ensures,
  c.hand_batch-answer.ensures.handed,
  c.hand_errors.ensures.handed,
  c.hand_batch-answer.ensures.answer,
)
