use Rattle.reader_laws.proofs.CallersLemmas.ToldCalls.{stays_uncalled}
use Rattle.reader_laws.proofs.callers.told.start_told_by_hand.Goals as goal

pub new_told_debouncer_by_hand-requires-clause-leaves : goal.new_told_debouncer_by_hand-requires-clause-leaves
new_told_debouncer_by_hand-requires-clause-leaves g c = λ κs lives. stays_uncalled _ _
