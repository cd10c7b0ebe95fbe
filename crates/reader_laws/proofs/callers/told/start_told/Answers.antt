use Rattle.reader_laws.proofs.CallersLemmas.ToldCalls.{stays_uncalled}
use Rattle.reader_laws.proofs.callers.told.start_told.Goals as goal

pub new_told_debouncer-requires-clause-leaves : goal.new_told_debouncer-requires-clause-leaves
new_told_debouncer-requires-clause-leaves g c = λ κs lives. stays_uncalled _ _
