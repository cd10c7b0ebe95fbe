use Rattle.std.proofs.Common.{option_map}
use Rattle.std.proofs.lemmas.Result.{on_ok_weaker, on_err_weaker}
use Rattle.program_logic.specs.Journal.Clock.{IsTime}
use Rattle.program_logic.proofs.JournalLemmas.Timed.{on_ok_both}
use Rattle.program_logic.proofs.journal.Journal.write_timed.Goals as goal

pub returns-clause-written : goal.returns-clause-written
returns-clause-written g c =
    let time : IsTime (option_map (λ s. s.now) c.lent.result) = rw c.lent.ensures c.clock_now-now.ensures in
    on_ok_weaker c.write_passing.result (λ both. (option_map (λ s. s.now) c.lent.result, time, both.0, both.1))
    (on_ok_both _ _ c.write_passing.result c.write_passing.ensures.written c.write_passing.ensures.again)

pub returns-clause-begun : goal.returns-clause-begun
returns-clause-begun g c =
    let time : IsTime (option_map (λ s. s.now) c.lent.result) = rw c.lent.ensures c.clock_now-now.ensures in
    on_err_weaker c.write_passing.result (λ front. (option_map (λ s. s.now) c.lent.result, time, front))
    c.write_passing.ensures.begun
