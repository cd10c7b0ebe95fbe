use Rattle.std.proofs.Common.{◌∙◌, option_map, rules}
use Rattle.std.proofs.lemmas.Result.{on_ok_weaker}
use Rattle.program_frame.proofs.WholeLemmas.Fronts.{front_none}
use Rattle.program_logic.proofs.JournalLemmas.SourceLemmas.{entries_told, read_told}
use Rattle.program_logic.proofs.journal.Journal.write_passing.Goals as goal

pub returns-in_err-moves-clause-begun : goal.returns-in_err-moves-clause-begun
returns-in_err-moves-clause-begun g c = search (rules, front_none)

pub returns-in_err-batch-clause-begun : goal.returns-in_err-batch-clause-begun
returns-in_err-batch-clause-begun g c = search (rules, front_none)

pub returns-clause-written : goal.returns-clause-written
returns-clause-written g c =
    let told = entries_told c.args.self.now.form (option_map (λ s. s.now) c.args.at) c.in_ok-moves.moves
    c.args.batch.items _ c.in_ok-moves.ensures c.as_slice.ensures.value c.args.self.now.next _ _
    (c.as_slice-2.ensures.value ∙ c.in_ok-batch.ensures.kept) in
    rw told at c.write_told.ensures.written

pub returns-clause-begun : goal.returns-clause-begun
returns-clause-begun g c =
    let told = entries_told c.args.self.now.form (option_map (λ s. s.now) c.args.at) c.in_ok-moves.moves
    c.args.batch.items _ c.in_ok-moves.ensures c.as_slice.ensures.value c.args.self.now.next _ _
    (c.as_slice-2.ensures.value ∙ c.in_ok-batch.ensures.kept) in
    rw told at c.write_told.ensures.begun

pub returns-clause-again : goal.returns-clause-again
returns-clause-again g c =
    on_ok_weaker c.write_told.result
    (λ back json. read_told (option_map (λ s. s.now) c.args.at) c.in_ok-moves.moves c.args.batch.items _
    c.in_ok-moves.ensures c.as_slice.ensures.value c.args.self.now.next _ _
    (c.as_slice-2.ensures.value ∙ c.in_ok-batch.ensures.kept) (back json)) c.write_told.ensures.again
