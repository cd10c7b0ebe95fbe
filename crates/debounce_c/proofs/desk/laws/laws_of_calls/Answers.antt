use Rattle.std.proofs.Common.{ap}
use Rattle.debounce_model.specs.State.{State, waiting}
use Rattle.debounce_laws.proofs.FloodLemmas.{state_floods_nowhere}
use Rattle.debounce_laws.proofs.FoundedRuns.{state_invents_no_rename}
use Rattle.debounce_laws.proofs.KeptLemmas.{state_loses_no_change}
use Rattle.debounce_laws.proofs.ReaderLaw.{state_gives_raw_paths}
use Rattle.debounce_laws.proofs.SoonLemmas.{state_emits_soon}
use Rattle.debounce_c.specs.Desk.Calls.{commands_of}
use Rattle.debounce_c.proofs.DeskLemmas.CallLemmas.{runs, runs_between, state_runs, well_formed-opened}
use Rattle.debounce_c.proofs.DeskLemmas.JournalLemmas.{entries_lead, journal_got}
use Rattle.debounce_c.proofs.DeskLemmas.LookLemmas.{reader_knows}
use Rattle.debounce_c.proofs.desk.laws.laws_of_calls.Goals as goal

pub returns-clause-run : goal.returns-clause-run
returns-clause-run c = runs

pub returns-clause-between : goal.returns-clause-between
returns-clause-between c = runs_between

pub returns-clause-written : goal.returns-clause-written
returns-clause-written c = λ calls replies s t same made. record {
  journal = journal_got calls replies s t same made;
  leads = entries_lead calls replies s t made;
}

pub returns-clause-raw : goal.returns-clause-raw
returns-clause-raw c = λ timeout calls replies s t opened made.
    state_gives_raw_paths s.core.state t.core.state (commands_of calls) replies
    (ap (λ (k : State). k.queues) opened.state) (ap (λ (k : State). k.rescan_slot) opened.state)
    (state_runs calls replies s t made)

pub returns-clause-kept : goal.returns-clause-kept
returns-clause-kept c = λ timeout calls replies s t opened made calm.
    state_loses_no_change s.core.state t.core.state (commands_of calls) replies
    (ap (λ (k : State). waiting k) opened.state) calm (state_runs calls replies s t made)

pub returns-clause-founded : goal.returns-clause-founded
returns-clause-founded c = λ timeout calls replies s t opened made.
    state_invents_no_rename s.core.state t.core.state (commands_of calls) replies
    (ap (λ (k : State). waiting k) opened.state) (ap (λ (k : State). k.rename_slot) opened.state)
    (state_runs calls replies s t made)

pub returns-clause-flood : goal.returns-clause-flood
returns-clause-flood c = λ timeout calls replies s t opened made.
    state_floods_nowhere s.core.state t.core.state (commands_of calls) replies
    (well_formed-opened timeout s.core.state opened.state) (ap (λ (k : State). waiting k) opened.state)
    (state_runs calls replies s t made)

pub returns-clause-soon : goal.returns-clause-soon
returns-clause-soon c = λ timeout calls replies s t opened made calm.
    state_emits_soon s.core.state t.core.state (commands_of calls) replies
    (ap (λ (k : State). waiting k) opened.state) calm (state_runs calls replies s t made)

pub returns-clause-known : goal.returns-clause-known
returns-clause-known c = λ timeout calls replies s t opened by made.
    reader_knows calls replies s t timeout opened
    (state_gives_raw_paths s.core.state t.core.state (commands_of calls) replies
    (ap (λ (k : State). k.queues) opened.state) (ap (λ (k : State). k.rescan_slot) opened.state)
    (state_runs calls replies s t made)) by made
