use Rattle.std.specs.Prelude.{◌≡◌, ⊤}
use Rattle.debounce_model.specs.Command.{EventCommand, TakenReply}
use Rattle.debounce_model.specs.Step.{IsTaken}
use Rattle.debounce_c.specs.Numbered.Numbers.{said_numbers}
use Rattle.debounce_c.specs.Desk.{DeskValue, stepped}
use Rattle.debounce_c.specs.Desk.Faults.{event_fault, event_needs}
use Rattle.debounce_c.specs.Desk.Said.{event_of}
use Rattle.debounce_c.proofs.DeskLemmas.OutcomeLemmas.{answers}
use Rattle.debounce_c.proofs.exports.feed.Goals as goal

pub returns : goal.returns
returns c =
    let change = c.args.change.now in
    let attributes = c.args.attributes.now in
    let first = c.args.first.now in
    let second = c.args.second.now in
    let info = c.args.info.now in
    let source = c.args.source.now in
    let event = event_of change attributes first second info source in
    answers c.feed-outcome.result (event_fault change attributes first second info source)
    (event_needs change attributes)
    (λ (s : DeskValue) (t : DeskValue). IsTaken said_numbers s.core event change.moment change.exists t.core
    × (t ≡ stepped s t.core (EventCommand event change.moment change.exists) (TakenReply t.core.answer)))
    (λ f. ⊤) c.deref_mut.result.now c.feed-outcome.new.desk c.code_of-code.result c.args.h.now.sealed.desk _
    (rw (← c.deref_mut.ensures.value) at c.in-Some.ensures.taken) c.put.ensures c.code_of-code.ensures
    c.feed-outcome.ensures
