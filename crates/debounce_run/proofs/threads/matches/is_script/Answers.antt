use Rattle.std.proofs.Common.{◌≡◌, ◌≢◌, ◌∙◌, ◌+◌, false, List, ◌∷◌, ap, drop, refl, sym}
use Rattle.std.proofs.lemmas.List.{drop_all}
use Rattle.std.specs.Cmp.Lexicographic.{pointwise}
use Rattle.debounce_model.specs.Command.{CommandValue}
use Rattle.debounce_model.specs.CommandView.{command_value, command_values}
use Rattle.debounce_model.specs.Equality.{command_eq}
use Rattle.debounce_book.specs.Journal.{EntryValue}
use Rattle.debounce_run.specs.Threads.Merged.{commands_from}
use Rattle.debounce_run.proofs.ThreadsLemmas.Merges.{commands_from-one, commands_from-other, decided, pointwise-none, pointwise-stripped, pointwise-unstripped}
use Rattle.debounce_run.proofs.threads.matches.is_script.Goals as goal

pub loop-entry-preserved-then-entry-number : goal.loop-entry-preserved-then-entry-number
loop-entry-preserved-then-entry-number g c =
    let l = c.loop-entry in
    let other : c.entry-item.result.from ≢ c.args.number = rw (← c.entry.view_is) c.if-entry-number.true in
    l.invariant
    ∙ ap (λ (cs : List CommandValue). pointwise command_eq cs (command_values l.rest.now))
    (commands_from-other c.args.number c.args.entries.now l.entry-index c.entry-item.result
    c.loop-entry-test.true c.entry-item.is other)

pub returns-in_default : goal.returns-in_default
returns-in_default g c =
    let l = c.loop-entry in
    let one : c.entry-item.result.from ≡ c.args.number = rw (← c.entry.view_is) c.if-entry-number.false in
    let same : c.entry-item.result.command ≡ command_value c.entry.inside.command =
    rw (← c.entry.view_is) refl in
    let left = commands_from c.args.number (drop (l.entry-index + 1) c.args.entries.now) in
    decided (commands_from c.args.number c.args.entries.now) (command_values c.args.script.now) false
    (l.invariant
    ∙ ap (λ (cs : List CommandValue). pointwise command_eq cs (command_values l.rest.now))
    (commands_from-one c.args.number c.args.entries.now l.entry-index c.entry-item.result
    c.loop-entry-test.true c.entry-item.is one)
    ∙ ap (λ (d : CommandValue). pointwise command_eq (d ∷ left) (command_values l.rest.now)) same
    ∙ pointwise-unstripped (command_value c.entry.inside.command) left (command_values l.rest.now)
    (sym c.in_default.ensures))

pub loop-entry-preserved : goal.loop-entry-preserved
loop-entry-preserved g c =
    let l = c.loop-entry in
    let one : c.entry-item.result.from ≡ c.args.number = rw (← c.entry.view_is) c.if-entry-number.false in
    let same : c.entry-item.result.command ≡ command_value c.entry.inside.command =
    rw (← c.entry.view_is) refl in
    let left = commands_from c.args.number (drop (l.entry-index + 1) c.args.entries.now) in
    l.invariant
    ∙ ap (λ (cs : List CommandValue). pointwise command_eq cs (command_values l.rest.now))
    (commands_from-one c.args.number c.args.entries.now l.entry-index c.entry-item.result
    c.loop-entry-test.true c.entry-item.is one)
    ∙ ap (λ (d : CommandValue). pointwise command_eq (d ∷ left) (command_values l.rest.now)) same
    ∙ pointwise-stripped (command_value c.entry.inside.command) left (command_values l.rest.now)
    (command_values c.in-Some.more.now) (sym c.in-Some.ensures)

pub returns : goal.returns
returns g c =
    let l = c.loop-entry in
    decided (commands_from c.args.number c.args.entries.now) (command_values c.args.script.now)
    c.is_empty.result
    (l.invariant
    ∙ ap (λ (es : List EntryValue). pointwise command_eq (commands_from c.args.number es)
    (command_values l.rest.now)) (drop_all l.entry-index c.args.entries.now c.loop-entry-test.false)
    ∙ pointwise-none command_value l.rest.now
    ∙ sym c.is_empty.ensures)
