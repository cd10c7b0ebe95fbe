-- The commands of one script more, and the events among them.
use Rattle.std.proofs.Common.{◌≡◌, ◌∙◌, ℕ, ◌+◌, List, ap, arith, length, map, sym, take}
use Rattle.std.proofs.lemmas.List.{length-map}
use Rattle.std.proofs.lemmas.List.Sums.{count_by-le-length}
use Rattle.std.specs.List.{count_by}
use Rattle.debounce_model.specs.CommandView.{command_value, command_values}
use Rattle.mirror_run.specs.Script.{ScriptValue}
use Rattle.mirror_run.specs.Script.ScriptView.{script_value}
use Rattle.mirror_threads.specs.Threads.{command_count, event_count, is_event}
use Rattle.mirror_threads.proofs.GivenLemmas.{sum-more}
use Rattle.mirror_threads.proofs.scripts.counts_of.Goals as goal

pub loop-number-preserved : goal.loop-number-preserved
loop-number-preserved g c =
    let i = c.loop-number.invariant in
    let n = c.loop-number.number in
    let xs = c.args.scripts.now in
    let x = c.index-scripts-number.result in
    let slice = c.as_slice-script.result.now in
    let h = c.loop-number-test.true in
    let is = c.index-scripts-number.is in
    let value : slice ≡ x.commands.items = c.as_slice-script.ensures.value
    ∙ ap (λ s. s.commands.items) (sym is) in
    let long : length slice ≡ length (command_values x.commands.items) =
    ap length value ∙ sym (length-map x.commands.items command_value) in
    let events : c.events_of.result ≡ count_by is_event (command_values x.commands.items) =
    c.events_of.ensures ∙ ap (λ l. count_by is_event (command_values l)) value in
    let some = count_by-le-length is_event (command_values x.commands.items) in
    record {
      commands = ap (λ (k : ℕ). k + length slice) i.commands
          ∙ ap (λ (k : ℕ). command_count (map script_value (take n xs)) + k) long
          ∙ sym (sum-more script_value xs n x h is (λ (s : ScriptValue). length s.commands));
      events = ap (λ (k : ℕ). k + c.events_of.result) i.events
          ∙ ap (λ (k : ℕ). event_count (map script_value (take n xs)) + k) events
          ∙ sym (sum-more script_value xs n x h is (λ (s : ScriptValue). count_by is_event s.commands));
      fewer = omega (arith, i.fewer, events, some, long);
      room = omega (arith, i.room, c.as_slice-script.ensures.len);
    }
