use Rattle.std.proofs.Common.{◌≡◌, ◌∙◌, [], ap, arith, slice_index_or, sym}
use borrow.Author.Count.{below_more}
use Rattle.std.proofs.lemmas.List.{get_or-map, length-map}
use Rattle.debounce_model.specs.CommandView.{command_values}
use Rattle.debounce_run.specs.Threads.Merged.{commands_from, script_values}
use Rattle.debounce_run.proofs.threads.matches.are_ordered.Goals as goal

pub loop-number-preserved : goal.loop-number-preserved
loop-number-preserved g c =
    let l = c.loop-number in
    let script = c.index-scripts-number.result in
    let same = rw c.as_slice.ensures.value at (c.is_script.ensures.0 c.if-not-is_script.false) in
    let here = same ∙ ap (λ (s : _). command_values s.items) c.index-scripts-number.is
    ∙ sym (get_or-map (λ s. command_values s.items) c.args.scripts.now l.number script []
    c.loop-number-test.true) in
    below_more (λ k. commands_from k c.args.entries.now
    ≡ slice_index_or (script_values c.args.scripts.now) k []) l.number l.invariant here

pub returns : goal.returns
returns g c = λ yes k h. c.loop-number.invariant k (omega (arith, rw length-map at h))
