use Rattle.std.proofs.Common.{◌≡◌, length, drop}
use Rattle.mirror_run.specs.Script.{with_words, words_of, no_options}
use Rattle.mirror_run.specs.Script.ScriptView.{options_value}
use Rattle.mirror_run.proofs.script.line.read_options.Given as goal

-- the words that are left make of the options so far what all make of none
abbrev pub invariant-loop-word : goal.invariant-loop-word
invariant-loop-word g l =
    with_words (options_value l.options) (drop (length l.yielded) (words_of l.fn.field))
    ≡ with_words no_options (words_of l.fn.field)
