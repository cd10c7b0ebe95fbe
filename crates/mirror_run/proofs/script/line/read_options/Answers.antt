use Rattle.std.proofs.Common.{rules, ◌≡◌, ◌∙◌, sym, ap, lit<, ℕ, ◌+◌, ◌<◌, length, get_or, drop, false, Option, List, None, arith}
use Rattle.std.specs.Option.{option_and_then}
use Rattle.std.specs.Prelude.{codes}
use Rattle.std.specs.Str.{bytes_eq}
use Rattle.std.proofs.lemmas.Bool.{cond-false}
use Rattle.std.proofs.lemmas.Iterator.Consumers.{YieldsList-at, YieldsList-turn, YieldsList-end}
use Rattle.std.proofs.lemmas.Iterator.Splits.{YieldsList-from_str_split}
use Rattle.std.proofs.lemmas.List.{at_drop_more, at_drop_all, length_push}
use Rattle.mirror_run.specs.Script.{OptionsValue, no_options, with_word, with_words, words_of, options_of}
use Rattle.mirror_run.specs.Script.ScriptView.{options_value}
use Rattle.mirror_run.specs.declared.script.line.LineFault.TheVariants.{NotCommand}
use Rattle.mirror_run.proofs.script.line.read_options.Goals as goal

-- the options that come of word n take the words behind it
with_words-turn : (options : OptionsValue) (made : Option OptionsValue) (words : List (List ℕ)) (n : ℕ)
    (word : List ℕ) → (n < length words) × (word ≡ get_or words n word) → with_word options word ≡ made →
    with_words options (drop n words) ≡ option_and_then (λ more. with_words more (drop (n + 1) words)) made
with_words-turn options made words n word here e =
    at_drop_more (with_words options) words n word here.0
    ∙ ap (λ w. option_and_then (λ more. with_words more (drop (n + 1) words)) (with_word options w))
    (sym here.1)
    ∙ ap (option_and_then (λ more. with_words more (drop (n + 1) words))) e

-- a field other than `-` is words
options_of-words : (field : List ℕ) → bytes_eq field (codes "-") ≡ false →
    options_of field ≡ with_words no_options (words_of field)
options_of-words field h = cond-false (bytes_eq field (codes "-")) _ _ h

pub loop-word-preserved : goal.loop-word-preserved
loop-word-preserved g c =
    let road = YieldsList-at c.into_iter-word-iterator.ensures.into_iter_gives
    (YieldsList-from_str_split 44 c.args.field.now (lit< tt) c.split-word-items.ensures.text
    c.split-word-items.ensures.has_more c.split-word-items.ensures.pattern) in
    let here = YieldsList-turn road c.loop-word.yielded _ c.loop-word.yielded_by _ _ c.in-Some.word c.in-Some.is
    c.next.ensures.steps in
    ap (λ n. with_words (options_value c.take_word.new.self) (drop n (words_of c.args.field.now)))
    (length_push c.loop-word.yielded c.in-Some.word)
    ∙ sym (with_words-turn _ _ _ _ _ here c.in_ok-take_word.ensures.ok)
    ∙ c.loop-word.invariant

pub returns-in_err-take_word-clause-err : goal.returns-in_err-take_word-clause-err
returns-in_err-take_word-clause-err g c =
    let road = YieldsList-at c.into_iter-word-iterator.ensures.into_iter_gives
    (YieldsList-from_str_split 44 c.args.field.now (lit< tt) c.split-word-items.ensures.text
    c.split-word-items.ensures.has_more c.split-word-items.ensures.pattern) in
    let here = YieldsList-turn road c.loop-word.yielded _ c.loop-word.yielded_by _ _ c.in-Some.word c.in-Some.is
    c.next.ensures.steps in
    let refused : c.in_err-take_word.field-0.0 ≡ NotCommand → options_of c.args.field.now ≡ None =
    λ e. options_of-words c.args.field.now (sym c.eq.ensures ∙ c.if-eq.false)
    ∙ sym c.loop-word.invariant
    ∙ with_words-turn _ _ _ _ _ here (c.in_err-take_word.ensures.err e) in
    search (rules, refused)

pub returns-clause-ok : goal.returns-clause-ok
returns-clause-ok g c =
    let road = YieldsList-at c.into_iter-word-iterator.ensures.into_iter_gives
    (YieldsList-from_str_split 44 c.args.field.now (lit< tt) c.split-word-items.ensures.text
    c.split-word-items.ensures.has_more c.split-word-items.ensures.pattern) in
    let end = YieldsList-end road c.loop-word.yielded _ c.loop-word.yielded_by _ _ c.in-None.is
    c.next.ensures.steps in
    options_of-words c.args.field.now (sym c.eq.ensures ∙ c.if-eq.false)
    ∙ sym c.loop-word.invariant
    ∙ at_drop_all (with_words (options_value c.loop-word.options)) (words_of c.args.field.now)
    (length c.loop-word.yielded) (omega (arith, end.1))
