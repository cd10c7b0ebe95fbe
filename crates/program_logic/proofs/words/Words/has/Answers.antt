use Rattle.std.proofs.Common.{◌∙◌, ap}
use Rattle.std.specs.String.{string_bytes}
use Rattle.program_logic.specs.Words.{has_word}
use Rattle.program_logic.proofs.WordsLemmas.WordLemmas.{any_by_bytes}
use Rattle.program_logic.proofs.words.Words.has.Goals as goal

pub returns : goal.returns
returns g c = c.contains.ensures ∙ any_by_bytes string_bytes c.args.word.now c.self.inside.words.keys
    ∙ ap (λ words. has_word words c.args.word.now) c.self.view_is
