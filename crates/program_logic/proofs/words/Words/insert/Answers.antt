use Rattle.std.proofs.Common.{◌∙◌, ap, map}
use Rattle.std.specs.String.{string_bytes}
use Rattle.program_logic.specs.Words.{with_word}
use Rattle.program_logic.proofs.WordsLemmas.WordLemmas.{bytes_of-insert_key}
use Rattle.program_logic.proofs.words.Words.insert.Goals as goal

pub returns : goal.returns
returns g c =
    ap (λ texts. record { texts = texts; found = c.self.inside.found })
    (ap (map string_bytes) c.in_ok-insert.ensures.keys
    ∙ bytes_of-insert_key string_bytes c.self.inside.words.keys c.args.word)
    ∙ ap (λ words. with_word words (string_bytes c.args.word)) c.self.view_is
