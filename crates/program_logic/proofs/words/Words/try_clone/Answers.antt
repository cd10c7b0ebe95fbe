use Rattle.std.proofs.Common.{◌∙◌, ap}
use Rattle.std.specs.String.{string_bytes}
use Rattle.program_logic.proofs.WordsLemmas.WordLemmas.{bytes_of-clones}
use Rattle.program_logic.proofs.words.Words.try_clone.Goals as goal

pub returns : goal.returns
returns g c =
    ap (λ texts. record { texts = texts; found = c.self.inside.found })
    (bytes_of-clones string_bytes c.self.inside.words.keys c.in_ok-words.words.keys c.in_ok-words.ensures.cases)
    ∙ c.self.view_is
