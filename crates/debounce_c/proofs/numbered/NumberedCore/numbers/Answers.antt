use Rattle.std.proofs.Common.{◌∙◌, ap, sym, length}
use Rattle.std.proofs.lemmas.List.{length-map}
use Rattle.debounce_model.specs.State.{Core}
use Rattle.debounce_c.specs.Numbered.Numbers.{Numbers}
use Rattle.debounce_c.proofs.numbered.NumberedCore.numbers.Goals as goal

pub returns : goal.returns
returns c =
    c.len.ensures ∙ ap length c.cache.ensures ∙ sym (length-map c.self.inside.core.cache (λ e. (e.0, e.1.id)))
    ∙ ap (λ (k : Core Numbers). length k.cache) c.self.view_is
