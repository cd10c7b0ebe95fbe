-- The names of the words of a command line. The function that adds a word cites this.
use Rattle.std.proofs.Common.{◌≡◌, ◌∙◌, ap, ◌++◌, ◌∷◌, [], map, false, ℕ, List, Result, Ok, Err, IfOk}
use Rattle.std.proofs.lemmas.List.{map-append, append_assoc}
use Rattle.clap.specs.declared.builder.arg.Arg.{Arg}
use Rattle.clap.specs.declared.builder.command.Command.{Command}
use Rattle.clap.specs.Simple.{app_of}
use Rattle.clap.specs.Walk.{rule_of}
use Rattle.clap.specs.Words.{AddsArg}
use Rattle.program_frame.specs.Words.{ids_of}

-- a word is added last
pub ids_added : (old new : Command) (word : Arg) → word.global ≡ false → AddsArg old word new
    → ids_of new ≡ ids_of old ++ word.id.now ∷ []
ids_added old new word local adds =
    ap (λ app. map (λ rule. rule.id) app.top.rules) (adds.shape local)
    ∙ map-append (λ rule. rule.id) (app_of old).top.rules (rule_of word ∷ [])

-- the names of two words that were added in turn
pub ids_of_two : {E : Type 0} (zero one : Command) (result : Result Command E) (a b : List ℕ)
    → ids_of one ≡ ids_of zero ++ a ∷ [] → IfOk result (λ two. ids_of two ≡ ids_of one ++ b ∷ [])
    → IfOk result (λ two. ids_of two ≡ ids_of zero ++ a ∷ b ∷ [])
ids_of_two zero one (Ok two) a b first last =
    last ∙ ap (λ ids. ids ++ b ∷ []) first ∙ append_assoc (ids_of zero) (a ∷ []) (b ∷ [])
ids_of_two zero one (Err error) a b first last = last
