-- The names of the words of a command line.
use Rattle.std.proofs.Common.{◌≡◌, ◌∙◌, ap, ◌++◌, ◌∷◌, [], false, ℕ, List}
use Rattle.clap.specs.declared.builder.arg.Arg.{Arg}
use Rattle.clap.specs.declared.builder.command.Command.{Command}
use Rattle.clap.specs.Words.{AddsArg}
use Rattle.program_frame.specs.Words.{ids_of}
use Rattle.program_frame.proofs.Ids.{ids_added}

-- a word of this name is added last
pub named_added : (old new : Command) (word : Arg) (name : List ℕ) → word.global ≡ false → word.id.now ≡ name →
    AddsArg old word new → ids_of new ≡ ids_of old ++ name ∷ []
named_added old new word name local named adds =
    ids_added old new word local adds ∙ ap (λ id. ids_of old ++ id ∷ []) named
