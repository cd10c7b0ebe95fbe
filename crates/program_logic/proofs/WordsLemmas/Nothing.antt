-- Nothing is written. What fails before it writes cites this.
use Rattle.std.proofs.Common.{ℕ, List, [], Option, None, Some, refl, sym, rules}
use Rattle.std.proofs.lemmas.List.{append-nil}
use Rattle.std.specs.Prelude.{Result, Ok, Err, OnErr}
use Rattle.std.specs.Io.KnownBytes.{Appends}
use Rattle.program_frame.specs.Whole.Output.{WritesFront}

-- bytes that stay
pub appends_nothing : (bytes : Option (List ℕ)) → Appends bytes bytes []
appends_nothing None = search rules
appends_nothing (Some xs) = sym (append-nil xs)

-- no byte of these was written yet
pub begins_nothing : {T E : Type 0} (result : Result T E) (old : Option (List ℕ)) (bytes : List ℕ) →
    OnErr result (WritesFront old bytes old)
begins_nothing (Ok value) old bytes = search rules
begins_nothing (Err error) old bytes =
    record { rest = bytes; up_to = record { front = []; written = appends_nothing old; split = refl } }
