-- Nothing is appended. What writes no line cites this.
use Rattle.std.proofs.Common.{ℕ, List, [], Option, None, Some, sym, rules}
use Rattle.std.proofs.lemmas.List.{append-nil}
use Rattle.std.specs.Io.KnownBytes.{Appends}

-- bytes that stay
pub appends_nothing : (bytes : Option (List ℕ)) → Appends bytes bytes []
appends_nothing None = search rules
appends_nothing (Some xs) = sym (append-nil xs)
