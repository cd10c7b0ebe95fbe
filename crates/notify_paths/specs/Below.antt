-- What lies below a path in a map whose keys are paths.
use Rattle.std.specs.Prelude.{not, List, filter}
use Rattle.notify_paths.specs.Path.{PathValue, is_below, is_prefix}

-- the entries but those whose paths lie strictly below the path
abbrev pub without_below : {X : Type 0} → List (PathValue × X) → PathValue → List (PathValue × X)
without_below entries path = filter (λ e. not (is_below e.0 path)) entries

-- the entries but those whose paths lie at the path or below it
abbrev pub without_at_or_below : {X : Type 0} → List (PathValue × X) → PathValue → List (PathValue × X)
without_at_or_below entries path = filter (λ e. not (is_prefix path e.0)) entries
