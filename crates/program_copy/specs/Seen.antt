-- What a copy is to have of what a look answers.
use Rattle.std.specs.Prelude.{Option, None, Some}
use Rattle.reader_paths.specs.declared.plan.action.Standing.{Standing}
use Rattle.program_copy.specs.declared.seen.Seen.{Seen}
use Rattle.program_copy.specs.declared.seen.Seen.TheVariants.{Stands, Other, Nothing, Closed}

-- what is copied of what was seen
abbrev pub standing_of : Seen → Option Standing
standing_of (Stands standing) = Some standing
standing_of Other = None
standing_of Nothing = None
standing_of (Closed error) = None
