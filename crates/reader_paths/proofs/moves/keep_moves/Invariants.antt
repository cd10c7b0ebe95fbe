use Rattle.std.proofs.Common.{◌≡◌, []}
use Rattle.reader_paths.specs.Moves.Told.{kept_from}
use Rattle.reader_paths.proofs.moves.keep_moves.Given as goal

-- the moves so far with those that are left to be read are all
abbrev pub invariant-loop-tracker : goal.invariant-loop-tracker
invariant-loop-tracker g l = kept_from l.moves.entries l.tracker-iterator ≡ kept_from [] l.fn.told.entries
