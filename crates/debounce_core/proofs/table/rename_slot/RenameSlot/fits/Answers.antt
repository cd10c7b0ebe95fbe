-- Halves with one tracker fit.
use Rattle.std.proofs.Common.{rules}
use Rattle.debounce_core.proofs.table.rename_slot.RenameSlot.fits.Goals as goal

pub returns-then-is_same_tracker : goal.returns-then-is_same_tracker
returns-then-is_same_tracker g c = search rules
