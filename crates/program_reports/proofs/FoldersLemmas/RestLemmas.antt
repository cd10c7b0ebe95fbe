-- What waits when a debouncer ends, as reports.
use Rattle.std.proofs.Common.{◌≡◌, ◌==◌, true, false, List, [], ◌∷◌, length, refl, true≢false}
use Rattle.std.specs.Prelude.{Ok, Err}
use Rattle.std.specs.declared.alloc.Global.{Global}
use Rattle.std.specs.declared.vec.Vec.{Vec}
use Rattle.notify_paths.specs.Errors.{ErrorValue}
use Rattle.notify_types.specs.Event.{Timed}
use Rattle.program_reports.specs.Folders.Rest.{IsBatchOf, IsListOf}

-- events that are some are one batch
pub batch_of : (batch : Vec Timed Global) (events : List Timed) → batch.items ≡ events →
    (length events == 0) ≡ false → IsBatchOf events (Ok batch ∷ [])
batch_of batch [] is some = absurd (true≢false some)
batch_of batch (x ∷ xs) is some = (batch, is, refl)

-- errors that are some are one list
pub list_of : (errors : Vec ErrorValue Global) (values : List ErrorValue) → errors.items ≡ values →
    (length values == 0) ≡ false → IsListOf values (Err errors ∷ [])
list_of errors [] is some = absurd (true≢false some)
list_of errors (e ∷ es) is some = (errors, is, refl)
