-- What the core does with a table of numbers, of which none was taken out before, is what it does with the numbers that
-- its caller says; and what a refused step has taken out comes back as it was.
use Rattle.std.proofs.Common.{◌≡◌, ◌∙◌, ℕ, Bool, true, false, Option, Some, None, refl, ap, inl, inr}
use Rattle.notify_types.specs.Event.{EventValue, first_of}
use Rattle.notify_types.specs.declared.event.RecursiveMode.{RecursiveMode}
use Rattle.notify_paths.specs.Path.{PathValue}
use Rattle.debounce_model.specs.declared.case.Case.{Case}
use Rattle.debounce_model.specs.declared.case.Case.TheVariants.{Rescan, Creation, Removal, RenameFrom, RenameTo, Plain, Ignored}
use Rattle.debounce_model.specs.declared.file_id.FileId.{FileId}
use Rattle.debounce_model.specs.Cache.{Roots, CacheCall, AddPath, RemovePath, RescanRoots, Plan, Answer, Make, Ask, Begins, CarriesOut}
use Rattle.debounce_model.specs.Calls.{add_missing, calls_in, calls_of, recursive_mode, remove_half, root_calls, unroot_calls}
use Rattle.debounce_model.specs.RenameSlot.{first_half}
use Rattle.debounce_model.specs.Roots.{has_root}
use Rattle.debounce_model.specs.State.{State}
use Rattle.debounce_model.specs.Table.{case_of}
use Rattle.debounce_c.specs.Numbered.Marks.{IsNoneGone, Marks, leaves_marks, numbers_of, restored, settled, table_rules}
use Rattle.debounce_c.specs.Numbered.Numbers.{said_numbers}
use Rattle.debounce_c.proofs.NumberedLemmas.MarkLemmas.{restored-marked, settled-marked, settled-none}

-- a plan that is carried out on a table is carried out on its numbers
abbrev pub IsSaid : Plan → Type 0
IsSaid plan = (c : Marks) (answer : Option FileId) (d : Marks) → IsNoneGone c → CarriesOut table_rules c plan answer d →
    CarriesOut said_numbers (numbers_of c) plan answer (numbers_of (settled d))

-- an answer
said-answer : (a : Option FileId) → IsSaid (Answer a)
said-answer a c answer d h (is, same) = (is, rw same (ap numbers_of (settled-none c h)))

-- a removal, and then an answer
said-removal : (path : PathValue) (a : Option FileId) → IsSaid (Make (RemovePath path) (Answer a))
said-removal path a c answer d h (m, left, is) =
    (numbers_of (settled d), rw (is.1, left) (settled-marked path c h), (is.0, refl))

-- a path that is added first
said-added : (path : PathValue) (mode : RecursiveMode) (next : Plan) → IsSaid next →
    IsSaid (Make (AddPath path mode) next)
said-added path mode next more c answer d h (m, left, rest) =
    (numbers_of c, refl, more c answer d h (rw left at rest))

-- roots that are looked at first
said-rescan : (roots : Roots) (next : Plan) → IsSaid next → IsSaid (Make (RescanRoots roots) next)
said-rescan roots next more c answer d h (m, left, rest) = (numbers_of c, refl, more c answer d h (rw left at rest))

-- a number that is asked for first
said-asked : (path : PathValue) (next : Option FileId → Plan) → ((number : Option FileId) → IsSaid (next number)) →
    IsSaid (Ask path next)
said-asked path next more c answer d h rest = more _ c answer d h rest

-- a path that is added if it has no number
said-missing : (path : PathValue) (mode : RecursiveMode) (number : Option FileId) →
    IsSaid (add_missing path mode number)
said-missing path mode None = said-added path mode (Answer None) (said-answer None)
said-missing path mode (Some number) = said-answer None

-- the first half's path, if there is one, is taken out
said-half : (half : Option (PathValue × ℕ)) (number : Option FileId) → IsSaid (remove_half half number)
said-half None number = said-answer number
said-half (Some half) number = said-removal half.0 number

-- the calls of a first half
said-from : (path : PathValue) → IsSaid (Ask path (λ number. Make (RemovePath path) (Answer number)))
said-from path = said-asked path (λ number. Make (RemovePath path) (Answer number)) (said-removal path)

-- the calls of a second half
said-to : (s : State) (e : EventValue) (path : PathValue) (mode : RecursiveMode) →
    IsSaid (Make (AddPath path mode) (Ask path (λ number. remove_half (first_half s.rename_slot e number) number)))
said-to s e path mode =
    let next : Option FileId → Plan = λ number. remove_half (first_half s.rename_slot e number) number in
    said-added path mode (Ask path next)
    (said-asked path next (λ number. said-half (first_half s.rename_slot e number) number))

-- the calls of a plain event
said-plain : (path : PathValue) (mode : RecursiveMode) → IsSaid (Ask path (add_missing path mode))
said-plain path mode = said-asked path (add_missing path mode) (said-missing path mode)

-- the calls of an event
pub said-event : (s : State) (e : EventValue) (exists : Bool) → IsSaid (calls_of s e exists)
said-event s e exists = by (case_of e exists)
  where
    by : (case : Case) → IsSaid (calls_in case s e)
    by Rescan = said-rescan s.roots (Answer None) (said-answer None)
    by Creation = said-added (first_of e.paths) (recursive_mode s (first_of e.paths)) (Answer None) (said-answer None)
    by Removal = said-removal (first_of e.paths) None
    by RenameFrom = said-from (first_of e.paths)
    by RenameTo = said-to s e (first_of e.paths) (recursive_mode s (first_of e.paths))
    by Plain = said-plain (first_of e.paths) (recursive_mode s (first_of e.paths))
    by Ignored = said-answer None

-- the calls of a path that becomes a root
pub said-root : (roots : Roots) (path : PathValue) (mode : RecursiveMode) → IsSaid (root_calls roots path mode)
said-root roots path mode = by (has_root roots path) refl
  where
    by : (b : Bool) → has_root roots path ≡ b → IsSaid (root_calls roots path mode)
    by true q = rw q (said-answer None)
    by false q = rw q (said-added path mode (Answer None) (said-answer None))

-- the calls of a path that is to be a root no longer
pub said-unroot : (path : PathValue) → IsSaid (unroot_calls path)
said-unroot path = said-removal path None

-- a call leaves the table as it was, but for what it takes out
left-restored : (c m : Marks) (call : CacheCall) → leaves_marks c call m → restored m ≡ restored c
left-restored c m (AddPath path mode) h = ap restored h
left-restored c m (RemovePath path) h = ap restored h ∙ restored-marked path c
left-restored c m (RescanRoots roots) h = ap restored h

-- .. and so does a beginning of a plan
pub begun-restored : (plan : Plan) (c d : Marks) → Begins table_rules c plan d → restored d ≡ restored c
begun-restored (Answer a) c d h = ap restored h
begun-restored (Make call next) c d (inl h) = ap restored h
begun-restored (Make call next) c d (inr (inl h)) = absurd h
begun-restored (Make call next) c d (inr (inr (m, left, more))) =
    begun-restored next m d more ∙ left-restored c m call left
begun-restored (Ask path next) c d h = begun-restored (next _) c d h
