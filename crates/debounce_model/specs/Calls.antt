-- What a command asks of the cache.
use Rattle.std.specs.Prelude.{ℕ, Bool, true, false, Option, Some, None, if◌then◌else◌}
use Rattle.notify_types.specs.Event.{EventValue, first_of}
use Rattle.notify_paths.specs.Path.{PathValue}
use Rattle.notify_types.specs.declared.event.RecursiveMode.{RecursiveMode}
use Rattle.debounce_model.specs.declared.case.Case.{Case}
use Rattle.debounce_model.specs.declared.case.Case.TheVariants.{Rescan, Creation, Removal, RenameFrom, RenameTo, Plain, Ignored}
use Rattle.debounce_model.specs.declared.file_id.FileId.{FileId}
use Rattle.debounce_model.specs.Cache.{Roots, AddPath, Ask, Plan, Answer, Make, RescanRoots, RemovePath}
use Rattle.debounce_model.specs.RenameSlot.{first_half}
use Rattle.debounce_model.specs.Roots.{mode_in, has_root}
use Rattle.debounce_model.specs.State.{State}
use Rattle.debounce_model.specs.Table.{case_of}

-- the mode in which a path is watched
abbrev pub recursive_mode : State → PathValue → RecursiveMode
recursive_mode s path = mode_in s.roots path

-- a path of which the cache has no number is added in this mode
abbrev pub add_missing : PathValue → RecursiveMode → Option FileId → Plan
add_missing path mode None = Make (AddPath path mode) (Answer None)
add_missing path mode (Some number) = Answer None

-- a second half with this number takes the first half's path, if there is one, out of the cache
abbrev pub remove_half : Option (PathValue × ℕ) → Option FileId → Plan
remove_half None number = Answer number
remove_half (Some (from, time)) number = Make (RemovePath from) (Answer number)

-- the row of a case: the calls of an event with this first path
abbrev pub row_calls : Case → State → EventValue → PathValue → Plan
row_calls Rescan s e path = Make (RescanRoots s.roots) (Answer None)
row_calls Creation s e path = Make (AddPath path (recursive_mode s path)) (Answer None)
row_calls Removal s e path = Make (RemovePath path) (Answer None)
row_calls RenameFrom s e path = Ask path (λ number. Make (RemovePath path) (Answer number))
row_calls RenameTo s e path =
    Make (AddPath path (recursive_mode s path))
    (Ask path (λ number. remove_half (first_half s.rename_slot e number) number))
row_calls Plain s e path = Ask path (add_missing path (recursive_mode s path))
row_calls Ignored s e path = Answer None

-- the calls of an event in this case
abbrev pub calls_in : Case → State → EventValue → Plan
calls_in case s e = row_calls case s e (first_of e.paths)

-- the calls of an event, whose first path exists or not
abbrev pub calls_of : State → EventValue → Bool → Plan
calls_of s e exists = calls_in (case_of e exists) s e

-- the calls of a path that becomes a root beside these: none if an equal path is one
abbrev pub root_calls : Roots → PathValue → RecursiveMode → Plan
root_calls roots path mode = if has_root roots path then Answer None else Make (AddPath path mode) (Answer None)

-- the calls of a path that is to be a root no longer
abbrev pub unroot_calls : PathValue → Plan
unroot_calls path = Make (RemovePath path) (Answer None)

-- the cache isn't asked
abbrev pub is_silent : Plan → Bool
is_silent (Answer answer) = true
is_silent plan = false
