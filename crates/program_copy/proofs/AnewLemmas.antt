-- Events by which all is looked at anew. `mirror` cites these.
use Rattle.std.proofs.Common.{◌≡◌, ◌∙◌, Bool, List, [], ◌∷◌, ◌++◌, map, ℕ, ◌<◌, ◌+◌, length, get_or, drop, refl, sym, ap}
use Rattle.std.specs.Map.{keys_of}
use Rattle.notify_paths.specs.Path.{PathValue}
use Rattle.notify_types.specs.Event.{Timed}
use Rattle.debounce_model.proofs.Lists.{drop_at}
use Rattle.reader_paths.specs.Plan.Naming.{naming_again}
use Rattle.program_copy.specs.After.{IsAgainOf, WaitingValue, again_of}
use Rattle.program_copy.specs.Copy.{CopiedValue}

-- events by which paths were looked at again, of all those of a copy but these
abbrev pub AreAgain : CopiedValue → List Timed → List PathValue → Type 0
AreAgain copied events rest =
    (again : WaitingValue) × (keys_of again ++ rest ≡ keys_of copied) × (events ≡ again_of again)

-- one more path
step : (copied : CopiedValue) (events : List Timed) (path : PathValue) (rest : List PathValue) (is_wanted : Bool) →
    AreAgain copied events (path ∷ rest) → AreAgain copied (events ++ naming_again path is_wanted ∷ []) rest
step copied events path rest is_wanted so_far = (
  so_far.0 ++ (path, is_wanted) ∷ [],
  keys_last so_far.0 ∙ so_far.1,
  ap (λ es. es ++ naming_again path is_wanted ∷ []) so_far.2 ∙ sym (again_last so_far.0),
)
  where
    keys_last : (again : WaitingValue) →
        keys_of (again ++ (path, is_wanted) ∷ []) ++ rest ≡ keys_of again ++ path ∷ rest
    keys_last [] = refl
    keys_last (e ∷ again) = ap (λ ps. e.0 ∷ ps) (keys_last again)

    again_last : (again : WaitingValue) →
        again_of (again ++ (path, is_wanted) ∷ []) ≡ again_of again ++ naming_again path is_wanted ∷ []
    again_last [] = refl
    again_last (e ∷ again) = ap (λ es. naming_again e.0 e.1 ∷ es) (again_last again)

-- one more of the paths
pub again_next : (copied : CopiedValue) (events : List Timed) (paths : List PathValue) (i : ℕ) (path : PathValue)
    (is_wanted : Bool) → i < length paths → path ≡ get_or paths i path → AreAgain copied events (drop i paths) →
    AreAgain copied (events ++ naming_again path is_wanted ∷ []) (drop (i + 1) paths)
again_next copied events paths i path is_wanted h is so_far =
    step copied events path (drop (i + 1) paths) is_wanted (rw (drop_at paths i path h is) at so_far)
