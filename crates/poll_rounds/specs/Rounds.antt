-- What a round of polling reports to its handler.
use Rattle.std.specs.Prelude.{◌≡◌, ◌⊎◌, ℕ, List, [], ◌∷◌, Result, Ok, Err, IsErrOf}
use Rattle.notify_paths.specs.Errors.{ErrorValue, out_of_memory}
use Rattle.poll_rounds.specs.Folders.{IsRefusal}

-- the events are reported, each by one call, in order
abbrev pub HandsEach : {H E X : Type 0} → (H → Result X E → H → Type 0) → List X → H → H → Type 0
HandsEach handles [] before after = after ≡ before
HandsEach {H} handles (x ∷ xs) before after = (between : H) × handles before (Ok x) between
    × HandsEach handles xs between after

-- one error of the folders is reported, by one call; their failures were the first count and are the second
abbrev pub HandsRefusal : {H X : Type 0} → (H → Result X ErrorValue → H → Type 0) → ℕ → ℕ → H → H → Type 0
HandsRefusal handles failed failed_now before after =
    (e : ErrorValue) × IsRefusal e failed failed_now × handles before (Err e) after

-- one error is reported, by one call: that of the walk, or what it found can't be told for want of memory
abbrev pub HandsError : {H X U : Type 0} → (H → Result X ErrorValue → H → Type 0) → Result U ErrorValue → H → H → Type 0
HandsError handles found before after =
    (e : ErrorValue) × ((e ≡ out_of_memory) ⊎ IsErrOf found e) × handles before (Err e) after
