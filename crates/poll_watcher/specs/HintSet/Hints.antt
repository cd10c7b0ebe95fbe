-- Paths that wait for a look, at most so many.
use Rattle.std.specs.Prelude.{◌≡◌, ℕ, ◌≤◌, Bool, true, false, not, ◌||◌, List, [], ◌∷◌, ◌++◌, length, filter, ◌⊎◌}
use Rattle.std.specs.List.{list_any}
use Rattle.notify_paths.specs.Path.{PathValue, is_prefix}

-- the paths that wait for a look, or else all that is watched waits
pub record HintSetValue : Type 0 where
  pub paths : List PathValue
  pub all : Bool

-- nothing waits
abbrev pub nothing : HintSetValue
nothing = record { paths = []; all = false }

-- all waits
abbrev pub everything : HintSetValue
everything = record { paths = []; all = true }

-- how many paths wait at most
abbrev pub most_paths : ℕ
most_paths = 1000

-- at most so many paths wait, and none beside all
abbrev pub IsHintSet : HintSetValue → Type 0
IsHintSet set = (length set.paths ≤ most_paths) × (set.all ≡ true → set.paths ≡ [])

-- the path is at or below one of these
abbrev pub is_among : List PathValue → PathValue → Bool
is_among paths path = list_any (λ kept. is_prefix kept path) paths

-- a look at what waits is a look at the path: it is at or below a path that waits, or all waits
abbrev pub covers : HintSetValue → PathValue → Bool
covers set path = set.all || is_among set.paths path

-- the paths that don't lie at or below this one
abbrev pub others : List PathValue → PathValue → List PathValue
others paths path = filter (λ kept. not (is_prefix path kept)) paths

-- the path waits in the place of those below it
abbrev pub with_path : HintSetValue → PathValue → HintSetValue
with_path set path = record { paths = others set.paths path ++ path ∷ []; all = false }

-- what is left of a hint: nothing new if it was covered, and else the path, or all if there was no room or no memory
abbrev pub IsHinted : HintSetValue → PathValue → HintSetValue → Type 0
IsHinted old path new =
    ((new ≡ old) × (covers old path ≡ true)) ⊎ ((new ≡ with_path old path) ⊎ (new ≡ everything))

-- what was given so far is covered
abbrev pub Keeps : HintSetValue → HintSetValue → Type 0
Keeps old new = (path : PathValue) → covers old path ≡ true → covers new path ≡ true
