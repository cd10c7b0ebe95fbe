-- The folders of a path: those of a closed set are in it.
use Rattle.std.proofs.Common.{◌≡◌, Bool, true, ⊎_elim, [], ◌∷◌, ◌++◌, sym, ap, subst, ◌∙◌, true≢false, is_eq}
use Rattle.std.specs.List.{list_all}
use Rattle.std.proofs.lemmas.Bool.{and_parts, or_cases}
use Rattle.std.proofs.lemmas.List.Folds.{list_all-map}
use Rattle.notify_paths.specs.Path.{PathValue, PartValue, path_cmp}
use Rattle.debounce_model.specs.Honest.{folders_of, has_folders, is_closed}
use Rattle.debounce_model.specs.Play.{Paths, has_path}
use Rattle.debounce_laws.proofs.PathSets.{tied}
use Rattle.debounce_laws.proofs.PathTests.{AtOrBelow, Below, self_or_below}

-- the first part of a path, or the root where there is none
abbrev first_part : PathValue → PartValue
first_part [] = Rattle.notify_paths.specs.Path.RootPart
first_part (a ∷ p) = a

-- the parts but the first
abbrev later_parts : PathValue → PathValue
later_parts [] = []
later_parts (a ∷ p) = p

-- what holds of the folders of a path holds of each path above it that is not empty
pub folder_found : (f : PathValue → Bool) (b : PartValue) (q : PathValue) (r : PathValue) →
    list_all f (folders_of r) ≡ true → Below (b ∷ q) r → f (b ∷ q) ≡ true
folder_found f b q [] h below = let long : [] ≡ b ∷ (q ++ below.0 ∷ below.1) = below.2 in cc
folder_found f b [] (c ∷ []) h below = let long : [] ≡ below.0 ∷ below.1 = ap later_parts below.2 in cc
folder_found f b (d ∷ q) (c ∷ []) h below = let long : [] ≡ d ∷ (q ++ below.0 ∷ below.1) =
    ap later_parts below.2 in cc
folder_found f b [] (c ∷ n ∷ r) h below =
    let two = and_parts (f (c ∷ [])) _ h in
    let head : c ≡ b = ap first_part below.2 in
    subst (λ z. f (z ∷ []) ≡ true) head two.0
folder_found f b (d ∷ q) (c ∷ n ∷ r) h below =
    let two = and_parts (f (c ∷ [])) _ h in
    let head : c ≡ b = ap first_part below.2 in
    let deeper =
    folder_found (λ z. f (c ∷ z)) d q (n ∷ r)
    (sym (list_all-map f (λ folder. c ∷ folder) (folders_of (n ∷ r))) ∙ two.1) (
      below.0,
      below.1,
      ap later_parts below.2,
    ) in
    subst (λ z. f (z ∷ d ∷ q) ≡ true) head deeper

-- what holds of all paths of a set holds of one that is in it
all_of_set : (f : PathValue → Bool) (s : Paths) (r : PathValue) → list_all f s ≡ true → has_path s r ≡ true →
    f r ≡ true
all_of_set f [] r h i = absurd (true≢false (sym i))
all_of_set f (x ∷ s) r h i =
    let two = and_parts (f x) (list_all f s) h in
    ⊎_elim (λ e. subst (λ z. f z ≡ true) (sym (tied r x e)) two.0) (λ more. all_of_set f s r two.1 more)
    (or_cases (is_eq (path_cmp r x)) (has_path s r) i)

-- a closed set has each path that is not empty with what is at or below it
pub closed_under : (s : Paths) → is_closed s ≡ true → (a : PartValue) (p r : PathValue) → AtOrBelow (a ∷ p) r →
    has_path s r ≡ true → has_path s (a ∷ p) ≡ true
closed_under s h a p r below i = ⊎_elim (λ e. subst (λ z. has_path s z ≡ true) e i)
    (λ under. folder_found (has_path s) a p r (all_of_set (has_folders s) s r h i) under)
    (self_or_below (a ∷ p) r below)
