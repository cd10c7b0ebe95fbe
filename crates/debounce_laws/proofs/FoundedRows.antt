-- What is founded on a few renames, and what is not.
use Rattle.std.proofs.Common.{◌≡◌, ℕ, true, false, List, [], ◌∷◌, ◌++◌, refl, ap, sym, ◌∙◌, Some, None, length, length-append, arith, true≢false}
use Rattle.std.specs.Prelude.{codes}
use Rattle.notify_paths.specs.Path.{PathValue, RootPart, NamePart}
use Rattle.notify_types.specs.declared.kind.EventKind.TheVariants.{Modify}
use Rattle.notify_types.specs.declared.kind.ModifyKind.TheVariants as modify
use Rattle.notify_types.specs.declared.kind.RenameMode.{RenameMode}
use Rattle.notify_types.specs.declared.kind.RenameMode.TheVariants as rename
use Rattle.debounce_model.specs.declared.case.Case.TheVariants.{RenameFrom, RenameTo}
use Rattle.debounce_model.specs.Founded.{AcceptedEvent, renames, are_linked, Matched, Founded, Told, TakenOn, TakenAlong}
use Rattle.debounce_model.specs.Table.{case_of}

-- where nothing is matched, nothing is founded
unmatched : {o t : PathValue} (history : List AcceptedEvent) → ((f t : PathValue) → Matched history f t → ⊥) →
    Founded history o t → ⊥
unmatched history none (Told {o = o} {t = t} m) = none o t m
unmatched history none (TakenOn {f = f} {t = t} e m) = none f t m
unmatched history none (TakenAlong {f = f} {t = t} e m b a) = none f t m

-- where no rename was accepted, nothing is founded
founded_on_none : {o t : PathValue} (history : List AcceptedEvent) → renames history ≡ [] →
    Founded history o t → ⊥
founded_on_none history none e =
    unmatched history (λ f t m. no m.first m.second m.later m.earlier (sym none ∙ m.neighbours)) e
  where
    no : (x y : AcceptedEvent) (more earlier : List AcceptedEvent) → [] ≡ earlier ++ x ∷ y ∷ more → ⊥
    no x y more [] h = cc
    no x y more (z ∷ earlier) h = cc

-- two renames that are not linked found nothing
founded_on_strangers : {o t : PathValue} (history : List AcceptedEvent) (a b : AcceptedEvent) →
    renames history ≡ a ∷ b ∷ [] → are_linked a b ≡ false → Founded history o t → ⊥
founded_on_strangers history a b two strangers e =
    unmatched history (λ f t m. no m.first m.second m.later m.linked m.earlier (sym two ∙ m.neighbours)) e
  where
    no : (x y : AcceptedEvent) (more : List AcceptedEvent) → are_linked x y ≡ true →
        (earlier : List AcceptedEvent) → a ∷ b ∷ [] ≡ earlier ++ x ∷ y ∷ more → ⊥
    no x y more l [] h = let first : a ≡ x = cc in let second : b ≡ y = cc in
        true≢false (sym l ∙ rw (← first, ← second) strangers)
    no x y more l (z ∷ earlier) h = absurd (omega (arith, ap length h, length-append earlier (x ∷ y ∷ more)))

-- two first halves in a row found nothing
founded_on_firsts : {o t : PathValue} (history : List AcceptedEvent) (a b : AcceptedEvent) →
    renames history ≡ a ∷ b ∷ [] → case_of b.event b.exists ≡ RenameFrom → Founded history o t → ⊥
founded_on_firsts history a b two from e =
    unmatched history (λ f t m. no m.first m.second m.later m.to.case m.earlier (sym two ∙ m.neighbours)) e
  where
    no : (x y : AcceptedEvent) (more : List AcceptedEvent) → case_of y.event y.exists ≡ RenameTo →
        (earlier : List AcceptedEvent) → a ∷ b ∷ [] ≡ earlier ++ x ∷ y ∷ more → ⊥
    no x y more to [] h = let second : b ≡ y = cc in let same : RenameFrom ≡ RenameTo = sym from
        ∙ ap (λ z. case_of z.event z.exists) second ∙ to in cc
    no x y more to (z ∷ earlier) h = absurd (omega (arith, ap length h, length-append earlier (x ∷ y ∷ more)))

-- a half of a rename, with a tracker
abbrev half : RenameMode → PathValue → ℕ → AcceptedEvent
half mode p n = record {
  event = record {
    kind = Modify (modify.Name mode);
    paths = p ∷ [];
    attrs =
        record { tracker = Some n; flag = None; info = None; source = None; process_id = None };
  };
  exists = false;
  answer = None;
}

abbrev at1 : List ℕ → PathValue
at1 a = RootPart ∷ NamePart a ∷ []

abbrev at2 : List ℕ → List ℕ → PathValue
at2 a b = RootPart ∷ NamePart a ∷ NamePart b ∷ []

-- /d/x becomes /d/y, and then /d becomes /e
abbrev two_renames : List AcceptedEvent
two_renames = half rename.From (at2 (codes "d") (codes "x")) 1 ∷ half rename.To (at2 (codes "d") (codes "y"))
    1 ∷ half rename.From (at1 (codes "d")) 2 ∷ half rename.To (at1 (codes "e")) 2 ∷ []

-- so what was to be found at /e/x is now at /e/y
along : Founded two_renames (at2 (codes "e") (codes "x")) (at2 (codes "e") (codes "y"))
along = TakenAlong (Told inner) outer refl refl
  where
    inner : Matched two_renames (at2 (codes "d") (codes "x")) (at2 (codes "d") (codes "y"))
    inner = record {
      earlier = [];
      first = _;
      second = _;
      later = _;
      neighbours = refl;
      from =
          record { case = refl; path = refl };
      to = record { case = refl; path = refl };
      linked = refl;
    }

    outer : Matched two_renames (at1 (codes "d")) (at1 (codes "e"))
    outer = record {
      earlier =
          half rename.From (at2 (codes "d") (codes "x")) 1 ∷ half rename.To (at2 (codes "d") (codes "y"))
          1 ∷ [];
      first = _;
      second = _;
      later = _;
      neighbours = refl;
      from = record { case = refl; path = refl };
      to =
          record { case = refl; path = refl };
      linked = refl;
    }
