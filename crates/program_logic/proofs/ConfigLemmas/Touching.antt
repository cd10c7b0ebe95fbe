-- What the tests of events decide. The functions that test batches cite these.
use Rattle.std.proofs.Common.{◌≡◌, ◌∙◌, sym, ap, refl, true≢false, ◌⊎◌, inl, inr, Bool, true, false, ◌&&◌, ◌||◌}
use Rattle.std.proofs.Common.{List, [], ◌∷◌, ◌++◌, append-nil, length, take, drop, take-append-drop, is_some}
use Rattle.std.specs.Bool.{Decides}
use Rattle.std.specs.List.{Any, list_any}
use Rattle.std.specs.Cmp.Lexicographic.{pointwise_decides}
use Rattle.std.proofs.lemmas.List.Folds.{Any-from_list_any, list_any-from_Any}
use Rattle.std.proofs.Math.Seq.{take-append_seam}
use Rattle.notify_types.specs.Event.{Timed}
use Rattle.notify_paths.specs.Path.{PathValue, path_eq, is_prefix}
use Rattle.notify_paths.specs.PathLaws.{part_eq_decides, path_eq_decides}
use Rattle.notify_types.specs.declared.kind.EventKind.{EventKind}
use Rattle.debounce_model.specs.Kept.{has_first, stands_for, is_among}
use Rattle.program_logic.specs.Config.Touched.{touches, LiesIn, MayConcern, Touches}

-- what a test decides of each element, the search for one decides of the list
any_decides : {X : Type 0} (test : X → Bool) (P : X → Type 0) → ((x : X) → Decides (test x) (P x))
    → (xs : List X) → Decides (list_any test xs) (Any P xs)
any_decides test P each xs = (
  λ h. let (k, x, below, is, passes) = Any-from_list_any test xs h in (k, x, below, is, (each x).0 passes),
  λ h. let (k, x, below, is, holds) = h in list_any-from_Any test xs (k, x, below, is, (each x).1 holds),
)

-- an answer of two tests
or_decides : (a b : Bool) (P Q : Type 0) → Decides a P → Decides b Q → Decides (a || b) (P ⊎ Q)
or_decides true b P Q p q = (λ _. inl (p.0 refl), λ _. refl)
or_decides false b P Q p q = (
  λ h. inr (q.0 h),
  λ h. elim h [ inl x ↦ absurd (true≢false (sym (p.1 x))) | inr y ↦ q.1 y ],
)

-- a path is a prefix of the file's if the file lies at it or in it
prefix_decides : (path file : PathValue) → Decides (is_prefix path file) (LiesIn file path)
prefix_decides path file = (
  λ h.
      let front = (pointwise_decides part_eq_decides path (take (length path) file)).0 h in (
        drop (length path) file,
        sym (take-append-drop (length path) file)
            ∙ ap (λ p. p ++ drop (length path) file) (sym front),
      ),
  λ h.
      let (further, is) = h in
      (pointwise_decides part_eq_decides path (take (length path) file)).1
      (rw is (sym (take-append_seam path further))),
)

-- the test of an event
touches_decides : (file : PathValue) (x : Timed) → Decides (touches file x) (MayConcern file x.event)
touches_decides file x =
    or_decides (is_some x.event.attrs.flag) _ _ _ (λ h. h, λ h. h)
    (any_decides (λ path. is_prefix path file) (λ path. LiesIn file path)
    (λ path. prefix_decides path file) x.event.paths)

-- the test of a batch
pub batch_decides : (file : PathValue) (batch : List Timed)
    → Decides (list_any (touches file) batch) (Touches file batch)
batch_decides file batch =
    any_decides (touches file) (λ x. MayConcern file x.event) (touches_decides file) batch

-- a part of a conjunction
pub and_left : (a b : Bool) → (a && b) ≡ true → a ≡ true
and_left true b h = refl
and_left false b h = h

-- parts of a disjunction
or_left : (a b : Bool) → a ≡ true → (a || b) ≡ true
or_left true b h = refl
or_left false b h = absurd (true≢false (sym h))

or_right : (a b : Bool) → b ≡ true → (a || b) ≡ true
or_right true b h = refl
or_right false b h = h

-- an event whose first path is the file names it
first_names : (file : PathValue) (paths : List PathValue) → has_first (λ p. path_eq p file) paths ≡ true
    → list_any (λ path. is_prefix path file) paths ≡ true
first_names file [] h = h
first_names file (path ∷ paths) h =
    let same : path ≡ file = (path_eq_decides path file).0 h in
    or_left (is_prefix path file) _ ((prefix_decides path file).1 ([], sym same ∙ sym (append-nil path)))

-- a batch in which a change of the file is found is about the file
pub among_touches : (file : PathValue) (kind : EventKind) (batch : List Timed)
    → is_among file kind batch ≡ true → list_any (touches file) batch ≡ true
among_touches file kind batch h =
    let (k, x, below, is, found) = Any-from_list_any _ batch h in
    let names = first_names file x.event.paths (and_left _ (stands_for kind x) found) in
    list_any-from_Any (touches file) batch (k, x, below, is, or_right (is_some x.event.attrs.flag) _ names)
