-- What moves leave of what counts as copied, and that each due one is made once. `moving` cites these.
use Rattle.std.proofs.Common.{◌≡◌, ◌∙◌, Bool, true, false, cond, not, ◌&&◌, ◌||◌, inl, inr, List, [], ◌∷◌, ◌++◌, append-nil, append_assoc, ◌==◌, length, drop, Option, None, Some, refl, sym, ap, subst, true≢false, is_eq}
use Rattle.std.specs.Prelude.{◌⊎◌, is_some, if◌then◌else◌}
use Rattle.std.specs.BTreeMap.{insert_entry, is_at}
use Rattle.std.specs.List.{list_all, list_any}
use Rattle.std.specs.Map.{remove_entry, values_of}
use Rattle.std.proofs.lemmas.Bool.{or_left, or_right, or_cases, false_from_ne_true}
use Rattle.notify_paths.specs.Path.{PathValue, path_cmp, path_eq, is_prefix}
use Rattle.notify_paths.specs.PathLaws.{path_cmp_total, path_eq_decides}
use Rattle.notify_paths.specs.PathMoves.{relocated}
use Rattle.notify_types.specs.Event.{EventValue, Timed}
use Rattle.poll_listing.specs.Near.{is_name_part}
use Rattle.debounce_model.specs.Kept.{has_first}
use Rattle.debounce_model.specs.Play.{events_of}
use Rattle.debounce_model.proofs.Entries.{lookup-insert_other}
use Rattle.debounce_laws.proofs.PathSets.{prefix_of, tied}
use Rattle.reader_paths.specs.Moves.{AreSourcesOf, MoveValue, MovesValue, is_new, is_old}
use Rattle.reader_paths.specs.Plan.Naming.{removing}
use Rattle.reader_paths.specs.Plan.{is_named, look_at, stands}
use Rattle.reader_paths.specs.Plan.Target.{is_inside, target_of}
use Rattle.reader_paths.specs.declared.plan.action.Standing.{Standing}
use Rattle.program_copy.specs.Copy.{CopiedValue}
use Rattle.program_copy.specs.Looked.{Sees}
use Rattle.program_copy.specs.Moving.{AreMade, ChangesBoth, IsAsked, IsMade, IsToldOrLeft, LeavesOthers, MovesAlone, is_any_old}

-- paths of which one passes a test and the other doesn't are not tied
apart : (test : PathValue → Bool) (p q : PathValue) → test p ≡ true → test q ≡ false → is_at (path_cmp q) p ≡ false
apart test p q passes fails = by (is_at (path_cmp q) p) refl
  where
    by : (b : Bool) → is_at (path_cmp q) p ≡ b → b ≡ false
    by true h = absurd (true≢false (sym passes ∙ sym (ap test (tied q p h)) ∙ fails))
    by false h = refl

-- what is taken out at one path is no matter at another
look_at-gone : {V : Type 0} (s : List (PathValue × V)) (p q : PathValue) → is_at (path_cmp q) p ≡ false →
    look_at (remove_entry (is_at (path_cmp p)) s) q ≡ look_at s q
look_at-gone [] p q n = refl
look_at-gone {V} (e ∷ s) p q n = by (is_at (path_cmp p) e.0) refl (look_at-gone s p q n)
  where
    by : (b : Bool) → is_at (path_cmp p) e.0 ≡ b →
        look_at (remove_entry (is_at (path_cmp p)) s) q ≡ look_at s q →
        look_at (cond b s (e ∷ remove_entry (is_at (path_cmp p)) s)) q ≡ look_at (e ∷ s) q
    by true h more =
        let other : is_at (path_cmp q) e.0 ≡ false = ap (λ r. is_at (path_cmp q) r) (sym (tied p e.0 h)) ∙ n in
        sym (ap (λ b. cond b (Some e.1) (look_at s q)) other)
    by false h more = ap (λ o. cond (is_at (path_cmp q) e.0) (Some e.1) o) more

-- the copied paths with one at another place
abbrev pub carried : CopiedValue → PathValue → PathValue → Standing → CopiedValue
carried copied old new standing = insert_entry path_cmp (remove_entry (is_at (path_cmp old)) copied) new standing

-- .. are the same at paths that are neither
carried_other : (copied : CopiedValue) (old new : PathValue) (standing : Standing) (q : PathValue) →
    is_at (path_cmp q) old ≡ false → is_at (path_cmp q) new ≡ false →
    look_at (carried copied old new standing) q ≡ look_at copied q
carried_other copied old new standing q a b =
    lookup-insert_other path_cmp_total (remove_entry (is_at (path_cmp old)) copied) new q standing b
    ∙ look_at-gone copied old q a

-- both are true, so the last of three is
and_last : (a b c : Bool) → (a && (b && c)) ≡ true → b ≡ true
and_last true true c h = refl
and_last true false c h = h
and_last false b c h = absurd (true≢false (sym h))

-- a path that has its place below another lies below the one, and the place below the other
placed : (from to path new : PathValue) → target_of from to path ≡ Some new →
    (is_prefix from path ≡ true) × (is_prefix to new ≡ true)
placed from to path new h = by (is_inside from path) refl h
  where
    by : (b : Bool) → is_inside from path ≡ b → (if b then Some (relocated from to path) else None) ≡ Some new →
        (is_prefix from path ≡ true) × (is_prefix to new ≡ true)
    by true e h =
        let at : new ≡ relocated from to path = cc in
        (and_last _ (is_prefix from path) _ e, prefix_of to new (drop (length from) path, at))
    by false e h = let no : None ≡ Some new = h in absurd (true≢false (sym (ap is_some no)))

-- one path is carried over
carried_both : (move : MoveValue) (copied : CopiedValue) (old new : PathValue) (standing : Standing) →
    is_prefix move.from old ≡ true → is_prefix move.to new ≡ true →
    ChangesBoth move copied (carried copied old new standing)
carried_both move copied old new standing a b = λ q h.
    carried_other copied old new standing q (apart (is_prefix move.from) old q a (no_left _ _ h))
    (apart (is_prefix move.to) new q b (no_right _ _ h))
  where
    no_left : (x y : Bool) → (x || y) ≡ false → x ≡ false
    no_left true y h = h
    no_left false y h = refl

    no_right : (x y : Bool) → (x || y) ≡ false → y ≡ false
    no_right true y h = absurd (true≢false h)
    no_right false y h = h

-- .. and changes nothing else
pub both_then : (move : MoveValue) (a b c : CopiedValue) → ChangesBoth move a b → ChangesBoth move b c →
    ChangesBoth move a c
both_then move a b c first last = λ q h. last q h ∙ first q h

-- one path is carried over, and its new one is told or left
carried_others : (from : PathValue) (sources : List (PathValue × PathValue)) (copied : CopiedValue)
    (left left' : List EventValue) (old new : PathValue) (standing : Standing) → is_prefix from old ≡ true →
    IsToldOrLeft sources new left left' →
    LeavesOthers (is_prefix from) sources copied left (carried copied old new standing) left'
carried_others from sources copied left left' old new standing a told =
    record { grows = told.grows; others = λ q gone none. by q gone none (is_at (path_cmp q) new) refl }
  where
    here : (q : PathValue) → q ≡ new → stands (look_at sources) q ≡ false →
        (stands (look_at sources) new ≡ true) ⊎ (is_named left' new ≡ true) → is_named left' q ≡ true
    here q e none (inl t) = absurd (true≢false (sym t ∙ sym (ap (stands (look_at sources)) e) ∙ none))
    here q e none (inr n) = ap (is_named left') e ∙ n

    by : (q : PathValue) → is_prefix from q ≡ false → stands (look_at sources) q ≡ false → (b : Bool) →
        is_at (path_cmp q) new ≡ b →
        (is_named left' q ≡ true) ⊎ (look_at (carried copied old new standing) q ≡ look_at copied q)
    by q gone none true h = inl (here q (tied q new h) none told.told)
    by q gone none false h =
        inr (carried_other copied old new standing q (apart (is_prefix from) old q a gone) h)

-- what has a source is told, and nothing is left for it
pub told_here : (sources : List (PathValue × PathValue)) (path : PathValue) (left : List EventValue) →
    stands (look_at sources) path ≡ true → IsToldOrLeft sources path left left
told_here sources path left h = record { told = inl h; grows = λ q named. named }

-- a path is named at the end, and so is what was
named_both : (left : List Timed) (path q : PathValue) →
    is_named (events_of (left ++ removing path ∷ [])) q ≡ (is_named (events_of left) q || path_eq q path)
named_both [] path q = by (path_eq q path)
  where
    by : (b : Bool) → (b || false) ≡ (false || b)
    by true = refl
    by false = refl
named_both (x ∷ left) path q =
    ap (λ b. has_first (λ p. path_eq q p) x.event.paths || b) (named_both left path q)
    ∙ by (has_first (λ p. path_eq q p) x.event.paths)
  where
    by : (a : Bool) → (a || (is_named (events_of left) q || path_eq q path))
        ≡ ((a || is_named (events_of left) q) || path_eq q path)
    by true = refl
    by false = refl

-- what is left names the path that was added
pub named_left : (sources : List (PathValue × PathValue)) (path : PathValue) (left left' : List Timed) →
    left' ≡ left ++ removing path ∷ [] → IsToldOrLeft sources path (events_of left) (events_of left')
named_left sources path left left' e = record {
  told = inr (ap (λ xs. is_named (events_of xs) path) e ∙ named_both left path path
      ∙ or_right (is_named (events_of left) path) (path_eq path path) ((path_eq_decides path path).1 refl));
  grows = λ q named. ap (λ xs. is_named (events_of xs) q) e ∙ named_both left path q
      ∙ or_left (is_named (events_of left) q) (path_eq q path) named;
}

-- where nothing is done, nothing changes
pub others_none : (is_gone : PathValue → Bool) (sources : List (PathValue × PathValue)) (copied : CopiedValue)
    (left : List EventValue) → LeavesOthers is_gone sources copied left copied left
others_none is_gone sources copied left = record { grows = λ q h. h; others = λ q gone none. inr refl }

-- one change after another
pub others_then : (a b c : PathValue → Bool) (sources : List (PathValue × PathValue)) (k k1 k2 : CopiedValue)
    (l l1 l2 : List EventValue) → ((q : PathValue) → c q ≡ false → (a q ≡ false) × (b q ≡ false)) →
    LeavesOthers a sources k l k1 l1 → LeavesOthers b sources k1 l1 k2 l2 → LeavesOthers c sources k l k2 l2
others_then a b c sources k k1 k2 l l1 l2 wide first last = record {
  grows = λ q h. last.grows q (first.grows q h);
  others = λ q gone none.
      by q (first.others q (wide q gone).0 none) (last.others q (wide q gone).1 none);
}
  where
    by : (q : PathValue) → (is_named l1 q ≡ true) ⊎ (look_at k1 q ≡ look_at k q) →
        (is_named l2 q ≡ true) ⊎ (look_at k2 q ≡ look_at k1 q) →
        (is_named l2 q ≡ true) ⊎ (look_at k2 q ≡ look_at k q)
    by q (inl n) more = inl (last.grows q n)
    by q (inr e) (inl n) = inl n
    by q (inr e) (inr f) = inr (f ∙ e)

-- .. of one move
pub others_more : (is_gone : PathValue → Bool) (sources : List (PathValue × PathValue)) (k k1 k2 : CopiedValue)
    (l l1 l2 : List EventValue) → LeavesOthers is_gone sources k l k1 l1 → LeavesOthers is_gone sources k1 l1 k2 l2 →
    LeavesOthers is_gone sources k l k2 l2
others_more g sources k k1 k2 l l1 l2 first last =
    others_then g g g sources k k1 k2 l l1 l2 (λ q h. (h, h)) first last

-- .. from an equal beginning
pub others_moved : (is_gone : PathValue → Bool) (sources : List (PathValue × PathValue)) (k k1 k2 : CopiedValue)
    (l l2 : List EventValue) → k1 ≡ k → LeavesOthers is_gone sources k1 l k2 l2 → LeavesOthers is_gone sources k l k2 l2
others_moved g sources k k1 k2 l l2 same last = subst (λ m. LeavesOthers g sources m l k2 l2) same last

-- what the copy was asked for, and what counts as copied then
pub asked_moved : {C : Type 0} (moves : C → PathValue → PathValue → C → Type 0) (m : MoveValue) (c c1 c2 : C)
    (k k1 k2 : CopiedValue) → moves c m.from m.to c1 → c2 ≡ c1 → k1 ≡ k → ChangesBoth m k1 k2 →
    IsAsked moves true m c k c2 k2
asked_moved moves m c c1 c2 k k1 k2 asked same before both =
    (subst (λ d. moves c m.from m.to d) (sym same) asked, subst (λ x. ChangesBoth m x k2) before both)

-- a path that was carried to its place
pub carry_both : (m : MoveValue) (k k' : CopiedValue) (path new : PathValue) (standing : Standing) →
    target_of m.from m.to path ≡ Some new → k' ≡ carried k path new standing → ChangesBoth m k k'
carry_both m k k' path new standing there e =
    let lies = placed m.from m.to path new there in
    subst (ChangesBoth m k) (sym e) (carried_both m k path new standing lies.0 lies.1)

-- .. and is told or left
pub carry_others : (m : MoveValue) (sources : List (PathValue × PathValue)) (k k' : CopiedValue)
    (l l' : List EventValue) (path new : PathValue) (standing : Standing) → target_of m.from m.to path ≡ Some new →
    k' ≡ carried k path new standing → IsToldOrLeft sources new l l' →
    LeavesOthers (is_prefix m.from) sources k l k' l'
carry_others m sources k k' l l' path new standing there e told =
    let lies = placed m.from m.to path new there in
    subst (λ x. LeavesOthers (is_prefix m.from) sources k l x l') (sym e)
    (carried_others m.from sources k l l' path new standing lies.0 told)

-- ---- the moves of a batch

-- of all moves, those but the rest were made
abbrev pub MadeSoFar : {C : Type 0} → (C → Sees) → (C → PathValue → PathValue → C → Type 0) →
    List (PathValue × PathValue) → List MoveValue → List MoveValue → C → CopiedValue → List EventValue → C →
    CopiedValue → List EventValue → Type 0
MadeSoFar sees moves sources all rest copy copied left copy' copied' left' =
    (done : List MoveValue) × (done ++ rest ≡ all) × AreMade sees moves done copy copied copy' copied'
    × LeavesOthers (is_any_old done) sources copied left copied' left'

-- at first none was
pub made_first : {C : Type 0} (sees : C → Sees) (moves : C → PathValue → PathValue → C → Type 0)
    (sources : List (PathValue × PathValue)) (all : List MoveValue) (copy : C) (copied : CopiedValue)
    (left : List EventValue) → MadeSoFar sees moves sources all all copy copied left copy copied left
made_first sees moves sources all copy copied left =
    ([], refl, (refl, refl), others_none (is_any_old []) sources copied left)

-- one more at the end
made_last : {C : Type 0} (sees : C → Sees) (moves : C → PathValue → PathValue → C → Type 0) (done : List MoveValue)
    (m : MoveValue) (c : C) (k : CopiedValue) (c1 : C) (k1 : CopiedValue) (c2 : C) (k2 : CopiedValue) →
    AreMade sees moves done c k c1 k1 → IsMade sees moves m c1 k1 c2 k2 →
    AreMade sees moves (done ++ m ∷ []) c k c2 k2
made_last sees moves [] m c k c1 k1 c2 k2 so_far made = (
  c2,
  k2,
  subst (λ y. IsMade sees moves m c y c2 k2) so_far.1
      (subst (λ x. IsMade sees moves m x k1 c2 k2) so_far.0 made),
  (refl, refl),
)
made_last sees moves (d ∷ done) m c k c1 k1 c2 k2 so_far made =
    (so_far.0, so_far.1, so_far.2, made_last sees moves done m so_far.0 so_far.1 c1 k1 c2 k2 so_far.3 made)

-- what lies below no old path of these lies below none of those before the last, nor below the last's
any_both : (done : List MoveValue) (m : MoveValue) (q : PathValue) → is_any_old (done ++ m ∷ []) q ≡ false →
    (is_any_old done q ≡ false) × (is_prefix m.from q ≡ false)
any_both [] m q h = (refl, by (is_prefix m.from q) h)
  where
    by : (a : Bool) → (a || false) ≡ false → a ≡ false
    by true h = h
    by false h = refl
any_both (d ∷ done) m q h = by (is_prefix d.from q) h (any_both done m q)
  where
    by : (a : Bool) → (a || is_any_old (done ++ m ∷ []) q) ≡ false →
        (is_any_old (done ++ m ∷ []) q ≡ false → (is_any_old done q ≡ false) × (is_prefix m.from q ≡ false)) →
        ((a || is_any_old done q) ≡ false) × (is_prefix m.from q ≡ false)
    by true h more = absurd (true≢false h)
    by false h more = more h

-- one more
pub made_next : {C : Type 0} (sees : C → Sees) (moves : C → PathValue → PathValue → C → Type 0)
    (sources : List (PathValue × PathValue)) (all : List MoveValue) (m : MoveValue) (rest : List MoveValue) (c : C)
    (k : CopiedValue) (l : List EventValue) (c1 : C) (k1 : CopiedValue) (l1 : List EventValue) (c2 : C)
    (k2 : CopiedValue) (l2 : List EventValue) → MadeSoFar sees moves sources all (m ∷ rest) c k l c1 k1 l1 →
    IsMade sees moves m c1 k1 c2 k2 → LeavesOthers (is_prefix m.from) sources k1 l1 k2 l2 →
    MadeSoFar sees moves sources all rest c k l c2 k2 l2
made_next sees moves sources all m rest c k l c1 k1 l1 c2 k2 l2 so_far made others =
    let done = so_far.0 in (
      done ++ m ∷ [],
      append_assoc done (m ∷ []) rest ∙ so_far.1,
      made_last sees moves done m c k c1 k1 c2 k2 so_far.2 made,
      others_then (is_any_old done) (is_prefix m.from) (is_any_old (done ++ m ∷ [])) sources k k1 k2 l l1 l2
          (any_both done m) so_far.3 others,
    )

-- at the end all were
pub made_all : {C : Type 0} (sees : C → Sees) (moves : C → PathValue → PathValue → C → Type 0)
    (sources : List (PathValue × PathValue)) (all rest : List MoveValue) (c : C) (k : CopiedValue)
    (l : List EventValue) (c' : C) (k' : CopiedValue) (l' : List EventValue) → rest ≡ [] →
    MadeSoFar sees moves sources all rest c k l c' k' l' →
    AreMade sees moves all c k c' k' × LeavesOthers (is_any_old all) sources k l k' l'
made_all sees moves sources all rest c k l c' k' l' none so_far =
    let done = so_far.0 in
    let same : done ≡ all = sym (append-nil done) ∙ ap (λ r. done ++ r) (sym none) ∙ so_far.1 in (
      subst (λ d. AreMade sees moves d c k c' k') same so_far.2,
      subst (λ d. LeavesOthers (is_any_old d) sources k l k' l') same so_far.3,
    )

-- the old paths of moves, by their values
any_value : (moves : MovesValue) (q : PathValue) → is_any_old (values_of moves) q ≡ is_old moves q
any_value [] q = refl
any_value (m ∷ moves) q = ap (λ b. is_prefix m.1.from q || b) (any_value moves q)

-- moves leave what neither moved nor is told, if the sources are those that the events tell
pub moves_alone : (moves : MovesValue) (events : List EventValue) (sources : List (PathValue × PathValue))
    (old new : CopiedValue) (left left' : List EventValue) → AreSourcesOf moves events sources →
    LeavesOthers (is_any_old (values_of moves)) sources old left new left' → MovesAlone moves events left' old new
moves_alone moves events sources old new left left' are leave = λ q gone none.
    leave.others q (any_value moves q ∙ gone) (ap is_some (are q) ∙ none)
