-- What the actions of a plan leave of a copy's paths, read at one path. `plan` cites the last three lemmas.
use Rattle.std.proofs.Common.{◌≡◌, Bool, true, false, cond, not, ◌&&◌, ◌||◌, inl, inr, ⊎_elim, List, [], ◌∷◌, ◌++◌, append_assoc, append-nil, Option, None, Some, refl, sym, ap, subst, ◌∙◌, true≢false, is_eq}
use Rattle.std.specs.Prelude.{is_some, if◌then◌else◌}
use Rattle.std.specs.List.{list_any, AllByRecursion}
use Rattle.std.specs.List.Sorted.{IsStrictlySortedBy}
use Rattle.std.proofs.lemmas.Bool.{and_parts, or_left, or_right, or_cases, false_from_ne_true}
use Rattle.notify_paths.specs.Path.{PathValue, path_cmp, path_eq, is_prefix}
use Rattle.notify_paths.specs.PathLaws.{path_cmp_total, path_eq_decides, path_eq_equiv, path_matches_eq}
use Rattle.notify_types.specs.Event.{EventValue}
use Rattle.notify_types.specs.Kinds.{is_creation, is_removal}
use Rattle.notify_types.specs.declared.kind.EventKind.{EventKind}
use Rattle.notify_types.specs.declared.kind.EventKind.TheVariants as kinds
use Rattle.debounce_model.specs.Honest.{is_closed}
use Rattle.debounce_model.specs.Kept.{has_first}
use Rattle.debounce_model.specs.Play.{Paths, has_path, play, with_path, without_at}
use Rattle.debounce_model.proofs.OrderUnique.{Has, same_from_within}
use Rattle.debounce_laws.proofs.PathSets.{has_with, has_without, prefix_of, below_prefix, sorted_with, sorted_without, tied, tied_to_itself}
use Rattle.debounce_laws.proofs.Folders.{closed_under}
use Rattle.debounce_laws.proofs.PlayAt.{creates_at, clears_at, play_here, sorted_play}
use Rattle.debounce_laws.proofs.Settling.{here}
use Rattle.reader_paths.specs.Plan.Action.{ActionValue, carried_at, carried}
use Rattle.reader_paths.specs.Plan.{Look, Stands, stands, goes_at, removal_of, copy_if, removals_first, removals, wanted_first, wanted_from, wanted, copies, planned, goes_first, goes, is_named, is_covered, AgreesWith, ActsAsPlayed, LeavesWhatStands, KeepsOthers}
use Rattle.reader_paths.specs.declared.plan.action.Standing.{Standing}

-- ---- actions, one after the other

-- actions in a row are carried out one after the other
carried-append : (s : Paths) (xs ys : List ActionValue) → carried s (xs ++ ys) ≡ carried (carried s xs) ys
carried-append s [] ys = refl
carried-append s (x ∷ xs) ys = carried-append (carried_at s x.path x.wanted) xs ys

-- a copy stays in order by what is wanted at a path
sorted_at : (s : Paths) (p : PathValue) (wanted : Option Standing) → IsStrictlySortedBy path_cmp s →
    IsStrictlySortedBy path_cmp (carried_at s p wanted)
sorted_at s p None h = sorted_without s (λ q. not (is_prefix p q)) h
sorted_at s p (Some standing) h = sorted_with s p h

-- .. by actions
sorted_carried : (s : Paths) (xs : List ActionValue) → IsStrictlySortedBy path_cmp s →
    IsStrictlySortedBy path_cmp (carried s xs)
sorted_carried s [] h = h
sorted_carried s (x ∷ xs) h = sorted_carried (carried_at s x.path x.wanted) xs (sorted_at s x.path x.wanted h)

-- ---- the copy's paths at one path

-- the removals of one event, read at a path
removed_first : (look : Look) (kind : EventKind) (ps : List PathValue) (s : Paths) (q : PathValue) →
    has_path (carried s (removals_first look kind ps)) q ≡ (not (goes_first (stands look) kind q ps) && has_path s q)
removed_first look kind [] s q = refl
removed_first look kind (p ∷ ps) s q = by (goes_at kind (stands look p))
  where
    by : (b : Bool) → has_path (carried s (removal_of (if b then Some p else None))) q
        ≡ (not (b && is_prefix p q) && has_path s q)
    by true = has_without s p q
    by false = refl

-- the removals of events, read at a path
removed : (look : Look) (es : List EventValue) (s : Paths) (q : PathValue) →
    has_path (carried s (removals look es)) q ≡ (has_path s q && not (goes (stands look) es q))
removed look [] s q = by (has_path s q)
  where
    by : (b : Bool) → b ≡ (b && true)
    by true = refl
    by false = refl
removed look (e ∷ es) s q =
    let first = removals_first look e.kind e.paths in
    let gone : Bool = goes (stands look) es q in
    ap (λ (t : Paths). has_path t q) (carried-append s first (removals look es))
    ∙ removed look es (carried s first) q
    ∙ ap (λ b. b && not gone) (removed_first look e.kind e.paths s q)
    ∙ by (goes_first (stands look) e.kind q e.paths) gone (has_path s q)
  where
    by : (a b c : Bool) → ((not a && c) && not b) ≡ (c && not (a || b))
    by true b true = refl
    by true b false = refl
    by false b c = refl

-- the copies of what stands at paths, read at a path
copied : (look : Look) (ps : Paths) (s : Paths) (q : PathValue) →
    has_path (carried s (copies look ps)) q ≡ ((stands look q && has_path ps q) || has_path s q)
copied look [] s q = by (stands look q)
  where
    by : (a : Bool) {b : Bool} → b ≡ ((a && false) || b)
    by true = refl
    by false = refl
copied look (p ∷ ps) s q =
    ap (λ (t : Paths). has_path t q) (carried-append s (copy_if (look p) p) (copies look ps))
    ∙ copied look ps (carried s (copy_if (look p) p)) q
    ∙ ap (λ b. (stands look q && has_path ps q) || b)
    (first (look p) ∙ ap (λ b. b || has_path s q) (same (path_eq q p) refl))
    ∙ joined (stands look q) (has_path ps q) (path_eq q p) (has_path s q)
    ∙ ap (λ b. (stands look q && (b || has_path ps q)) || has_path s q) (path_matches_eq q p)
  where
    first : (f : Option Standing) → has_path (carried s (copy_if f p)) q ≡ ((is_some f && path_eq q p) || has_path s q)
    first None = refl
    first (Some standing) = has_with s p q

    and_no : (a : Bool) → (a && false) ≡ false
    and_no true = refl
    and_no false = refl

    same : (b : Bool) → path_eq q p ≡ b → (stands look p && path_eq q p) ≡ (stands look q && path_eq q p)
    same true e = ap (λ r. stands look r && path_eq q p) (sym ((path_eq_decides q p).0 e))
    same false e = rw e (and_no (stands look p) ∙ sym (and_no (stands look q)))

    joined : (a h e b : Bool) → ((a && h) || ((a && e) || b)) ≡ ((a && (e || h)) || b)
    joined true true true b = refl
    joined true true false b = refl
    joined true false e b = by e
      where
        by : (e : Bool) → (e || b) ≡ ((e || false) || b)
        by true = refl
        by false = refl
    joined false h e b = refl

-- a plan, read at a path
planned_at : (look : Look) (es : List EventValue) (s : Paths) (q : PathValue) →
    has_path (carried s (planned look es)) q
    ≡ ((stands look q && has_path (wanted es) q) || (has_path s q && not (goes (stands look) es q)))
planned_at look es s q =
    ap (λ (t : Paths). has_path t q) (carried-append s (removals look es) (copies look (wanted es)))
    ∙ copied look (wanted es) (carried s (removals look es)) q
    ∙ ap (λ b. (stands look q && has_path (wanted es) q) || b) (removed look es s q)

-- ---- what a reader has

-- what is there stays there, if nothing clears it
stays : {X : Type 0} (c r : X → Bool) (xs : List X) → list_any r xs ≡ false → here c r true xs ≡ true
stays c r [] h = refl
stays c r (x ∷ xs) h = by (c x) (r x) h (stays c r xs)
  where
    by : (a b : Bool) → (b || list_any r xs) ≡ false → (list_any r xs ≡ false → here c r true xs ≡ true) →
        here c r (cond a true (cond b false true)) xs ≡ true
    by true true h more = absurd (true≢false h)
    by true false h more = more h
    by false true h more = absurd (true≢false h)
    by false false h more = more h

-- at a path that no event names first a reader has what was there, unless an event clears it
unnamed_here : (es : List EventValue) (q : PathValue) (b : Bool) → is_named es q ≡ false →
    here (creates_at q) (clears_at q) b es ≡ (b && not (list_any (clears_at q) es))
unnamed_here [] q b n = by b
  where
    by : (b : Bool) → b ≡ (b && true)
    by true = refl
    by false = refl
unnamed_here (e ∷ es) q b n =
    let two = or_parts (has_first (λ p. path_eq q p) e.paths) (is_named es q) n in
    ap (λ a. here (creates_at q) (clears_at q) (cond a true (cond (clears_at q e) false b)) es)
    (not_created (is_creation e.kind) two.0)
    ∙ unnamed_here es q (cond (clears_at q e) false b) two.1
    ∙ by (clears_at q e) b (list_any (clears_at q) es)
  where
    or_parts : (a b : Bool) → (a || b) ≡ false → (a ≡ false) × (b ≡ false)
    or_parts true b h = absurd (true≢false h)
    or_parts false b h = (refl, h)

    not_created : (a : Bool) {b : Bool} → b ≡ false → (a && b) ≡ false
    not_created true h = h
    not_created false h = refl

    by : (a b c : Bool) → (cond a false b && not c) ≡ (b && not (a || c))
    by true true c = refl
    by true false c = refl
    by false b c = refl

-- ---- what is named, and what isn't

-- an event that is no removal names the path first
abbrev wants_at : PathValue → EventValue → Bool
wants_at p e = not (is_removal e.kind) && has_first (λ q. path_eq p q) e.paths

-- one event, read at a path
wanted_one : (s : Paths) (e : EventValue) (p : PathValue) → has_path (wanted_first s e.kind e.paths) p
    ≡ cond (wants_at p e) true (cond (clears_at p e) false (has_path s p))
wanted_one s e p = by e.paths
  where
    unnamed : (c r b : Bool) → b ≡ cond (c && false) true (cond (r && false) false b)
    unnamed true true b = refl
    unnamed true false b = refl
    unnamed false true b = refl
    unnamed false false b = refl

    or_cond : (a b : Bool) → (a || b) ≡ cond a true b
    or_cond true b = refl
    or_cond false b = refl

    and_cond : (a b : Bool) → (not a && b) ≡ cond a false b
    and_cond true b = refl
    and_cond false b = refl

    at : (q : PathValue) (removes : Bool) →
        has_path (if removes then without_at s q else with_path s q) p
        ≡ cond (not removes && path_eq p q) true (cond (removes && is_prefix q p) false (has_path s p))
    at q true = has_without s q p ∙ and_cond (is_prefix q p) (has_path s p)
    at q false = has_with s q p ∙ or_cond (path_eq p q) (has_path s p)

    by : (ps : List PathValue) → has_path (wanted_first s e.kind ps) p
        ≡ cond (not (is_removal e.kind) && has_first (λ q. path_eq p q) ps) true
        (cond (is_removal e.kind && has_first (λ q. is_prefix q p) ps) false (has_path s p))
    by [] = unnamed (not (is_removal e.kind)) (is_removal e.kind) (has_path s p)
    by (q ∷ qs) = at q (is_removal e.kind)

-- the paths that events want, read at a path
wanted_here : (s : Paths) (p : PathValue) (es : List EventValue) → has_path (wanted_from s es) p
    ≡ here (wants_at p) (clears_at p) (has_path s p) es
wanted_here s p [] = refl
wanted_here s p (e ∷ es) = wanted_here (wanted_first s e.kind e.paths) p es
    ∙ ap (λ b. here (wants_at p) (clears_at p) b es) (wanted_one s e p)

-- a path that no event names first isn't wanted
pub unnamed_not_wanted : (es : List EventValue) (q : PathValue) → is_named es q ≡ false → has_path (wanted es) q ≡ false
unnamed_not_wanted es q n = wanted_here [] q es ∙ by es n
  where
    or_parts : (a b : Bool) → (a || b) ≡ false → (a ≡ false) × (b ≡ false)
    or_parts true b h = absurd (true≢false h)
    or_parts false b h = (refl, h)

    not_wanted : (a : Bool) {b : Bool} → b ≡ false → (not a && b) ≡ false
    not_wanted true h = refl
    not_wanted false h = h

    same : (a : Bool) → cond a false false ≡ false
    same true = refl
    same false = refl

    by : (fs : List EventValue) → is_named fs q ≡ false → here (wants_at q) (clears_at q) false fs ≡ false
    by [] h = refl
    by (f ∷ fs) h =
        let two = or_parts (has_first (λ p. path_eq q p) f.paths) (is_named fs q) h in
        ap (λ a. here (wants_at q) (clears_at q) (cond a true (cond (clears_at q f) false false)) fs)
        (not_wanted (is_removal f.kind) two.0)
        ∙ ap (λ b. here (wants_at q) (clears_at q) b fs) (same (clears_at q f))
        ∙ by fs two.1

-- a named path that no event clears is wanted
named_wanted : (es : List EventValue) (q : PathValue) (b : Bool) → is_named es q ≡ true →
    list_any (clears_at q) es ≡ false → here (wants_at q) (clears_at q) b es ≡ true
named_wanted [] q b n c = absurd (true≢false (sym n))
named_wanted (e ∷ es) q b n c =
    let two = or_parts (clears_at q e) (list_any (clears_at q) es) c in
    ⊎_elim (λ now. ap (λ a. here (wants_at q) (clears_at q) (cond a true (cond (clears_at q e) false b)) es)
    (first (is_removal e.kind) e.paths two.0 now) ∙ stays (wants_at q) (clears_at q) es two.1)
    (λ later. named_wanted es q (cond (wants_at q e) true (cond (clears_at q e) false b)) later two.1)
    (or_cases (has_first (λ p. path_eq q p) e.paths) (is_named es q) n)
  where
    or_parts : (a b : Bool) → (a || b) ≡ false → (a ≡ false) × (b ≡ false)
    or_parts true b h = absurd (true≢false h)
    or_parts false b h = (refl, h)

    first : (removes : Bool) (ps : List PathValue) → (removes && has_first (λ p. is_prefix p q) ps) ≡ false →
        has_first (λ p. path_eq q p) ps ≡ true → (not removes && has_first (λ p. path_eq q p) ps) ≡ true
    first false ps kept now = now
    first true [] kept now = absurd (true≢false (sym now))
    first true (p ∷ ps) kept now =
        let same : q ≡ p = (path_eq_decides q p).0 now in
        let at : is_prefix p q ≡ true =
        subst (λ r. is_prefix r q ≡ true) same (prefix_of q q ([], sym (append-nil q))) in
        absurd (true≢false (sym at ∙ kept))

-- where a reader has what wasn't there before, an event names it first
had_is_named : (es : List EventValue) (q : PathValue) → here (creates_at q) (clears_at q) false es ≡ true →
    is_named es q ≡ true
had_is_named es q h = by (is_named es q) refl
  where
    by : (n : Bool) → is_named es q ≡ n → n ≡ true
    by true n = refl
    by false n = absurd (true≢false (sym h ∙ unnamed_here es q false n))

-- what a reader has of a path that an event clears is wanted
cleared_wanted : (es : List EventValue) (q : PathValue) (b c : Bool) → list_any (clears_at q) es ≡ true →
    here (creates_at q) (clears_at q) b es ≡ true → here (wants_at q) (clears_at q) c es ≡ true
cleared_wanted [] q b c r h = absurd (true≢false (sym r))
cleared_wanted (e ∷ es) q b c r h =
    by (cond (wants_at q e) true (cond (clears_at q e) false c)) (list_any (clears_at q) es) refl
    (cleared_wanted es q (cond (creates_at q e) true (cond (clears_at q e) false b))
    (cond (wants_at q e) true (cond (clears_at q e) false c)))
  where
    none_created : (k : EventKind) (t u : Bool) → (is_removal k && t) ≡ true → (is_creation k && u) ≡ false
    none_created (kinds.Remove k) t u r = refl
    none_created k t u r = absurd (true≢false (sym r))

    gone : clears_at q e ≡ true → cond (creates_at q e) true (cond (clears_at q e) false b) ≡ false
    gone now = ap (λ a. cond a true (cond (clears_at q e) false b))
        (none_created e.kind (has_first (λ p. is_prefix p q) e.paths) (has_first (λ p. path_eq q p) e.paths) now)
        ∙ ap (λ a. cond a false b) now

    by : (d more : Bool) → list_any (clears_at q) es ≡ more → (list_any (clears_at q) es ≡ true →
        here (creates_at q) (clears_at q) (cond (creates_at q e) true (cond (clears_at q e) false b)) es ≡ true →
        here (wants_at q) (clears_at q) d es ≡ true) → here (wants_at q) (clears_at q) d es ≡ true
    by d true m later = later m h
    by d false m later =
        let now : clears_at q e ≡ true =
        ⊎_elim (λ now. now) (λ more. absurd (true≢false (sym more ∙ m)))
        (or_cases (clears_at q e) (list_any (clears_at q) es) r) in
        named_wanted es q d
        (had_is_named es q (ap (λ t. here (creates_at q) (clears_at q) t es) (sym (gone now)) ∙ h)) m

-- what a reader has of a named path is wanted
reader_wants : (es : List EventValue) (q : PathValue) (b c : Bool) → is_named es q ≡ true →
    here (creates_at q) (clears_at q) b es ≡ true → here (wants_at q) (clears_at q) c es ≡ true
reader_wants es q b c n h = by (list_any (clears_at q) es) refl
  where
    by : (r : Bool) → list_any (clears_at q) es ≡ r → here (wants_at q) (clears_at q) c es ≡ true
    by true r = cleared_wanted es q b c r h
    by false r = named_wanted es q c n r

-- a named path that isn't wanted is cleared
not_wanted_cleared : (es : List EventValue) (q : PathValue) → is_named es q ≡ true → has_path (wanted es) q ≡ false →
    list_any (clears_at q) es ≡ true
not_wanted_cleared es q n w = by (list_any (clears_at q) es) refl
  where
    by : (b : Bool) → list_any (clears_at q) es ≡ b → b ≡ true
    by true e = refl
    by false e = absurd (true≢false (sym (wanted_here [] q es ∙ named_wanted es q false n e) ∙ w))

-- a named path at which nothing stands goes
pub gone_where_named : (there : Stands) (es : List EventValue) (q : PathValue) → is_named es q ≡ true →
    there q ≡ false → goes there es q ≡ true
gone_where_named there [] q n h = absurd (true≢false (sym n))
gone_where_named there (e ∷ es) q n h =
    ⊎_elim (λ now. or_left (goes_first there e.kind q e.paths) _ (first e.paths now))
    (λ later. or_right (goes_first there e.kind q e.paths) _ (gone_where_named there es q later h))
    (or_cases (has_first (λ p. path_eq q p) e.paths) (is_named es q) n)
  where
    by : (b : Bool) → ((b || true) && true) ≡ true
    by true = refl
    by false = refl

    first : (ps : List PathValue) → has_first (λ p. path_eq q p) ps ≡ true →
        goes_first there e.kind q ps ≡ true
    first [] now = absurd (true≢false (sym now))
    first (p ∷ ps) now =
        let same : q ≡ p = (path_eq_decides q p).0 now in
        let none : there p ≡ false = ap there (sym same) ∙ h in
        let at : is_prefix p q ≡ true =
        subst (λ r. is_prefix r q ≡ true) same (prefix_of q q ([], sym (append-nil q))) in
        rw (at, none) (by (is_removal e.kind))

-- what goes lies at or below a path that an event removes, or at which nothing stands
gone_below : (look : Look) (es : List EventValue) (q : PathValue) → goes (stands look) es q ≡ true →
    list_any (clears_at q) es ≡ false → (p : PathValue) × (is_named es p ≡ true) × (is_prefix p q ≡ true)
    × (stands look p ≡ false)
gone_below look [] q g n = absurd (true≢false (sym g))
gone_below look (e ∷ es) q g n =
    let kept = or_parts (clears_at q e) (list_any (clears_at q) es) n in
    ⊎_elim (λ now. let one = first e.paths kept.0 now in
    (one.0, or_left (has_first (λ p. path_eq one.0 p) e.paths) _ one.1, one.2, one.3))
    (λ later. let more = gone_below look es q later kept.1 in
    (more.0, or_right (has_first (λ p. path_eq more.0 p) e.paths) _ more.1, more.2, more.3))
    (or_cases (goes_first (stands look) e.kind q e.paths) (goes (stands look) es q) g)
  where
    or_parts : (a b : Bool) → (a || b) ≡ false → (a ≡ false) × (b ≡ false)
    or_parts true b h = absurd (true≢false h)
    or_parts false b h = (refl, h)

    by : (r s t : Bool) → ((r || not s) && t) ≡ true → (r && t) ≡ false → (t ≡ true) × (s ≡ false)
    by true s true h k = absurd (true≢false k)
    by true s false h k = absurd (true≢false (sym h))
    by false true t h k = absurd (true≢false (sym h))
    by false false true h k = (refl, refl)
    by false false false h k = absurd (true≢false (sym h))

    first : (ps : List PathValue) → (is_removal e.kind && has_first (λ p. is_prefix p q) ps) ≡ false →
        goes_first (stands look) e.kind q ps ≡ true →
        (p : PathValue) × (has_first (λ r. path_eq p r) ps ≡ true) × (is_prefix p q ≡ true) × (stands look p ≡ false)
    first [] k now = absurd (true≢false (sym now))
    first (p ∷ ps) k now =
        let two = by (is_removal e.kind) (stands look p) (is_prefix p q) now k in
        (p, path_eq_equiv.refl p, two.0, two.1)

-- what an event removes goes
cleared_goes : (there : Stands) (es : List EventValue) (q : PathValue) → list_any (clears_at q) es ≡ true →
    goes there es q ≡ true
cleared_goes there [] q h = absurd (true≢false (sym h))
cleared_goes there (e ∷ es) q h =
    ⊎_elim (λ now. or_left (goes_first there e.kind q e.paths) _ (first e.paths now))
    (λ later. or_right (goes_first there e.kind q e.paths) _ (cleared_goes there es q later))
    (or_cases (clears_at q e) (list_any (clears_at q) es) h)
  where
    first : (ps : List PathValue) → (is_removal e.kind && has_first (λ p. is_prefix p q) ps) ≡ true →
        goes_first there e.kind q ps ≡ true
    first [] now = absurd (true≢false (sym ((and_parts (is_removal e.kind) false now).1)))
    first (p ∷ ps) now =
        let two = and_parts (is_removal e.kind) (is_prefix p q) now in
        rw (two.0, two.1) refl

-- a named path that isn't wanted goes
pub not_wanted_goes : (there : Stands) (es : List EventValue) (q : PathValue) → is_named es q ≡ true →
    has_path (wanted es) q ≡ false → goes there es q ≡ true
not_wanted_goes there es q n w = cleared_goes there es q (not_wanted_cleared es q n w)

-- an event that clears a folder of a path clears the path
clears_below : (es : List EventValue) (p q : PathValue) → is_prefix p q ≡ true → list_any (clears_at q) es ≡ false →
    list_any (clears_at p) es ≡ false
clears_below es p q below h = false_from_ne_true (list_any (clears_at p) es) (λ t. true≢false (sym (up es t) ∙ h))
  where
    further : (r : PathValue) → is_prefix r p ≡ true → is_prefix r q ≡ true
    further r rp =
        let one = below_prefix p q below in
        let two = below_prefix r p rp in
        prefix_of r q (two.0 ++ one.0, one.1 ∙ ap (λ l. l ++ one.0) two.1 ∙ append_assoc r two.0 one.0)

    first : (k : EventKind) (ps : List PathValue) → (is_removal k && has_first (λ r. is_prefix r p) ps) ≡ true →
        (is_removal k && has_first (λ r. is_prefix r q) ps) ≡ true
    first k [] now = now
    first k (r ∷ ps) now =
        let two = and_parts (is_removal k) (is_prefix r p) now in
        rw (two.0, further r two.1) refl

    up : (fs : List EventValue) → list_any (clears_at p) fs ≡ true → list_any (clears_at q) fs ≡ true
    up [] t = t
    up (f ∷ fs) t =
        ⊎_elim (λ now. or_left (clears_at q f) _ (first f.kind f.paths now))
        (λ later. or_right (clears_at q f) _ (up fs later)) (or_cases (clears_at p f) (list_any (clears_at p) fs) t)

-- ---- the laws of a plan

-- at a named path the copy has what stands there, if it is wanted
pub leaves_what_stands : (look : Look) (es : List EventValue) → LeavesWhatStands look es (planned look es)
leaves_what_stands look es = λ s q n. planned_at look es s q
    ∙ by s q n (stands look q) refl (has_path (wanted es) q) refl
  where
    none : (a b : Bool) → (a || (b && false)) ≡ a
    none true b = refl
    none false true = refl
    none false false = refl

    by : (s : Paths) (q : PathValue) → is_named es q ≡ true → (a : Bool) → stands look q ≡ a →
        (w : Bool) → has_path (wanted es) q ≡ w →
        ((a && w) || (has_path s q && not (goes (stands look) es q))) ≡ (a && w)
    by s q n true h true e = refl
    by s q n true h false e =
        rw (not_wanted_goes (stands look) es q n e) (none false (has_path s q))
    by s q n false h w e = rw (gone_where_named (stands look) es q n h) (none false (has_path s q))

-- .. and elsewhere what it had
pub keeps_others : (look : Look) (es : List EventValue) → KeepsOthers es (planned look es)
keeps_others look es = λ s q n. planned_at look es s q
    ∙ rw (unnamed_not_wanted es q (not_named es q n), gone es q n) (by (stands look q) (has_path s q))
  where
    by : (a b : Bool) → ((a && false) || (b && true)) ≡ b
    by true true = refl
    by true false = refl
    by false true = refl
    by false false = refl

    or_parts : (a b : Bool) → (a || b) ≡ false → (a ≡ false) × (b ≡ false)
    or_parts true b h = absurd (true≢false h)
    or_parts false b h = (refl, h)

    and_no : (a : Bool) {b : Bool} → b ≡ false → (a && b) ≡ false
    and_no true h = h
    and_no false h = refl

    no_equal : (p q : PathValue) → is_prefix p q ≡ false → path_eq q p ≡ false
    no_equal p q h =
        false_from_ne_true (path_eq q p)
        (λ e. let same : q ≡ p = (path_eq_decides q p).0 e in
        true≢false (sym (subst (λ r. is_prefix r q ≡ true) same (prefix_of q q ([], sym (append-nil q)))) ∙ h))

    not_named_first : (q : PathValue) (ps : List PathValue) → has_first (λ p. is_prefix p q) ps ≡ false →
        has_first (λ p. path_eq q p) ps ≡ false
    not_named_first q [] h = refl
    not_named_first q (p ∷ ps) h = no_equal p q h

    gone_first : (k : EventKind) (q : PathValue) (ps : List PathValue) → has_first (λ p. is_prefix p q) ps ≡ false →
        goes_first (stands look) k q ps ≡ false
    gone_first k q [] h = refl
    gone_first k q (p ∷ ps) h = and_no (goes_at k (stands look p)) h

    not_named : (fs : List EventValue) (q : PathValue) → is_covered fs q ≡ false → is_named fs q ≡ false
    not_named [] q n = refl
    not_named (f ∷ fs) q n = let two = or_parts (has_first (λ p. is_prefix p q) f.paths) (is_covered fs q) n in
        rw (not_named_first q f.paths two.0) (not_named fs q two.1)

    gone : (fs : List EventValue) (q : PathValue) → is_covered fs q ≡ false → goes (stands look) fs q ≡ false
    gone [] q n = refl
    gone (f ∷ fs) q n = let two = or_parts (has_first (λ p. is_prefix p q) f.paths) (is_covered fs q) n in
        rw (gone_first f.kind q f.paths two.0) (gone fs q two.1)

-- from a closed set of paths, at a path that no event names first: what goes is what the events clear
goes_as_cleared : (look : Look) (es : List EventValue) (s : Paths) (q : PathValue) → is_closed s ≡ true →
    AgreesWith look s es → has_path s q ≡ true → goes (stands look) es q ≡ list_any (clears_at q) es
goes_as_cleared look es s q closed agrees h = by (list_any (clears_at q) es) refl
  where
    by : (b : Bool) → list_any (clears_at q) es ≡ b → goes (stands look) es q ≡ b
    by true c = cleared_goes (stands look) es q c
    by false c =
        false_from_ne_true (goes (stands look) es q)
        (λ g. let found = gone_below look es q g c in there found.0 found.1 found.2 found.3 c)
      where
        there : (p : PathValue) → is_named es p ≡ true → is_prefix p q ≡ true → stands look p ≡ false →
            list_any (clears_at q) es ≡ false → ⊥
        there [] n below none c = true≢false (sym n ∙ agrees.nonempty)
        there (a ∷ p) n below none c =
            let was : has_path s (a ∷ p) ≡ true = closed_under s closed a p q (below_prefix (a ∷ p) q below) h in
            let is : has_path (play s es) (a ∷ p) ≡ true =
            play_here s (a ∷ p) es ∙ ap (λ b. here (creates_at (a ∷ p)) (clears_at (a ∷ p)) b es) was
            ∙ stays (creates_at (a ∷ p)) (clears_at (a ∷ p)) es (clears_below es (a ∷ p) q below c) in
            true≢false (sym is ∙ sym (agrees.there (a ∷ p) n) ∙ none)

-- the copy has at each path what a reader has
same_at : (look : Look) (es : List EventValue) (s : Paths) → is_closed s ≡ true → AgreesWith look s es →
    (q : PathValue) → has_path (carried s (planned look es)) q ≡ has_path (play s es) q
same_at look es s closed agrees q = by (is_named es q) refl
  where
    known : (b : Bool) → has_path s q ≡ b → (b && not (goes (stands look) es q))
        ≡ (b && not (list_any (clears_at q) es))
    known true h = ap not (goes_as_cleared look es s q closed agrees h)
    known false h = refl

    both : (a w : Bool) → (a ≡ true → w ≡ true) → (a && w) ≡ a
    both true w h = h refl
    both false w h = refl

    none : (a b : Bool) → ((a && false) || b) ≡ b
    none true b = refl
    none false b = refl

    by : (b : Bool) → is_named es q ≡ b → has_path (carried s (planned look es)) q ≡ has_path (play s es) q
    by true n =
        leaves_what_stands look es s q n
        ∙ both (stands look q) (has_path (wanted es) q)
        (λ h. wanted_here [] q es ∙ reader_wants es q (has_path s q) false n
        (sym (play_here s q es) ∙ sym (agrees.there q n) ∙ h))
        ∙ agrees.there q n
    by false n =
        planned_at look es s q
        ∙ ap (λ w. (stands look q && w) || (has_path s q && not (goes (stands look) es q)))
        (unnamed_not_wanted es q n)
        ∙ none (stands look q) (has_path s q && not (goes (stands look) es q))
        ∙ known (has_path s q) refl
        ∙ sym (unnamed_here es q (has_path s q) n)
        ∙ sym (play_here s q es)

-- what is in a set is one of its elements
element_of : (s : Paths) (p : PathValue) → has_path s p ≡ true → Has s p
element_of [] p h = absurd (true≢false (sym h))
element_of (x ∷ s) p h =
    ⊎_elim (λ e. inl (sym (tied p x e))) (λ more. inr (element_of s p more))
    (or_cases (is_eq (path_cmp p x)) (has_path s p) h)

-- the elements of a set are in another that has what it has
elements_in : (a b : Paths) → ((p : PathValue) → has_path a p ≡ true → has_path b p ≡ true) → AllByRecursion (Has b) a
elements_in [] b h = tt
elements_in (x ∷ a) b h = (
  element_of b x (h x (or_left (is_eq (path_cmp x x)) _ (tied_to_itself x))),
  elements_in a b
      (λ p i. h p (or_right (is_eq (path_cmp p x)) _ i)),
)

-- the copy has just the paths of a reader who plays the events
pub leaves_played : (look : Look) (es : List EventValue) → ActsAsPlayed look es (planned look es)
leaves_played look es = λ s sorted closed agrees.
    let same = same_at look es s closed agrees in
    same_from_within path_cmp_total (carried s (planned look es)) (play s es)
    (sorted_carried s (planned look es) sorted) (sorted_play s es sorted)
    (elements_in _ _ (λ p i. sym (same p) ∙ i)) (elements_in _ _ (λ p i. same p ∙ i))
