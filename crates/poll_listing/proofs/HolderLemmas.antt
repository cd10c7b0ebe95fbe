-- What is counted of the numbers of what was removed tells what moved. `find_holders` cites the last two.
use Rattle.std.proofs.Common.{◌≡◌, ℕ, ◌+◌, suc, Bool, true, false, not, cond, List, [], ◌∷◌, ◌++◌, map, refl, ap, sym, subst, ◌∙◌, Some, None, arith}
use Rattle.std.specs.Prelude.{Option, filter, if◌then◌else◌, option_and_then}
use Rattle.std.specs.declared.cmp.Ordering.TheVariants.{Less}
use Rattle.std.specs.List.{AllByRecursion}
use Rattle.std.specs.List.Sorted.{IsStrictlySortedBy}
use Rattle.std.specs.Map.{keys_of}
use Rattle.std.specs.BTreeMap.{is_at}
use Rattle.std.specs.Option.{option_map}
use Rattle.std.proofs.Math.Nat.{add-zero, zero-add}
use Rattle.notify_types.specs.Event.{EventValue}
use Rattle.notify_types.specs.Kinds.{is_removal}
use Rattle.notify_paths.specs.Path.{PathValue, path_cmp}
use Rattle.notify_paths.specs.PathLaws.{path_cmp_total}
use Rattle.debounce_model.proofs.Entries.{sorted-filter}
use Rattle.poll_listing.specs.declared.entry.EntryKind.{EntryKind}
use Rattle.poll_listing.specs.declared.entry.EntryKind.TheVariants.{File, Folder, Other}
use Rattle.poll_listing.specs.declared.entry.Found.{Found}
use Rattle.poll_listing.specs.declared.holders.Holder.{Holder}
use Rattle.poll_listing.specs.declared.holders.Seen.{Seen}
use Rattle.poll_listing.specs.declared.holders.Seen.TheVariants.{Nothing, Once, Often}
use Rattle.poll_listing.specs.Listing.{ListingValue, IsListing, entry_at}
use Rattle.poll_listing.specs.Changes.{changes, created, creation, creation_of, gone, is_kept, lies_below, removal, removal_of, removed, rewrite, rewritten}
use Rattle.poll_listing.specs.Pairs.{PairValue, updated_pairs}
use Rattle.poll_listing.specs.Updates.{IsUpdate, UpdatesValue, updated}
use Rattle.poll_listing.specs.Moves.{having, is_number, is_one_file, moved_from, number_of, place_of}
use Rattle.poll_listing.specs.Holders.{ChangesEach, HoldersValue, TellMoves, counted, held, held_from, holder_at, moved_place, new_holder, noted_after, noted_before, number_at, number_removed, place_if, place_with, seen_after, seen_with}
use Rattle.poll_listing.proofs.HonestLemmas.{each-filter}
use Rattle.poll_listing.proofs.PairLemmas.{AreAbove, at_itself, entry_cons, news_of, olds_of, turned_less}
use Rattle.poll_listing.proofs.SameLemmas.{own}
use Rattle.poll_listing.proofs.UpdateLemmas.{Ascends}
use Rattle.poll_listing.proofs.UpdatedPairs.{news_of-updated, olds_of-updated}

-- the entry has the number
abbrev pub has : ℕ → PathValue × Found → Bool
has k e = is_number k (number_of e.1.number)

-- ---- who has a number

-- a holder of whom this was seen
abbrev holder : ℕ → Seen → Seen → Holder
holder place before after = record { place = place; before = before; after = after }

-- what is seen of a number among entries
seen_among : ℕ → Seen → ListingValue → Seen
seen_among k s [] = s
seen_among k s (e ∷ es) = seen_among k (seen_after k s (Some e.1)) es

-- pairs are counted side by side
counted-sides : (k : ℕ) (ps : List PairValue) (h : Holder) → counted ps k h
    ≡ holder h.place (seen_among k h.before (olds_of ps)) (seen_among k h.after (news_of ps))
unfolding seen_among
counted-sides k [] h = refl
counted-sides k (p ∷ ps) h =
    counted-sides k ps (noted_after p.after k (noted_before p.before k h)) ∙ by p.before p.after
  where
    by : (b a : Option Found) →
        holder h.place (seen_among k (seen_after k h.before b) (olds_of ps))
        (seen_among k (seen_after k h.after a) (news_of ps))
        ≡ holder h.place (seen_among k h.before (entry_cons p.path b (olds_of ps)))
        (seen_among k h.after (entry_cons p.path a (news_of ps)))
    by None None = refl
    by None (Some f) = refl
    by (Some f) None = refl
    by (Some f) (Some g) = refl

-- what is seen in entries of one number
seen_in : Seen → ListingValue → Seen
seen_in s [] = s
seen_in s (e ∷ es) = seen_in (seen_with s e.1) es

-- of a number is seen what the entries that have it show
seen_among-having : (k : ℕ) (es : ListingValue) (s : Seen) → seen_among k s es ≡ seen_in s (having es k)
unfolding seen_among seen_in
seen_among-having k [] s = refl
seen_among-having k (e ∷ es) s = by (has k e) (λ t. seen_among-having k es t)
  where
    by : (b : Bool) → ((t : Seen) → seen_among k t es ≡ seen_in t (having es k)) →
        seen_among k (if b then seen_with s e.1 else s) es
        ≡ seen_in s (cond b (e ∷ having es k) (having es k))
    by true more = more (seen_with s e.1)
    by false more = more s

-- what was seen often stays so
seen_in-often : (es : ListingValue) → seen_in Often es ≡ Often
unfolding seen_in
seen_in-often [] = refl
seen_in-often (e ∷ es) = seen_in-often es

-- ---- the place of a removal

-- the place of the last of the entries that has the number, if the first has this place
last_at : ℕ → ℕ → Option ℕ → ListingValue → Option ℕ
last_at k i known [] = known
last_at k i known (e ∷ es) = last_at k (suc i) (if has k e then Some i else known) es

-- where none has it, nothing becomes known
last_at-none : (k : ℕ) (es : ListingValue) (i : ℕ) (known : Option ℕ) → having es k ≡ [] →
    last_at k i known es ≡ known
unfolding last_at
last_at-none k [] i known h = refl
last_at-none k (e ∷ es) i known h = by (has k e) h (λ o n. last_at-none k es (suc i) o n)
  where
    by : (b : Bool) → cond b (e ∷ having es k) (having es k) ≡ [] →
        ((o : Option ℕ) → having es k ≡ [] → last_at k (suc i) o es ≡ o) →
        last_at k (suc i) (if b then Some i else known) es ≡ known
    by true n more = cc
    by false n more = more known n

-- each of the entries is above x
pub each-above : (x : PathValue) (es : ListingValue) → AreAbove x (keys_of es) →
    AllByRecursion (λ e. path_cmp x e.0 ≡ Less) es
each-above x [] a = tt
each-above x (e ∷ es) a = (a.0, each-above x es a.1)

-- where one alone has it, that is its place
last_at-one : (k : ℕ) (es : ListingValue) (r : PathValue × Found) (i : ℕ) → Ascends es → having es k ≡ r ∷ [] →
    last_at k i None es ≡ Some (place_of es r.0 + i)
unfolding last_at IsStrictlySortedBy
last_at-one k [] r i s h = cc
last_at-one k (e ∷ es) r i s h = by (has k e) h (λ n. last_at-one k es r (suc i) s.1 n)
  where
    by : (b : Bool) → cond b (e ∷ having es k) (having es k) ≡ r ∷ [] →
        (having es k ≡ r ∷ [] → last_at k (suc i) None es ≡ Some (place_of es r.0 + suc i)) →
        last_at k (suc i) (if b then Some i else None) es ≡ Some (place_of (e ∷ es) r.0 + i)
    by true n more =
        let same : e ≡ r = cc in
        let none : having es k ≡ [] = cc in
        let here : is_at (path_cmp r.0) e.0 ≡ true = ap (λ x. is_at (path_cmp r.0) x.0) same ∙ at_itself r.0 in
        rw here (last_at-none k es (suc i) (Some i) none ∙ ap Some (sym (zero-add i)))
    by false n more =
        let above = each-filter (λ x. path_cmp e.0 x.0 ≡ Less) (has k) es (each-above e.0 es s.0) in
        let less = subst (AllByRecursion (λ x. path_cmp e.0 x.0 ≡ Less)) n above in
        let up : place_of es r.0 + suc i ≡ suc (place_of es r.0) + i = omega arith in
        rw (turned_less e.0 r.0 less.0) (more n ∙ ap Some up)

-- ---- the events

-- events that tell no removal
abbrev TellNone : List EventValue → Type 0
TellNone ys = AllByRecursion (λ y. is_removal y.kind ≡ false) ys

-- .. put in no holder
held-others : (old : ListingValue) (k : ℕ) (ys : List EventValue) (i : ℕ) (known : Option Holder) → TellNone ys →
    held_from old k i known ys ≡ known
held-others old k [] i known n = refl
held-others old k (y ∷ ys) i known n = rw n.0 (held-others old k ys (suc i) known n.1)

-- creations, and what was rewritten, are such
none-more : (cs ws : ListingValue) → TellNone (map creation cs ++ map rewrite ws)
none-more [] [] = tt
none-more [] (w ∷ ws) = (refl, none-more [] ws)
none-more (c ∷ cs) ws = (by c.1.kind, none-more cs ws)
  where
    by : (kind : EntryKind) → is_removal (creation_of kind) ≡ false
    by File = refl
    by Folder = refl
    by Other = refl

-- a removal tells the number of what was there
removed-number : (old : ListingValue) (e : PathValue × Found) → entry_at old e.0 ≡ Some e.1 →
    number_removed old (removal e) ≡ number_of e.1.number
removed-number old e h = by e.1.kind
  where
    by : (kind : EntryKind) →
        (if is_removal (removal_of kind) then option_and_then (number_at old) (Some e.0) else None)
        ≡ number_of e.1.number
    by File = rw h refl
    by Folder = rw h refl
    by Other = rw h refl

-- the removals, and then others, put in a holder where the last of them has the number
held-removals : (old : ListingValue) (k : ℕ) (es : ListingValue) (ys : List EventValue) (i : ℕ) (known : Option ℕ) →
    AllByRecursion (λ e. entry_at old e.0 ≡ Some e.1) es → TellNone ys →
    held_from old k i (option_map new_holder known) (map removal es ++ ys)
    ≡ option_map new_holder (last_at k i known es)
unfolding last_at
held-removals old k [] ys i known a n = held-others old k ys i (option_map new_holder known) n
held-removals old k (e ∷ es) ys i known a n =
    ap (λ r. held_from old k (suc i) (held k i r (option_map new_holder known)) (map removal es ++ ys))
    (removed-number old e a.0)
    ∙ by (has k e) (λ o. held-removals old k es ys (suc i) o a.1 n)
  where
    by : (b : Bool) → ((o : Option ℕ) → held_from old k (suc i) (option_map new_holder o) (map removal es ++ ys)
        ≡ option_map new_holder (last_at k (suc i) o es)) →
        held_from old k (suc i) (if b then Some (new_holder i) else option_map new_holder known) (map removal es ++ ys)
        ≡ option_map new_holder (last_at k (suc i) (if b then Some i else known) es)
    by true more = more (Some i)
    by false more = more known

-- ---- what moved

-- filters in either order
filter-swap : {X : Type 0} (p q : X → Bool) (xs : List X) → filter p (filter q xs) ≡ filter q (filter p xs)
filter-swap p q [] = refl
filter-swap p q (x ∷ xs) = by (p x) refl (q x) refl (filter-swap p q xs)
  where
    by : (b : Bool) → p x ≡ b → (c : Bool) → q x ≡ c → filter p (filter q xs) ≡ filter q (filter p xs) →
        filter p (filter q (x ∷ xs)) ≡ filter q (filter p (x ∷ xs))
    by true h true k more = rw (k, h, k) (ap (λ r. x ∷ r) more)
    by true h false k more = rw (k, h, k) more
    by false h true k more = rw (k, h) more
    by false h false k more = rw (k, h) more

-- what is seen before and later, and the place of the last removal, tell what moved, if the old entries of a number
-- that are removed are those of all that pass two tests
moved-tells : (all : ListingValue) (s t : PathValue × Found → Bool) (last : Option ℕ) (os ns : ListingValue) →
    (filter t (filter s os) ≡ [] → last ≡ None) →
    ((r : PathValue × Found) → filter t (filter s os) ≡ r ∷ [] → last ≡ Some (place_of all r.0)) →
    option_and_then (λ p. place_if p (seen_in Nothing os) (seen_in Nothing ns)) last
    ≡ option_map (place_of all) (moved_from (filter t (filter s os)) os ns)
unfolding seen_in
moved-tells all s t last [] ns none one = rw (none refl) refl
moved-tells all s t last (o ∷ o' ∷ os) ns none one =
    rw (seen_in-often os) (by last (filter t (filter s (o ∷ o' ∷ os))))
  where
    by : (l : Option ℕ) (rs : ListingValue) →
        option_and_then (λ p. place_if p Often (seen_in Nothing ns)) l
        ≡ option_map (place_of all) (moved_from rs (o ∷ o' ∷ os) ns)
    by None [] = refl
    by None (r ∷ []) = refl
    by None (r ∷ r' ∷ rs) = refl
    by (Some p) [] = refl
    by (Some p) (r ∷ []) = refl
    by (Some p) (r ∷ r' ∷ rs) = refl
moved-tells all s t last (o ∷ []) ns none one = by (s o) refl (t o) refl
  where
    there : (ms : ListingValue) → place_if (place_of all o.0) (Once o.1) (seen_in Nothing ms)
        ≡ option_map (place_of all) (moved_from (o ∷ []) (o ∷ []) ms)
    there [] = refl
    there (n ∷ []) = same (is_one_file o.1 n.1)
      where
        same : (b : Bool) → (if b then Some (place_of all o.0) else None)
            ≡ option_map (place_of all) (if b then Some o.0 else None)
        same true = refl
        same false = refl
    there (n ∷ n' ∷ ms) = rw (seen_in-often ms) refl

    by : (b : Bool) → s o ≡ b → (c : Bool) → t o ≡ c →
        option_and_then (λ p. place_if p (seen_in Nothing (o ∷ [])) (seen_in Nothing ns)) last
        ≡ option_map (place_of all) (moved_from (filter t (filter s (o ∷ []))) (o ∷ []) ns)
    by true h true k = rw (h, k, one o (rw (h, k) refl)) (there ns)
    by true h false k = rw (h, k, none (rw (h, k) refl)) refl
    by false h c k = rw (h, none (rw h refl)) refl

-- what is found out of holders, whose places are these
place-sides : (k : ℕ) (ps : List PairValue) (last : Option ℕ) →
    option_and_then moved_place (option_map (counted ps k) (option_map new_holder last))
    ≡ option_and_then (λ p. place_if p (seen_among k Nothing (olds_of ps)) (seen_among k Nothing (news_of ps))) last
place-sides k ps None = refl
place-sides k ps (Some p) = ap moved_place (counted-sides k ps (new_holder p))

-- the holders tell what moved
pub tell_moves : (old : ListingValue) (us : UpdatesValue) (gathered holders : HoldersValue) → IsListing old →
    IsUpdate old us →
    ((k : ℕ) → holder_at gathered k ≡ held_from old k 0 None (changes old (updated old us))) →
    ChangesEach (counted (updated_pairs old us)) gathered holders → TellMoves old (updated old us) holders
tell_moves old us gathered holders law up held each k =
    let new = updated old us in
    let ps = updated_pairs old us in
    let rs = removed old new in
    let s : PathValue × Found → Bool = λ e. not (is_kept new e) in
    let t : PathValue × Found → Bool = λ e. not (lies_below (gone old new) e.0) in
    let is_there = each-filter (λ e. entry_at old e.0 ≡ Some e.1) t (gone old new)
    (each-filter (λ e. entry_at old e.0 ≡ Some e.1) s old (own old law.ordered)) in
    let sorted_removed = sorted-filter path_cmp_total t (gone old new)
    (sorted-filter path_cmp_total s old law.ordered) in
    let events : held_from old k 0 None (changes old new) ≡ option_map new_holder (last_at k 0 None rs) =
    held-removals old k rs (map creation (created old new) ++ map rewrite (rewritten old new)) 0 None is_there
    (none-more (created old new) (rewritten old new)) in
    let before : seen_among k Nothing (olds_of ps) ≡ seen_in Nothing (having old k) =
    seen_among-having k (olds_of ps) Nothing ∙ ap (λ es. seen_in Nothing (having es k)) (olds_of-updated old us) in
    let after : seen_among k Nothing (news_of ps) ≡ seen_in Nothing (having new k) =
    seen_among-having k (news_of ps) Nothing
    ∙ ap (λ es. seen_in Nothing (having es k)) (news_of-updated old us law.ordered up.ordered) in
    let swapped : having rs k ≡ filter t (filter s (having old k)) =
    filter-swap (has k) t (gone old new) ∙ ap (filter t) (filter-swap (has k) s old) in
    let found : holder_at holders k ≡ option_map (counted ps k) (option_map new_holder (last_at k 0 None rs)) =
    each k ∙ ap (option_map (counted ps k)) (held k ∙ events) in
    let sides : place_with holders k
    ≡ option_and_then (λ p. place_if p (seen_in Nothing (having old k)) (seen_in Nothing (having new k)))
    (last_at k 0 None rs) =
    ap (option_and_then moved_place) found ∙ (place-sides k ps (last_at k 0 None rs)
    ∙ rw (before, after) refl) in
    sides
    ∙ (moved-tells rs s t (last_at k 0 None rs) (having old k) (having new k)
    (λ h. last_at-none k rs 0 None (swapped ∙ h))
    (λ r h. last_at-one k rs r 0 (sorted_removed) (swapped ∙ h) ∙ ap Some (add-zero (place_of rs r.0)))
    ∙ ap (λ xs. option_map (place_of rs) (moved_from xs (having old k) (having new k))) (sym swapped))
