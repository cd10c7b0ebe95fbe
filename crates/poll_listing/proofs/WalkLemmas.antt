-- The walk over two listings side by side finds what changed.
use Rattle.std.proofs.Common.{◌≡◌, Bool, true, false, not, ◌&&◌, ◌||◌, cond, List, [], ◌∷◌, ◌++◌, map, refl, ap, sym, subst, ◌∙◌, Some, None}
use Rattle.std.specs.Prelude.{Option, filter, if◌then◌else◌, is_some, IfSome}
use Rattle.std.specs.declared.cmp.Ordering.TheVariants.{Less}
use Rattle.std.specs.List.{AllByRecursion, list_any}
use Rattle.std.specs.List.Sorted.{IsStrictlySortedBy}
use Rattle.std.specs.Map.{keys_of}
use Rattle.std.specs.BTreeMap.{is_at}
use mathlib.Core.List.{append-nil}
use Rattle.std.proofs.lemmas.Map.Made.{is_some-lookup}
use Rattle.std.proofs.lemmas.Map.Views.{any-filter_same}
use Rattle.notify_paths.specs.Path.{PathValue, path_cmp, is_prefix, is_below}
use Rattle.notify_paths.specs.PathLaws.{path_eq_decides, path_matches_eq}
use Rattle.notify_paths.proofs.Prefixes.{prefix_itself, run_ends, and_false, and_true}
use Rattle.debounce_model.specs.Play.{has_path}
use Rattle.poll_listing.specs.declared.entry.Found.{Found}
use Rattle.poll_listing.specs.declared.pairs.Change.TheVariants.{Removed, Created, Replaced, Rewritten, Same}
use Rattle.poll_listing.specs.Listing.{ListingValue, entry_at, has_entry, is_same_kind}
use Rattle.poll_listing.specs.Changes.{is_of_kind, is_same_state, is_rewritten, is_kept, gone, lies_in, lies_below, staying, removed, created, rewritten, removal, creation, rewrite}
use Rattle.poll_listing.specs.Pairs.{PairValue, PartsValue, paired, is_under, change_at, change_of, goes, top_after, no_parts, joined, parts_of, walk}
use Rattle.poll_listing.proofs.PrefixLemmas.{prefix-trans, no_prefix_behind, below_behind, not_below_itself, not_below_behind}
use Rattle.poll_listing.proofs.PairLemmas.{AreAbove, IsAbove, Ascend, ascend-paired, entry_cons, olds_of, news_of, olds_of-paired, news_of-paired, above-side, entry_at-side}

-- a test or false
pub or_false : (b : Bool) → (b || false) ≡ b
or_false true = refl
or_false false = refl

-- the old entry is gone
abbrev pub is_gone : Option Found → Option Found → Bool
is_gone None a = false
is_gone (Some b) a = not (is_of_kind b.kind a)

-- the old entry at the path in front of others, if it is gone
abbrev pub gone_cons : PathValue → Option Found → Option Found → ListingValue → ListingValue
gone_cons path None a es = es
gone_cons path (Some b) a es = if not (is_of_kind b.kind a) then (path, b) ∷ es else es

-- a path went where it did not lie under one that went, and its entry is gone
goes-change_at : (u : Bool) (b a : Option Found) → goes (change_at u b a) ≡ (not u && is_gone b a)
goes-change_at u None None = sym (and_false (not u))
goes-change_at u None (Some a) = sym (and_false (not u))
goes-change_at true (Some b) None = refl
goes-change_at false (Some b) None = refl
goes-change_at true (Some b) (Some a) = refl
goes-change_at false (Some b) (Some a) = by (is_same_kind b.kind a.kind) (is_same_state b a)
  where
    by : (s n : Bool) → goes (if not s then Replaced b.kind a.kind else (if not n then Rewritten else Same))
        ≡ not s
    by true true = refl
    by true false = refl
    by false n = refl

-- one of the entries stands so to the path
abbrev hits : (PathValue → PathValue → Bool) → ListingValue → PathValue → Bool
hits R es path = list_any (λ e. R e.0 path) es

-- .. with one more in front, if it is gone
hits-gone_cons : (R : PathValue → PathValue → Bool) (path : PathValue) (b a : Option Found) (es : ListingValue)
    (q : PathValue) → hits R (gone_cons path b a es) q ≡ ((is_gone b a && R path q) || hits R es q)
hits-gone_cons R path None a es q = refl
hits-gone_cons R path (Some b) a es q = by (not (is_of_kind b.kind a))
  where
    by : (g : Bool) → hits R (if g then (path, b) ∷ es else es) q ≡ ((g && R path q) || hits R es q)
    by true = refl
    by false = refl

-- entries that are left stay above x
above-filter : (x : PathValue) (p : PathValue × Found → Bool) (es : ListingValue) → AreAbove x (keys_of es) →
    AreAbove x (keys_of (filter p es))
above-filter x p [] a = a
above-filter x p (e ∷ es) a = by (p e) (above-filter x p es a.1)
  where
    by : (b : Bool) → AreAbove x (keys_of (filter p es)) →
        AreAbove x (keys_of (cond b (e ∷ filter p es) (filter p es)))
    by true h = (a.0, h)
    by false h = h

-- what tells prefixes of what is behind a path, and nothing in front of it
record Tells (R : PathValue → PathValue → Bool) : Type 0 where
  pub ahead : (x y : PathValue) → path_cmp x y ≡ Less → R x y ≡ is_prefix x y
  pub back : (x y : PathValue) → path_cmp x y ≡ Less → R y x ≡ false

-- to be a prefix
prefix_tells : Tells is_prefix
prefix_tells = record { ahead = λ x y q. refl; back = no_prefix_behind }

-- to lie strictly below
below_tells : Tells (λ g q. is_below q g)
below_tells = record { ahead = below_behind; back = not_below_behind }

module _ {R : PathValue → PathValue → Bool} (tells : Tells R) where
  -- nothing above a path tells of it
  no_hits_above : (x : PathValue) (es : ListingValue) → AreAbove x (keys_of es) → hits R es x ≡ false
  no_hits_above x [] a = refl
  no_hits_above x (e ∷ es) a = rw (tells.back x e.0 a.0) (no_hits_above x es a.1)

module _ (old new : ListingValue) where
  -- of the old entries of pairs, those that are gone
  abbrev pub gone_of : List PairValue → ListingValue
  gone_of ps = filter (λ e. not (is_kept new e)) (olds_of ps)

  -- the first pair's entry, if it is gone, and then the others
  gone_of-cons : (p : PairValue) (ps : List PairValue) → entry_at new p.path ≡ p.after →
      gone_of (p ∷ ps) ≡ gone_cons p.path p.before p.after (gone_of ps)
  gone_of-cons p ps fact = by p.before
    where
      by : (b : Option Found) → filter (λ e. not (is_kept new e)) (entry_cons p.path b (olds_of ps))
          ≡ gone_cons p.path b p.after (gone_of ps)
      by None = refl
      by (Some f) = rw fact refl

  -- what tells of a path is the one that went last, or is gone and comes later
  abbrev AreTold : (PathValue → PathValue → Bool) → Option PathValue → List PairValue → List PairValue → Type 0
  AreTold R top ps qs =
      AllByRecursion (λ q. hits R (gone old new) q.path ≡ (is_under top q.path || hits R (gone_of ps) q.path))
      qs

  -- where the walk has come to: the pairs that are left, and the path that went last
  record IsAhead (top : Option PathValue) (ps : List PairValue) : Type 0 where
    pub olds : AllByRecursion (λ p. entry_at old p.path ≡ p.before) ps
    pub news : AllByRecursion (λ p. entry_at new p.path ≡ p.after) ps
    pub ascend : Ascend ps
    pub behind : IfSome top (λ t. IsAbove t ps)
    pub ins : AreTold is_prefix top ps ps
    pub belows : AreTold (λ g q. is_below q g) top ps ps

  module _ {R : PathValue → PathValue → Bool} (tells : Tells R) where
    -- what tells of the first pair's path
    told_head : (top : Option PathValue) (p : PairValue) (ps : List PairValue) → entry_at new p.path ≡ p.after →
        IsAbove p.path ps → hits R (gone old new) p.path
        ≡ (is_under top p.path || hits R (gone_of (p ∷ ps)) p.path) → hits R (gone old new) p.path
        ≡ (is_under top p.path || (is_gone p.before p.after && R p.path p.path))
    told_head top p ps fact a h =
        let later : hits R (gone_of ps) p.path ≡ false =
        no_hits_above tells p.path (gone_of ps) (above-filter p.path (λ e. not (is_kept new e)) (olds_of ps)
        (above-side (λ p. p.before) p.path ps a)) in
        h ∙ ap (λ b. is_under top p.path || b) (ap (λ es. hits R es p.path) (gone_of-cons p ps fact)
        ∙ hits-gone_cons R p.path p.before p.after (gone_of ps) p.path
        ∙ ap (λ b. (is_gone p.before p.after && R p.path p.path) || b) later
        ∙ or_false (is_gone p.before p.after && R p.path p.path))

    -- one step of the walk, for a path behind it
    told_step : (top : Option PathValue) (p q : PathValue) (g : Bool) (rest : Bool) → path_cmp p q ≡ Less →
        IfSome top (λ t. path_cmp t p ≡ Less) → (is_under top q || ((g && R p q) || rest))
        ≡ (is_under (if not (is_under top p) && g then Some p else top) q || rest)
    told_step top p q false rest less behind = by (is_under top p)
      where
        by : (u : Bool) → (is_under top q || rest) ≡ (is_under (if not u && false then Some p else top) q
            || rest)
        by true = refl
        by false = refl
    told_step None p q true rest less behind = rw (tells.ahead p q less) refl
    told_step (Some t) p q true rest less behind =
        rw (tells.ahead p q less) (by (is_prefix t p) (is_prefix p q) refl refl)
      where
        by : (u v : Bool) → is_prefix t p ≡ u → is_prefix p q ≡ v → (is_prefix t q || (v || rest))
            ≡ (is_under (if not u && true then Some p else Some t) q || rest)
        by true false i j = refl
        by true true i j = rw (prefix-trans t p q i j) refl
        by false v i j = rw (run_ends t p q (λ h. cc (h, behind)) i less, j) refl

  -- what tells of the paths behind the first pair, after it
  told_later : {R : PathValue → PathValue → Bool} → Tells R →
      (top : Option PathValue) (p : PairValue) (ps qs : List PairValue) → entry_at new p.path ≡ p.after →
      IsAbove p.path qs → IfSome top (λ t. path_cmp t p.path ≡ Less) → AreTold R top (p ∷ ps) qs →
      AreTold R (top_after top p) ps qs
  told_later tells top p ps [] fact a b h = tt
  told_later {R} tells top p ps (q ∷ qs) fact a b h = (first, told_later tells top p ps qs fact a.1 b h.1)
    where
      first : hits R (gone old new) q.path ≡ (is_under (top_after top p) q.path || hits R (gone_of ps) q.path)
      first =
          h.0
          ∙ ap (λ b. is_under top q.path || b) (ap (λ es. hits R es q.path) (gone_of-cons p ps fact)
          ∙ hits-gone_cons R p.path p.before p.after (gone_of ps) q.path)
          ∙ told_step tells top p.path q.path (is_gone p.before p.after) (hits R (gone_of ps) q.path) a.0 b
          ∙ ap (λ g. is_under (if g then Some p.path else top) q.path || hits R (gone_of ps) q.path)
          (sym (goes-change_at (is_under top p.path) p.before p.after))

  -- the walk goes on behind the first pair
  go_on : (top : Option PathValue) (p : PairValue) (ps : List PairValue) → IsAhead top (p ∷ ps) →
      IsAhead (top_after top p) ps
  go_on top p ps h =
      let fact = h.news.0 in
      let above = h.ascend.0 in
      let before = heads top h.behind in
      record {
        olds = h.olds.1;
        news = h.news.1;
        ascend = h.ascend.1;
        behind = by top (goes (change_of top p)) h.behind;
        ins = told_later prefix_tells top p ps ps fact above before h.ins.1;
        belows = told_later below_tells top p ps ps fact above before h.belows.1;
      }
    where
      heads : (top : Option PathValue) → IfSome top (λ t. IsAbove t (p ∷ ps)) →
          IfSome top (λ t. path_cmp t p.path ≡ Less)
      heads None a = tt
      heads (Some t) a = a.0

      by : (top : Option PathValue) (g : Bool) → IfSome top (λ t. IsAbove t (p ∷ ps)) →
          IfSome (if g then Some p.path else top) (λ t. IsAbove t ps)
      by top true a = h.ascend.0
      by None false a = tt
      by (Some t) false a = a.1

-- the removal of a pair's old entry
head_removed : (S : PathValue × Found → Bool) (path : PathValue) (u : Bool) (b a : Option Found)
    (es : ListingValue) → ((f : Found) → S (path, f) ≡ not u) → map removal (filter S (gone_cons path b a es))
    ≡ (parts_of (change_at u b a) path).removed ++ map removal (filter S es)
head_removed S path u None None es h = refl
head_removed S path u None (Some a) es h = refl
head_removed S path u (Some b) None es h = by u (h b)
  where
    by : (v : Bool) → S (path, b) ≡ not v → map removal (filter S ((path, b) ∷ es))
        ≡ (parts_of (if v then Same else Removed b.kind) path).removed ++ map removal (filter S es)
    by true q = rw q refl
    by false q = rw q refl
head_removed S path u (Some b) (Some a) es h = by u (is_same_kind b.kind a.kind) (is_same_state b a) (h b)
  where
    by : (v s n : Bool) → S (path, b) ≡ not v → map removal (filter S (if not s then (path, b) ∷ es else es))
        ≡ (parts_of (if v then Created a.kind
        else (if not s then Replaced b.kind a.kind else (if not n then Rewritten else Same))) path).removed
        ++ map removal (filter S es)
    by true true n q = refl
    by true false n q = rw q refl
    by false true true q = refl
    by false true false q = refl
    by false false n q = rw q refl

-- the creation of a pair's new entry
head_created : (S : PathValue × Found → Bool) (path : PathValue) (u : Bool) (b a : Option Found)
    (es : ListingValue) → ((f : Found) → S (path, f) ≡ not (not (u || is_gone b a) && is_some b)) →
    map creation (filter S (entry_cons path a es)) ≡ (parts_of (change_at u b a) path).created
    ++ map creation (filter S es)
head_created S path u None None es h = refl
head_created S path u None (Some a) es h = rw (h a ∙ ap not (and_false (not (u || false)))) refl
head_created S path u (Some b) None es h = by u
  where
    by : (v : Bool) → map creation (filter S es) ≡ (parts_of (if v then Same else Removed b.kind) path).created
        ++ map creation (filter S es)
    by true = refl
    by false = refl
head_created S path u (Some b) (Some a) es h = by u (is_same_kind b.kind a.kind) (is_same_state b a) (h a)
  where
    by : (v s n : Bool) → S (path, a) ≡ not (not (v || not s) && true) →
        map creation (filter S ((path, a) ∷ es))
        ≡ (parts_of (if v then Created a.kind
        else (if not s then Replaced b.kind a.kind else (if not n then Rewritten else Same))) path).created
        ++ map creation (filter S es)
    by true s n q = rw q refl
    by false true true q = rw q refl
    by false true false q = rw q refl
    by false false n q = rw q refl

-- what was rewritten of a pair's entries
head_rewritten : (S T : PathValue × Found → Bool) (path : PathValue) (u : Bool) (b a : Option Found)
    (es : ListingValue) → ((f : Found) → S (path, f) ≡ not (u || is_gone b a)) →
    ((f : Found) → T (path, f) ≡ is_rewritten f a) →
    map rewrite (filter T (filter S (entry_cons path b es))) ≡ (parts_of (change_at u b a) path).rewritten
    ++ map rewrite (filter T (filter S es))
head_rewritten S T path u None None es h k = refl
head_rewritten S T path u None (Some a) es h k = refl
head_rewritten S T path u (Some b) None es h k = by u (h b)
  where
    by : (v : Bool) → S (path, b) ≡ not (v || true) → map rewrite (filter T (filter S ((path, b) ∷ es)))
        ≡ (parts_of (if v then Same else Removed b.kind) path).rewritten ++ map rewrite (filter T (filter S es))
    by true q = rw q refl
    by false q = rw q refl
head_rewritten S T path u (Some b) (Some a) es h k =
    by u (is_same_kind b.kind a.kind) (is_same_state b a) (h b) (k b)
  where
    by : (v s n : Bool) → S (path, b) ≡ not (v || not s) → T (path, b) ≡ not n →
        map rewrite (filter T (filter S ((path, b) ∷ es)))
        ≡ (parts_of (if v then Created a.kind
        else (if not s then Replaced b.kind a.kind else (if not n then Rewritten else Same))) path).rewritten
        ++ map rewrite (filter T (filter S es))
    by true s n q r = rw q refl
    by false true true q r = rw (q, r) refl
    by false true false q r = rw (q, r) refl
    by false false n q r = rw q refl

-- keys of entries that are kept by their keys
pub keys_of-filter : (p : PathValue → Bool) (es : ListingValue) → keys_of (filter (λ e. p e.0) es)
    ≡ filter p (keys_of es)
keys_of-filter p [] = refl
keys_of-filter p (e ∷ es) = by (p e.0) (keys_of-filter p es)
  where
    by : (b : Bool) → keys_of (filter (λ e. p e.0) es) ≡ filter p (keys_of es) →
        keys_of (cond b (e ∷ filter (λ e. p e.0) es) (filter (λ e. p e.0) es))
        ≡ cond b (e.0 ∷ filter p (keys_of es)) (filter p (keys_of es))
    by true more = ap (λ ks. e.0 ∷ ks) more
    by false more = more

-- of the paths that a test keeps, those that are there
pub has-filter : (p : PathValue → Bool) (path : PathValue) (ks : List PathValue) → has_path (filter p ks) path
    ≡ (p path && has_path ks path)
has-filter p path ks =
    any-filter_same (is_at (path_cmp path)) p
    (p path) (λ k h. ap p (sym ((path_eq_decides path k).0 (path_matches_eq path k ∙ h)))) ks

-- a path is there where something stands at it
pub has_entry-some : (es : ListingValue) (path : PathValue) → has_entry es path ≡ is_some (entry_at es path)
has_entry-some es path = sym (is_some-lookup (is_at (path_cmp path)) es)

-- the parts of what changed
abbrev pub parts_between : ListingValue → ListingValue → PartsValue
parts_between old new = record {
  removed = map removal (removed old new);
  created =
      map creation (created old new);
  rewritten = map rewrite (rewritten old new);
}

module _ (old new : ListingValue) where
  -- of these pairs, the removals
  abbrev removals_of : List PairValue → ListingValue
  removals_of ps = filter (λ e. not (lies_below (gone old new) e.0)) (gone_of old new ps)

  -- .. the creations
  abbrev creations_of : List PairValue → ListingValue
  creations_of ps = filter (λ e. not (has_entry (staying old new) e.0)) (news_of ps)

  -- .. what was rewritten
  abbrev rewrites_of : List PairValue → ListingValue
  rewrites_of ps =
      filter (λ e. is_rewritten e.1 (entry_at new e.0))
      (filter (λ e. not (lies_in (gone old new) e.0)) (olds_of ps))

  -- the walk finds what changed at the pairs that are left
  walk_finds : (top : Option PathValue) (ps : List PairValue) → IsAhead old new top ps →
      walk top ps ≡ record {
        removed = map removal (removals_of ps);
        created =
            map creation (creations_of ps);
        rewritten = map rewrite (rewrites_of ps);
      }
  walk_finds top [] h = refl
  walk_finds top (p ∷ ps) h =
      let u = is_under top p.path in
      let fact = h.news.0 in
      let in_it : lies_in (gone old new) p.path ≡ (u || is_gone p.before p.after) =
      told_head old new prefix_tells top p ps fact h.ascend.0 h.ins.0
      ∙ ap (λ b. u || b) (ap (λ b. is_gone p.before p.after && b) (prefix_itself p.path)
      ∙ and_true (is_gone p.before p.after)) in
      let below_it : lies_below (gone old new) p.path ≡ u =
      told_head old new below_tells top p ps fact h.ascend.0 h.belows.0
      ∙ ap (λ b. u || b) (ap (λ b. is_gone p.before p.after && b) (not_below_itself p.path)
      ∙ and_false (is_gone p.before p.after)) ∙ or_false u in
      let stays : has_entry (staying old new) p.path
      ≡ (not (u || is_gone p.before p.after) && is_some p.before) =
      ap (λ ks. has_path ks p.path) (keys_of-filter (λ k. not (lies_in (gone old new) k)) old)
      ∙ has-filter (λ k. not (lies_in (gone old new) k)) p.path (keys_of old)
      ∙ ap (λ b. not b && has_path (keys_of old) p.path) in_it
      ∙ ap (λ b. not (u || is_gone p.before p.after) && b) (has_entry-some old p.path
      ∙ ap is_some h.olds.0) in
      let first : map removal (removals_of (p ∷ ps)) ≡ (parts_of (change_of top p) p.path).removed
      ++ map removal (removals_of ps) =
      ap (λ es. map removal (filter (λ e. not (lies_below (gone old new) e.0)) es))
      (gone_of-cons old new p ps fact)
      ∙ head_removed (λ e. not (lies_below (gone old new) e.0)) p.path u p.before p.after (gone_of old new ps)
      (λ f. ap not below_it) in
      let second : map creation (creations_of (p ∷ ps)) ≡ (parts_of (change_of top p) p.path).created
      ++ map creation (creations_of ps) =
      head_created (λ e. not (has_entry (staying old new) e.0)) p.path u p.before p.after
      (news_of ps) (λ f. ap not stays) in
      let third : map rewrite (rewrites_of (p ∷ ps)) ≡ (parts_of (change_of top p) p.path).rewritten
      ++ map rewrite (rewrites_of ps) =
      head_rewritten (λ e. not (lies_in (gone old new) e.0)) (λ e. is_rewritten e.1 (entry_at new e.0))
      p.path u p.before p.after (olds_of ps) (λ f. ap not in_it) (λ f. ap (is_rewritten f)
      fact) in
      rw (walk_finds (top_after top p) ps (go_on old new top p ps h), first, second, third) refl

  -- at the start of a walk over pairs whose sides are the listings
  start : (ps : List PairValue) → Ascend ps → olds_of ps ≡ old → news_of ps ≡ new → IsAhead old new None ps
  start ps ascend olds news =
      record {
        olds = subst (λ es. AllByRecursion (λ p. entry_at es p.path ≡ p.before) ps) olds
            (entry_at-side (λ p. p.before) ps ascend);
        news = subst (λ es. AllByRecursion (λ p. entry_at es p.path ≡ p.after) ps) news
            (entry_at-side (λ p. p.after) ps ascend);
        ascend = ascend;
        behind = tt;
        ins = all is_prefix ps;
        belows = all (λ g q. is_below q g) ps;
      }
    where
      all : (R : PathValue → PathValue → Bool) (qs : List PairValue) →
          AllByRecursion (λ q. hits R (gone old new) q.path ≡ (false || hits R (gone_of old new ps) q.path)) qs
      all R [] = tt
      all R (q ∷ qs) = (
        ap (λ es. hits R (filter (λ e. not (is_kept new e)) es) q.path) (sym olds),
        all R qs,
      )

  -- the walk over such pairs finds what changed
  pub walk_finds_pairs : (ps : List PairValue) → Ascend ps → olds_of ps ≡ old → news_of ps ≡ new → walk None ps
      ≡ parts_between old new
  walk_finds_pairs ps ascend olds news = walk_finds None ps (start ps ascend olds news)
      ∙ rw (olds, news) refl

  -- the walk over both listings finds what changed
  pub walk_finds_all : IsStrictlySortedBy path_cmp (keys_of old) → IsStrictlySortedBy path_cmp (keys_of new) →
      walk None (paired old new) ≡ parts_between old new
  walk_finds_all s t =
      walk_finds_pairs (paired old new) (ascend-paired old new s t) (olds_of-paired old new)
      (news_of-paired old new)

-- behind the last pair nothing is added
pub joined-none : (parts : PartsValue) → joined parts no_parts ≡ parts
joined-none parts = rw (append-nil parts.removed, append-nil parts.created, append-nil parts.rewritten) refl
