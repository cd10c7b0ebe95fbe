-- A listing has no changes from itself.
use Rattle.std.proofs.Common.{◌≡◌, ℕ, Bool, true, false, not, ◌&&◌, ◌==◌, [], ◌∷◌, ◌++◌, filter, map, refl, ap, ◌∙◌, Some, None}
use Rattle.std.specs.Prelude.{Option, is_some}
use Rattle.std.specs.List.{AllByRecursion}
use Rattle.std.specs.List.Sorted.{IsStrictlySortedBy}
use Rattle.std.specs.Map.{keys_of}
use Rattle.std.proofs.lemmas.Cmp.{nat_eq_equiv}
use Rattle.std.proofs.lemmas.Map.Keys.{sorted_head, sorted_tail}
use Rattle.notify_paths.specs.Path.{PathValue, path_cmp}
use Rattle.poll_listing.specs.declared.entry.EntryKind.{EntryKind}
use Rattle.poll_listing.specs.declared.entry.EntryKind.TheVariants.{File, Folder, Other}
use Rattle.poll_listing.specs.declared.entry.FileNumber.{FileNumber}
use Rattle.poll_listing.specs.declared.entry.FileNumber.TheVariants.{Unknown, Known}
use Rattle.poll_listing.specs.declared.entry.Found.{Found}
use Rattle.poll_listing.specs.Listing.{ListingValue, IsListing, entry_at, has_entry, is_same_kind}
use Rattle.poll_listing.specs.Changes.{changes, created, gone, is_of_kind, is_rewritten, is_same_number, is_same_state, is_same_time, lies_below, lies_in, removal, creation, rewrite, removed, rewritten, staying}
use Rattle.poll_listing.proofs.PairLemmas.{AreAbove, at_itself, turned_less}
use Rattle.poll_listing.proofs.WalkLemmas.{has_entry-some}

-- a kind is the same as itself
pub same_kind : (kind : EntryKind) → is_same_kind kind kind ≡ true
same_kind File = refl
same_kind Folder = refl
same_kind Other = refl

-- a time is the same as itself
same_time : (time : Option ℕ) → is_same_time time time ≡ true
same_time None = refl
same_time (Some t) = nat_eq_equiv.refl t

-- a number is the same as itself
same_number : (number : FileNumber) → is_same_number number number ≡ true
same_number Unknown = refl
same_number (Known device file) = ap (λ b. b && (file == file)) (nat_eq_equiv.refl device) ∙ nat_eq_equiv.refl file

-- nothing was rewritten where all is the same
pub same_state : (f : Found) → is_same_state f f ≡ true
same_state f =
    ap (λ b. b && (is_same_time f.modified f.modified && is_same_number f.number f.number))
    (nat_eq_equiv.refl f.length)
    ∙ (ap (λ b. b && is_same_number f.number f.number) (same_time f.modified) ∙ same_number f.number)

-- each entry is what a look-up at its path finds
pub own : (es : ListingValue) → IsStrictlySortedBy path_cmp (keys_of es) →
    AllByRecursion (λ e. entry_at es e.0 ≡ Some e.1) es
own [] s = tt
own (e ∷ es) s = (
  rw (at_itself e.0) refl,
  past es (sorted_head path_cmp e.0 (keys_of es) s) (own es (sorted_tail path_cmp e.0 (keys_of es) s)),
)
  where
    past : (xs : ListingValue) → AreAbove e.0 (keys_of xs) →
        AllByRecursion (λ x. entry_at es x.0 ≡ Some x.1) xs →
        AllByRecursion (λ x. entry_at (e ∷ es) x.0 ≡ Some x.1) xs
    past [] a h = tt
    past (x ∷ xs) a h = (rw (turned_less e.0 x.0 a.0) h.0, past xs a.1 h.1)

-- a test that no entry passes, where look-ups find each
none_pass : (t : Option Found → PathValue × Found → Bool) → ((e : PathValue × Found) → t (Some e.1) e ≡ false) →
    (all es : ListingValue) → AllByRecursion (λ e. entry_at all e.0 ≡ Some e.1) es →
    filter (λ e. t (entry_at all e.0) e) es ≡ []
none_pass t fails all [] h = refl
none_pass t fails all (e ∷ es) h = rw (ap (λ o. t o e) h.0 ∙ fails e) (none_pass t fails all es h.1)

-- all entries are left by a test that is true
filter-all : (es : ListingValue) → filter (λ e. true) es ≡ es
filter-all [] = refl
filter-all (e ∷ es) = ap (λ r. e ∷ r) (filter-all es)

-- a listing has no changes from itself
pub no_changes : (es : ListingValue) → IsListing es → changes es es ≡ []
no_changes es law =
    let each = own es law.ordered in
    let none_gone : gone es es ≡ [] =
    none_pass (λ o e. not (is_of_kind e.1.kind o)) (λ e. ap not (same_kind e.1.kind)) es es each in
    let none_removed : removed es es ≡ [] = ap (λ g. filter (λ e. not (lies_below g e.0)) g) none_gone in
    let all_stay : staying es es ≡ es = ap (λ g. filter (λ e. not (lies_in g e.0)) es) none_gone ∙ filter-all es in
    let none_created : created es es ≡ [] =
    ap (λ s. filter (λ e. not (has_entry s e.0)) es) all_stay
    ∙ (filter-alike es ∙ none_pass (λ o e. not (is_some o)) (λ e. refl) es es each) in
    let none_rewritten : rewritten es es ≡ [] =
    ap (filter (λ e. is_rewritten e.1 (entry_at es e.0))) all_stay
    ∙ none_pass (λ o e. is_rewritten e.1 o) (λ e. ap not (same_state e.1)) es es each in
    ap (λ r. map removal r ++ (map creation (created es es) ++ map rewrite (rewritten es es))) none_removed
    ∙ (ap (λ r. map creation r ++ map rewrite (rewritten es es)) none_created ∙ ap (map rewrite) none_rewritten)
  where
    filter-alike : (xs : ListingValue) → filter (λ e. not (has_entry es e.0)) xs
        ≡ filter (λ e. not (is_some (entry_at es e.0))) xs
    filter-alike [] = refl
    filter-alike (x ∷ xs) = rw (has_entry-some es x.0, filter-alike xs) refl
