-- Paths at which documents are read.
use Rattle.std.proofs.Common.{◌≡◌, true, inl, inr, List, [], ◌∷◌, subst, sym}
use Rattle.std.specs.BTreeMap.{is_at}
use Rattle.std.specs.List.{AllByRecursion}
use Rattle.std.proofs.lemmas.Bool.{or_left, or_right}
use Rattle.std.proofs.lemmas.List.Elements.{All-nil}
use Rattle.std.proofs.lemmas.Map.Views.{All-keys-insert_entry}
use Rattle.notify_paths.specs.Path.{PathValue, path_cmp}
use Rattle.debounce_model.specs.Play.{Paths, has_path}
use Rattle.debounce_laws.proofs.PathSets.{tied_to_itself}
use Rattle.program_logic.specs.Words.Index.{IndexValue}
use Rattle.document_index.specs.Read.{IsReadAmong, PutsAt}

-- paths are among others, if what has them has those
among : (ps qs : Paths) → ((p : PathValue) → has_path qs p ≡ true → has_path ps p ≡ true) →
    AllByRecursion (λ p. has_path ps p ≡ true) qs
among ps [] h = tt
among ps (q ∷ qs) h = (
  h q (or_left _ (has_path qs q) (tied_to_itself q)),
  among ps qs (λ p i. h p (or_right _ (has_path qs p) i)),
)

-- paths are among themselves
pub among_themselves : (ps : Paths) → AllByRecursion (λ p. has_path ps p ≡ true) ps
among_themselves ps = among ps ps (λ p i. i)

-- nothing is read among any paths
pub nothing_among : (ps : Paths) (read : IndexValue) → read ≡ [] → IsReadAmong ps read
nothing_among ps read e = subst (IsReadAmong ps) (sym e) (All-nil (λ p. has_path ps p ≡ true))

-- what is read at one of the paths is read among them
pub puts_among : (ps : Paths) (p : PathValue) (old new : IndexValue) → has_path ps p ≡ true → PutsAt p old new →
    IsReadAmong ps old → IsReadAmong ps new
puts_among ps p old new h (inl same) named = subst (IsReadAmong ps) (sym same) named
puts_among ps p old new h (inr puts) named =
    subst (IsReadAmong ps) (sym puts.1)
    (All-keys-insert_entry path_cmp p puts.0 (λ q. has_path ps q ≡ true) old named h)
