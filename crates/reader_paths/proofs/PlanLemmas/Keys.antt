-- The keys of a map's entries, after what is done to the entries. `wanted` cites these.
use Rattle.std.proofs.Common.{◌≡◌, Bool, true, false, cond, List, [], ◌∷◌, refl, ap}
use Rattle.std.specs.Prelude.{filter}
use Rattle.std.specs.declared.cmp.Ordering.{Ordering}
use Rattle.std.specs.declared.cmp.Ordering.TheVariants.{Less, Equal, Greater}
use Rattle.std.specs.Ordering.{match_ordering}
use Rattle.std.specs.Map.{keys_of}
use Rattle.std.specs.BTreeMap.{insert_entry}
use Rattle.std.specs.BTreeSet.{insert_key}

module _ {K X : Type 0} where
  -- an entry that is inserted inserts its key
  pub keys_of-insert_entry : (R : K → K → Ordering) (es : List (K × X)) (k : K) (v : X) →
      keys_of (insert_entry R es k v) ≡ insert_key R (keys_of es) k
  keys_of-insert_entry R [] k v = refl
  keys_of-insert_entry R (e ∷ es) k v = by (R k e.0) (keys_of-insert_entry R es k v)
    where
      by : (o : Ordering) → keys_of (insert_entry R es k v) ≡ insert_key R (keys_of es) k →
          keys_of (match_ordering o ((k, v) ∷ e ∷ es) ((e.0, v) ∷ es) (e ∷ insert_entry R es k v))
          ≡ match_ordering o (k ∷ e.0 ∷ keys_of es) (e.0 ∷ keys_of es) (e.0 ∷ insert_key R (keys_of es) k)
      by Less more = refl
      by Equal more = refl
      by Greater more = ap (λ ks. e.0 ∷ ks) more

  -- entries that are kept by their keys keep the keys that pass
  pub keys_of-filter : (p : K → Bool) (es : List (K × X)) → keys_of (filter (λ e. p e.0) es)
      ≡ filter p (keys_of es)
  keys_of-filter p [] = refl
  keys_of-filter p (e ∷ es) = by (p e.0) (keys_of-filter p es)
    where
      by : (b : Bool) → keys_of (filter (λ e. p e.0) es) ≡ filter p (keys_of es) →
          keys_of (cond b (e ∷ filter (λ e. p e.0) es) (filter (λ e. p e.0) es))
          ≡ cond b (e.0 ∷ filter p (keys_of es)) (filter p (keys_of es))
      by true more = ap (λ ks. e.0 ∷ ks) more
      by false more = more
