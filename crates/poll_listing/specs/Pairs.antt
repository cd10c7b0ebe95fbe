-- Two listings side by side, as their comparison walks over them. The clauses of functions inside this crate cite this.
use Rattle.std.specs.Prelude.{Bool, true, false, not, List, [], ◌∷◌, ◌++◌, map, Option, None, Some, if◌then◌else◌}
use Rattle.std.specs.Ordering.{match_ordering}
use Rattle.notify_types.specs.Event.{EventValue}
use Rattle.notify_paths.specs.Path.{PathValue, path_cmp, is_prefix}
use Rattle.poll_listing.specs.declared.entry.Found.{Found}
use Rattle.poll_listing.specs.declared.pairs.Change.{Change}
use Rattle.poll_listing.specs.declared.pairs.Change.TheVariants.{Removed, Created, Replaced, Rewritten, Same}
use Rattle.poll_listing.specs.declared.updates.Update.{Update}
use Rattle.poll_listing.specs.Listing.{ListingValue, is_same_kind}
use Rattle.poll_listing.specs.Updates.{UpdatesValue, found_after}
use Rattle.poll_listing.specs.Changes.{event_at, is_same_state, removal_of, creation_of, rewriting}

-- a path, and what stands there before and after
pub record PairValue : Type 0 where
  pub path : PathValue
  pub before : Option Found
  pub after : Option Found

-- an old entry that has no new one
abbrev pub only_old : PathValue × Found → PairValue
only_old e = record { path = e.0; before = Some e.1; after = None }

-- a new entry that has no old one
abbrev pub only_new : PathValue × Found → PairValue
only_new e = record { path = e.0; before = None; after = Some e.1 }

-- an old and a new entry at one path
abbrev pub both : PathValue × Found → PathValue × Found → PairValue
both o n = record { path = o.0; before = Some o.1; after = Some n.1 }

-- the old entry in its place among the new ones, if `next` pairs the other old ones
abbrev pub paired_into : PathValue × Found → (ListingValue → List PairValue) → ListingValue → List PairValue
paired_into o next [] = only_old o ∷ next []
paired_into o next (n ∷ ns) =
    match_ordering (path_cmp o.0 n.0) (only_old o ∷ next (n ∷ ns)) (both o n ∷ next ns)
    (only_new n ∷ paired_into o next ns)

-- the entries of both, in the order of their paths, those of one path together
abbrev pub paired : ListingValue → ListingValue → List PairValue
paired [] ns = map only_new ns
paired (o ∷ os) ns = paired_into o (paired os) ns

-- an entry and what becomes of it
abbrev pub with_update : PathValue × Found → PathValue × Update → PairValue
with_update o u = record { path = o.0; before = Some o.1; after = found_after u.1 }

-- an update of a path that has no entry
abbrev pub only_update : PathValue × Update → PairValue
only_update u = record { path = u.0; before = None; after = found_after u.1 }

-- the entry in its place among the updates, if `next` pairs the other entries
abbrev pub updated_into : PathValue × Found → (UpdatesValue → List PairValue) → UpdatesValue → List PairValue
updated_into o next [] = both o o ∷ next []
updated_into o next (u ∷ us) =
    match_ordering (path_cmp o.0 u.0) (both o o ∷ next (u ∷ us)) (with_update o u ∷ next us)
    (only_update u ∷ updated_into o next us)

-- the entries and what becomes of them, in the order of their paths
abbrev pub updated_pairs : ListingValue → UpdatesValue → List PairValue
updated_pairs [] us = map only_update us
updated_pairs (o ∷ os) us = updated_into o (updated_pairs os) us

-- the entry in front of the others; if there is none, there are no others
abbrev pub with_head : {X : Type 0} → Option X → List X → List X
with_head None es = []
with_head (Some e) es = e ∷ es

-- the path lies at or below the one that went last
abbrev pub is_under : Option PathValue → PathValue → Bool
is_under None path = false
is_under (Some top) path = is_prefix top path

-- an old entry that has a new one
abbrev pub change_both : Bool → Found → Found → Change
change_both under b a =
    if under then Created a.kind
    else (if not (is_same_kind b.kind a.kind) then Replaced b.kind a.kind
    else (if not (is_same_state b a) then Rewritten else Same))

-- what happened, below a path that went or not
abbrev pub change_at : Bool → Option Found → Option Found → Change
change_at under None None = Same
change_at under None (Some a) = Created a.kind
change_at under (Some b) None = if under then Same else Removed b.kind
change_at under (Some b) (Some a) = change_both under b a

-- the old entry went
abbrev pub goes : Change → Bool
goes (Removed k) = true
goes (Replaced k j) = true
goes (Created k) = false
goes Rewritten = false
goes Same = false

-- the events so far, in three parts
pub record PartsValue : Type 0 where
  pub removed : List EventValue
  pub created : List EventValue
  pub rewritten : List EventValue

-- no events
abbrev pub no_parts : PartsValue
no_parts = record { removed = []; created = []; rewritten = [] }

-- some events, and then others
abbrev pub joined : PartsValue → PartsValue → PartsValue
joined a b = record {
  removed = a.removed ++ b.removed;
  created = a.created ++ b.created;
  rewritten =
      a.rewritten ++ b.rewritten;
}

-- the events of one change
abbrev pub parts_of : Change → PathValue → PartsValue
parts_of (Removed k) path = record no_parts { removed = event_at (removal_of k) path ∷ [] }
parts_of (Created k) path = record no_parts { created = event_at (creation_of k) path ∷ [] }
parts_of (Replaced j k) path = record {
  removed = event_at (removal_of j) path ∷ [];
  created =
      event_at (creation_of k) path ∷ [];
  rewritten = [];
}
parts_of Rewritten path = record no_parts { rewritten = event_at rewriting path ∷ [] }
parts_of Same path = no_parts

-- what happened at a pair
abbrev pub change_of : Option PathValue → PairValue → Change
change_of top p = change_at (is_under top p.path) p.before p.after

-- the path that went last, after a pair
abbrev pub top_after : Option PathValue → PairValue → Option PathValue
top_after top p = if goes (change_of top p) then Some p.path else top

-- the events of all pairs
abbrev pub walk : Option PathValue → List PairValue → PartsValue
walk top [] = no_parts
walk top (p ∷ ps) = joined (parts_of (change_of top p) p.path) (walk (top_after top p) ps)
