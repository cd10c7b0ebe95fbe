-- The map of the numbers that scans found: its numbers after each call.
use Rattle.std.specs.Prelude.{◌≡◌, ℕ, Bool, true, false, not, Option, None, if◌then◌else◌, [], ◌∷◌, ◌++◌, length, ◌⊎◌}
use Rattle.std.specs.List.{filter}
use Rattle.std.specs.Map.{keys_of, lookup, update_all}
use Rattle.std.specs.Set.{distinct_count}
use Rattle.notify_paths.specs.Path.{PathValue, path_eq, is_prefix}
use Rattle.notify_types.specs.declared.event.RecursiveMode.{RecursiveMode}
use Rattle.notify_types.specs.declared.event.RecursiveMode.TheVariants.{Recursive, NonRecursive}
use Rattle.debounce_model.specs.declared.file_id.FileId.{FileId}
use Rattle.debounce_model.specs.Cache.{Roots, CacheCall, AddPath, RemovePath, RescanRoots, Rules}
use Rattle.debounce_cache.specs.Scans.{Pairs, ScanRules}

-- the number of each path, if it has one
abbrev pub Numbers : Type 0
Numbers = PathValue → Option FileId

-- the numbers in entries
abbrev pub numbers_in : Pairs → Numbers
numbers_in entries path = lookup (path_eq path) entries

-- the entries hold exactly these numbers
abbrev pub Holds : Pairs → Numbers → Type 0
Holds entries numbers = (path : PathValue) → numbers_in entries path ≡ numbers path

-- the pairs put over the numbers, one after the other: a later pair wins, and no path is dropped
abbrev pub with_pairs : Numbers → Pairs → Numbers
with_pairs numbers pairs = update_all path_eq numbers pairs

-- the numbers without those of paths at or below this one
abbrev pub without_path : Numbers → PathValue → Numbers
without_path numbers path p = if is_prefix path p then None else numbers p

-- how many paths have a number once the pairs were put over the entries
abbrev pub count_with : Pairs → Pairs → ℕ
count_with entries pairs = distinct_count path_eq (keys_of entries ++ keys_of pairs)

-- the entries without those of paths at or below this one
abbrev pub entries_without : Pairs → PathValue → Pairs
entries_without entries path = filter (λ e. not (is_prefix path e.0)) entries

-- the mode asks for all that lies below a path
abbrev pub is_recursive : RecursiveMode → Bool
is_recursive Recursive = true
is_recursive NonRecursive = false

-- a map of numbers: its scan, and its entries, in no order
pub record FileIdMapValue (S : Type 0) : Type 0 where
  pub scan : S
  pub entries : Pairs

module _ {S : Type 0} where
  -- the numbers of a map
  abbrev pub numbers_of : FileIdMapValue S → Numbers
  numbers_of c = numbers_in c.entries

  -- the map's entries are as they were; of its scan nothing is said
  abbrev pub HasSameEntries : FileIdMapValue S → FileIdMapValue S → Type 0
  HasSameEntries c d = d.entries ≡ c.entries

  -- the path was scanned, and what was found was put over the numbers; so many paths have one now
  pub record IsAdded (r : ScanRules S) (c : FileIdMapValue S) (path : PathValue) (mode : RecursiveMode)
      (d : FileIdMapValue S) : Type 0 where
    pub scan : r.leaves c.scan path (is_recursive mode) d.scan
    pub numbers : Holds d.entries (with_pairs (numbers_of c) (r.found d.scan))
    pub count : length d.entries ≡ count_with c.entries (r.found d.scan)

  -- the numbers of paths at or below this one were dropped, and nothing else has changed
  pub record IsRemoved (c : FileIdMapValue S) (path : PathValue) (d : FileIdMapValue S) : Type 0 where
    pub scan : d.scan ≡ c.scan
    pub numbers : Holds d.entries (without_path (numbers_of c) path)
    pub entries : d.entries ≡ entries_without c.entries path

  module _ (r : ScanRules S) where
    -- the roots were added in order
    abbrev pub AreAdded : FileIdMapValue S → Roots → FileIdMapValue S → Type 0
    AreAdded c [] d = d ≡ c
    AreAdded c (root ∷ roots) d = (m : FileIdMapValue S) × IsAdded r c root.0 root.1 m × AreAdded m roots d

    -- the roots were added in order up to one that was refused, which left the entries
    abbrev pub AreAddedBefore : FileIdMapValue S → Roots → FileIdMapValue S → Type 0
    AreAddedBefore c [] d = ⊥
    AreAddedBefore c (root ∷ roots) d =
        HasSameEntries c d ⊎ ((m : FileIdMapValue S) × IsAdded r c root.0 root.1 m × AreAddedBefore m roots d)

    -- what a call that succeeds leaves
    abbrev pub map_leaves : FileIdMapValue S → CacheCall → FileIdMapValue S → Type 0
    map_leaves c (AddPath path mode) d = IsAdded r c path mode d
    map_leaves c (RemovePath path) d = IsRemoved c path d
    map_leaves c (RescanRoots roots) d = AreAdded c roots d

    -- what a refused call leaves: a path that can't be added leaves the entries, and no removal is refused
    abbrev pub map_refused : FileIdMapValue S → CacheCall → FileIdMapValue S → Type 0
    map_refused c (AddPath path mode) d = HasSameEntries c d
    map_refused c (RemovePath path) d = ⊥
    map_refused c (RescanRoots roots) d = AreAddedBefore c roots d

    -- what a map of numbers says of itself, over what its scan says
    abbrev pub map_rules : Rules (FileIdMapValue S)
    map_rules = record {
      numbers = numbers_of;
      leaves = map_leaves;
      refused = map_refused;
      refuses_nothing =
          false;
    }
