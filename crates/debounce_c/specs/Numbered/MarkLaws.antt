-- Laws of a table of numbers, which only its impl cites. Nothing here defines anything.
use Rattle.std.specs.Prelude.{◌≡◌, [], ◌∷◌}
use Rattle.std.proofs.Common.{◌∙◌, inl, inr}
use Rattle.debounce_model.specs.Cache.{Roots, AreMade, IsStopped, adds_of}
use Rattle.debounce_c.specs.Numbered.Marks.{Marks, table_rules}

-- adding roots in order leaves the table as it was
pub table-rescan : (c : Marks) (roots : Roots) (d : Marks) → AreMade table_rules c (adds_of roots) d → d ≡ c
table-rescan c [] d h = h
table-rescan c (r ∷ roots) d (m, is, more) = table-rescan m roots d more ∙ is

-- adding roots in order is never refused
pub table-stopped : (c : Marks) (roots : Roots) (d : Marks) → IsStopped table_rules c (adds_of roots) d → ⊥
table-stopped c [] d h = h
table-stopped c (r ∷ roots) d (inl h) = h
table-stopped c (r ∷ roots) d (inr (m, is, more)) = table-stopped m roots d more
