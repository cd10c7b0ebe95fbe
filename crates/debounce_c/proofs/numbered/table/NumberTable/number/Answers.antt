use Rattle.std.proofs.Common.{refl}
use Rattle.std.proofs.lemmas.Map.Made.{lookup-map_values}
use Rattle.debounce_c.specs.declared.numbered.table.Marked.{Marked}
use Rattle.debounce_c.proofs.numbered.table.NumberTable.number.Goals as goal

pub returns-in-Some : goal.returns-in-Some
returns-in-Some c = rw (lookup-map_values (λ (m : Marked). m.id) _ c.args.self.now, ← c.in-Some.ensures) refl

pub returns-in-None : goal.returns-in-None
returns-in-None c = rw (lookup-map_values (λ (m : Marked). m.id) _ c.args.self.now, ← c.in-None.ensures) refl
