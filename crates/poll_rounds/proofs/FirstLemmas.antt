-- The first parts of a path, from which the last ones are taken one by one.
use Rattle.std.proofs.Common.{◌≡◌, ℕ, ◌+◌, ◌-◌, ◌<◌, ◌≤◌, arith, List, [], ◌∷◌, length, map, take, take_all, ap, sym, ◌∙◌, Some, None}
use Rattle.std.specs.Prelude.{Option}
use Rattle.std.specs.Path.{IsLastComponent, component_bytes}
use Rattle.std.specs.declared.path.components.Component.{Component}
use Rattle.std.proofs.lemmas.List.{length-append, length-map, map-append, take-append-le}
use Rattle.notify_paths.specs.Path.{PathValue}
use Rattle.notify_paths.specs.PathText.{part_of}

-- these components have the path's first parts, and as many others as there are between the places
pub record AreFirst (path : PathValue) (count later : ℕ) (components : List (List ℕ)) : Type 0 where
  pub first : take count (map part_of components) ≡ take count path
  pub left : length components + (later - count) ≡ length path

-- all are left
pub first_begun : (path : PathValue) (components : List (List ℕ)) (count : ℕ) → map part_of components ≡ path →
    AreFirst path count count components
first_begun path components count h =
    let long : length components ≡ length path = sym (length-map components part_of) ∙ ap length h in
    record { first = ap (take count) h; left = omega (arith, long) }

-- the last one goes
pub first_fewer : (path : PathValue) (count later : ℕ) (before after : List (List ℕ))
    (last : Option Component) → count ≤ later → later < length path → IsLastComponent before last after →
    AreFirst path count later before → AreFirst path count (later + 1) after
first_fewer path count later before after None low high h a =
    absurd (omega (arith, low, high, a.left, ap length h.0))
first_fewer path count later before after (Some x) low high h a =
    let one : length before ≡ length after + 1 = ap length h.0 ∙ length-append after (component_bytes x ∷ []) in
    let long : length (map part_of after) ≡ length after = length-map after part_of in
    let enough : count ≤ length (map part_of after) = omega (arith, low, high, a.left, one, long) in
    record {
      first = sym (take-append-le count (map part_of after) (part_of (component_bytes x) ∷ []) enough)
          ∙ (ap (take count) (sym (ap (map part_of) h.0 ∙ map-append part_of after (component_bytes x ∷ [])))
          ∙ a.first);
      left = omega (arith, low, high, a.left, one);
    }

-- no others are left
pub first_ended : (path : PathValue) (count later : ℕ) (components : List (List ℕ)) → count ≤ later →
    length path ≤ later → AreFirst path count later components → map part_of components ≡ take count path
first_ended path count later components low high a =
    let long : length (map part_of components) ≡ length components = length-map components part_of in
    sym (take_all count (map part_of components) (omega (arith, low, high, a.left, long))) ∙ a.first
