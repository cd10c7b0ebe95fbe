-- A law of the classes of kinds. Nothing here that another file needs.
use Rattle.std.specs.Prelude.{◌≡◌, ℕ, ◌+◌, Bool, true, false, refl}
use Rattle.notify_types.specs.declared.kind.EventKind.{EventKind}
use Rattle.notify_types.specs.declared.kind.EventKind.TheVariants as kind
use Rattle.notify_types.specs.declared.kind.ModifyKind.TheVariants as modify
use Rattle.notify_types.specs.declared.kind.RenameMode.TheVariants as rename
use Rattle.notify_types.specs.Kinds.{is_creation, is_removal, is_rename, is_ignored, is_plain}

-- one if it is so, else none
abbrev pub counted : Bool → ℕ
counted true = 1
counted false = 0

-- in how many of the five classes a kind is
abbrev pub class_count : EventKind → ℕ
class_count k = counted (is_creation k) + counted (is_removal k) + counted (is_rename k) + counted
    (is_ignored k) + counted (is_plain k)

-- each kind is in exactly one class
pub one_class : (k : EventKind) → class_count k ≡ 1
one_class kind.Any = refl
one_class (kind.Access k) = refl
one_class (kind.Create k) = refl
one_class (kind.Modify (modify.Name rename.Both)) = refl
one_class (kind.Modify (modify.Name rename.Other)) = refl
one_class (kind.Modify k) = refl
one_class (kind.Remove k) = refl
one_class kind.Other = refl
