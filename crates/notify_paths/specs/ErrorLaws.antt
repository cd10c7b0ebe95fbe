-- Laws of the equality of errors, which only impls and other laws cite. Nothing here defines anything.
use Rattle.std.specs.Prelude.{◌≡◌, true, false, List, refl}
use Rattle.std.specs.Bool.{Decides}
use Rattle.std.specs.Cmp.{IsEquivalence, decided}
use Rattle.std.specs.Cmp.Lexicographic.{pointwise, pointwise_decides, bytes_decides}
use Rattle.std.specs.declared.io.ErrorKind.{ErrorKind}
use Rattle.std.specs.contracts.io.ErrorKind.{the_type}
use Rattle.std.proofs.Common.{ap, sym, true≢false}
use Rattle.std.proofs.lemmas.Bool.Decides.{Decides-and, Decides-like}
use denote.Enum.Bare.{same_true, true_same}
use Rattle.notify_paths.specs.ErrorEquality.{io_kind_eq, error_kind_eq, error_eq}
use Rattle.notify_paths.specs.Errors.{ErrorKindValue, ErrorValue, GenericKind, IoKind, PathNotFoundKind, WatchNotFoundKind, FullKind, MemoryKind}
use Rattle.notify_paths.specs.Path.{PathValue, path_eq}
use Rattle.notify_paths.specs.PathLaws.{path_eq_decides}

-- what is so is decided by true
pub Decides-true : {P : Type 0} → P → Decides true P
Decides-true p = (λ _. p, λ _. refl)

-- what is not so is decided by false
pub Decides-false : {P : Type 0} → (P → ⊥) → Decides false P
Decides-false p = (λ h. absurd (true≢false (sym h)), λ h. absurd (p h))

-- the test of lists of paths decides whether they are one
pub paths_eq_decides : (a b : List PathValue) → Decides (pointwise path_eq a b) (a ≡ b)
paths_eq_decides = pointwise_decides path_eq_decides

-- the test of std's kinds of errors decides whether they are one
pub io_kind_eq_decides : (a b : ErrorKind) → Decides (io_kind_eq a b) (a ≡ b)
io_kind_eq_decides a b = (same_true the_type tt a b, true_same the_type a b)

-- the test of what went wrong decides whether it is one
pub error_kind_eq_decides : (a b : ErrorKindValue) → Decides (error_kind_eq a b) (a ≡ b)
error_kind_eq_decides (GenericKind x) (GenericKind y) =
    (λ h. ap GenericKind ((bytes_decides x y).0 h), λ e. (bytes_decides x y).1 cc)
error_kind_eq_decides (IoKind x) (IoKind y) =
    (λ h. ap IoKind ((io_kind_eq_decides x y).0 h), λ e. (io_kind_eq_decides x y).1 cc)
error_kind_eq_decides PathNotFoundKind PathNotFoundKind = Decides-true refl
error_kind_eq_decides WatchNotFoundKind WatchNotFoundKind = Decides-true refl
error_kind_eq_decides FullKind FullKind = Decides-true refl
error_kind_eq_decides MemoryKind MemoryKind = Decides-true refl
error_kind_eq_decides a b = Decides-false (λ e. cc)

-- the test of errors decides whether they are one
pub error_eq_decides : (a b : ErrorValue) → Decides (error_eq a b) (a ≡ b)
error_eq_decides a b =
    let kind = error_kind_eq_decides a.kind b.kind in
    let paths = paths_eq_decides a.paths b.paths in
    Decides-like _ (λ p i. record { kind = p.0 i; paths = p.1 i }) (λ e. (cc, cc)) (Decides-and _ _ kind paths)

-- equality of what went wrong is an equivalence
pub error_kind_eq_equiv : IsEquivalence error_kind_eq
error_kind_eq_equiv = decided error_kind_eq error_kind_eq_decides

-- equality of errors is an equivalence
pub error_eq_equiv : IsEquivalence error_eq
error_eq_equiv = decided error_eq error_eq_decides
