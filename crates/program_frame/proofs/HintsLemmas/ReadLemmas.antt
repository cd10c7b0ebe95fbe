-- Hints that are given while an input is read.
use Rattle.std.proofs.Common.{◌≡◌, ◌∙◌, refl, sym, subst, ℕ, Bool, List, [], ◌++◌, map, Option, Some, append_assoc, append-nil}
use Rattle.std.specs.Io.KnownBytes.{Consumes}
use Rattle.std.proofs.KnownBytes.{Consumes-nil, Consumes-trans}
use Rattle.program_frame.specs.Hints.Lines.{LinesValue, Gives, Holds, Leads, end_byte, hint_of, lines_of}

-- these bytes were read, and the line holds the last of them: who gives the hints that are left has given all
abbrev pub Read : {S : Type 0} → (S → Option (List ℕ) → Bool → S → Type 0) → LinesValue → Option (List ℕ) → S →
    LinesValue → Option (List ℕ) → S → Type 0
Read takes first known s lines left t = (lines.ends ≡ first.ends) × ((bytes : List ℕ) × (rest : List ℕ)
    × Consumes known left bytes × Holds lines rest × Leads takes
    (λ more. map hint_of (lines_of (end_byte first.ends) (bytes ++ more))) s
    (λ more. map hint_of (lines_of (end_byte first.ends) (rest ++ more))) t)

-- at first nothing was
pub read_none : {S : Type 0} (takes : S → Option (List ℕ) → Bool → S → Type 0) (first : LinesValue)
    (known : Option (List ℕ)) (s : S) → first.held ≡ Some [] → Read takes first known s first known s
read_none takes first known s begun =
    (refl, ([], [], Consumes-nil known, (begun, refl), λ more on new given. given))

-- more bytes were
pub read_more : {S : Type 0} (takes : S → Option (List ℕ) → Bool → S → Type 0) (first : LinesValue)
    (known : Option (List ℕ)) (s : S) (lines after : LinesValue) (left now : Option (List ℕ)) (t u : S)
    (bytes : List ℕ) → Read takes first known s lines left t → Consumes left now bytes → after.ends ≡ lines.ends →
    ((line : List ℕ) → Holds lines line → (rest : List ℕ) × Holds after rest × Leads takes
    (λ more. map hint_of (lines_of (end_byte lines.ends) (line ++ (bytes ++ more)))) t
    (λ more. map hint_of (lines_of (end_byte lines.ends) (rest ++ more))) u) →
    Read takes first known s after now u
read_more takes first known s lines after left now t u bytes r more ends taken =
    let old = r.1.0 in
    let next = taken r.1.1 r.1.3 in (
      ends ∙ r.0,
      (
        old ++ bytes,
        next.0,
        Consumes-trans known left now old bytes r.1.2 more,
        next.1,
        λ rest on new given.
            subst (λ xs. Gives takes (map hint_of (lines_of (end_byte first.ends) xs)) on s new)
            (sym (append_assoc old bytes rest))
            (r.1.4 (bytes ++ rest) on new (subst (λ e. Gives takes (map hint_of (lines_of (end_byte e)
            (r.1.1 ++ (bytes ++ rest)))) on t new) r.0 (next.2 rest on new
            (subst (λ e. Gives takes (map hint_of (lines_of (end_byte e) (next.0 ++ rest))) on u new)
            (sym r.0) given)))),
      ),
    )

-- .. and with them no more is taken
pub read_stopped : {S : Type 0} (takes : S → Option (List ℕ) → Bool → S → Type 0) (first : LinesValue)
    (known : Option (List ℕ)) (s : S) (lines : LinesValue) (left now : Option (List ℕ)) (t u : S) (on : Bool)
    (bytes : List ℕ) → Read takes first known s lines left t → Consumes left now bytes →
    ((line : List ℕ) → Holds lines line → (more : List ℕ) →
    Gives takes (map hint_of (lines_of (end_byte lines.ends) (line ++ (bytes ++ more)))) on t u) →
    (all : List ℕ) × Consumes known now all × Gives takes (map hint_of (lines_of (end_byte first.ends) all)) on s u
read_stopped takes first known s lines left now t u on bytes r more stopped =
    let old = r.1.0 in (
      old ++ bytes,
      Consumes-trans known left now old bytes r.1.2 more,
      subst (λ e. Gives takes (map hint_of (lines_of (end_byte first.ends) (old ++ e))) on s u) (append-nil bytes)
          (r.1.4 (bytes ++ []) on u (subst (λ e. Gives takes (map hint_of (lines_of (end_byte e)
          (r.1.1 ++ (bytes ++ [])))) on t u) r.0 (stopped r.1.1 r.1.3 []))),
    )

-- the reading ends, and the last line is given
pub read_ended : {S : Type 0} (takes : S → Option (List ℕ) → Bool → S → Type 0) (first : LinesValue)
    (known : Option (List ℕ)) (s : S) (lines : LinesValue) (left now : Option (List ℕ)) (t u : S) (on : Bool) →
    Read takes first known s lines left t →
    ((bytes : List ℕ) → Consumes known left bytes → Consumes known now bytes) →
    ((line : List ℕ) → Holds lines line →
    Gives takes (map hint_of (lines_of (end_byte lines.ends) line)) on t u) →
    (all : List ℕ) × Consumes known now all × Gives takes (map hint_of (lines_of (end_byte first.ends) all)) on s u
read_ended takes first known s lines left now t u on r kept ended =
    let old = r.1.0 in
    let line = r.1.1 in (
      old,
      kept old r.1.2,
      subst (λ e. Gives takes (map hint_of (lines_of (end_byte first.ends) e)) on s u) (append-nil old)
          (r.1.4 [] on u (subst (λ e. Gives takes (map hint_of (lines_of (end_byte first.ends) e)) on t u)
          (sym (append-nil line))
          (subst (λ e. Gives takes (map hint_of (lines_of (end_byte e) line)) on t u) r.0 (ended line r.1.3)))),
    )

-- a read that gave nothing
pub consumes_none : (known left now : Option (List ℕ)) (bytes : List ℕ) → Consumes known left bytes →
    Consumes left now [] → Consumes known now bytes
consumes_none known left now bytes h k =
    subst (λ l. Consumes known now l) (append-nil bytes) (Consumes-trans known left now bytes [] h k)
