-- Lines that are cut out of bytes, and their hints.
use Rattle.std.proofs.Common.{◌≡◌, ◌∙◌, refl, sym, ap, subst, ℕ, ◌≤◌, Bool, true, false, true≢false, not, ◌&&◌, List, [], ◌∷◌, ◌++◌, length, map, ◌==◌, Option, None, Some, if◌then◌else◌, IsUtf8, inl, inr, append_assoc, length-append, leb, ◌<◌, arith}
use Rattle.std.specs.Str.{is_utf8}
use Rattle.std.specs.List.{list_any}
use Rattle.std.proofs.lemmas.Bool.{eq-eqb, le-leb, lt-leb, leb-false, eqb-true, or_parts}
use Rattle.std.proofs.Math.Dec.{eqb-suc-zero}
use Rattle.std.proofs.lemmas.Str.{IsUtf8-from_is_utf8, is_utf8-from_IsUtf8}
use Rattle.program_frame.specs.Hints.Lines.{LinesValue, Gives, Holds, Leads, end_byte, held_hint, held_of, hint_of, is_begun, lines_of, longest, text_in, with_byte}

-- bytes that are UTF-8 are their text
pub text_some : (bytes text : List ℕ) → text ≡ bytes → IsUtf8 bytes → Some text ≡ text_in bytes
text_some bytes text e h = rw (is_utf8-from_IsUtf8 bytes h) (ap Some e)

-- .. and others are none
pub text_none : (bytes : List ℕ) → ¬ (IsUtf8 bytes) → None ≡ text_in bytes
text_none bytes h = by (is_utf8 bytes) refl
  where
    by : (b : Bool) → is_utf8 bytes ≡ b → None ≡ text_in bytes
    by true e = absurd (h (IsUtf8-from_is_utf8 bytes e))
    by false e = rw e refl

-- a line that is not empty and not too long asks for its path
pub hint_named : (line : List ℕ) → (length line == 0) ≡ false → length line ≤ longest → text_in line ≡ hint_of line
hint_named line some short = rw (some, le-leb (length line) longest short) refl

-- an empty one asks for all
pub hint_empty : (line : List ℕ) → (length line == 0) ≡ true → None ≡ hint_of line
hint_empty line none = rw none refl

-- a short line is held as it is
held_short : (line : List ℕ) → leb (length line) longest ≡ true → held_of line ≡ Some line
held_short line e = rw e refl

-- the hint of what is held of a line is the line's
pub hint_held : (line : List ℕ) → held_hint (held_of line) ≡ hint_of line
hint_held line = by (leb (length line) longest) refl
  where
    by : (b : Bool) → leb (length line) longest ≡ b → held_hint (held_of line) ≡ hint_of line
    by true e = ap held_hint (held_short line e)
    by false e = rw e (by_empty (length line == 0))
      where
        by_empty : (b : Bool) → None ≡ (if not b && false then text_in line else None)
        by_empty true = refl
        by_empty false = refl

-- one more byte of a line
pub held_more : (line : List ℕ) (byte : ℕ) → with_byte (held_of line) byte ≡ held_of (line ++ byte ∷ [])
held_more line byte = by (leb (length line) longest) refl
  where
    by : (b : Bool) → leb (length line) longest ≡ b → with_byte (held_of line) byte ≡ held_of (line ++ byte ∷ [])
    by true e = rw e refl
    by false e = rw (e, lt-leb (length (line ++ byte ∷ [])) longest longer) refl
      where
        longer : longest < length (line ++ byte ∷ [])
        longer = omega (arith, leb-false (length line) longest e, length-append line (byte ∷ []))

-- a line ends at the first end
pub lines_more : (end : ℕ) (line more : List ℕ) → list_any (λ byte. byte == end) line ≡ false →
    lines_of end (line ++ end ∷ more) ≡ line ∷ lines_of end more
lines_more end [] more none = rw (eq-eqb end end refl) refl
lines_more end (byte ∷ line) more none =
    let first = or_parts (byte == end) _ none in
    rw (first.0, lines_more end line more first.1) refl

-- the last line has no end
pub lines_last : (end byte : ℕ) (line : List ℕ) → list_any (λ b. b == end) (byte ∷ line) ≡ false →
    lines_of end (byte ∷ line) ≡ (byte ∷ line) ∷ []
lines_last end byte [] none = rw ((or_parts (byte == end) _ none).0) refl
lines_last end byte (next ∷ line) none =
    let first = or_parts (byte == end) _ none in
    rw (first.0, lines_last end next line first.1) refl

-- a byte that is no end belongs to the line
pub open_more : (end byte : ℕ) (line : List ℕ) → list_any (λ b. b == end) line ≡ false → (byte == end) ≡ false →
    list_any (λ b. b == end) (line ++ byte ∷ []) ≡ false
open_more end byte [] none other = rw other refl
open_more end byte (b ∷ line) none other =
    let first = or_parts (b == end) _ none in
    rw (first.0, open_more end byte line first.1 other) refl

-- if nothing stands in the line that is held, it is empty
pub none_begun : (lines : LinesValue) (line : List ℕ) → Holds lines line → is_begun lines.held ≡ false → line ≡ []
none_begun lines [] h none = refl
none_begun lines (byte ∷ line) h none = by (leb (length (byte ∷ line)) longest) refl
  where
    by : (b : Bool) → leb (length (byte ∷ line)) longest ≡ b → byte ∷ line ≡ []
    by true e = absurd (true≢false (rw (h.0, e, eqb-suc-zero (length line)) at none))
    by false e = absurd (true≢false (rw (h.0, e) at none))

-- the last line is given
pub last_given : {S : Type 0} (takes : S → Option (List ℕ) → Bool → S → Type 0) (lines : LinesValue) (on : Bool)
    (s t : S) → is_begun lines.held ≡ true → takes s (held_hint lines.held) on t → (line : List ℕ) →
    Holds lines line → Gives takes (map hint_of (lines_of (end_byte lines.ends) line)) on s t
last_given takes lines on s t begun given [] h = absurd (true≢false (sym (rw h.0 at begun)))
last_given {S} takes lines on s t begun given (byte ∷ line) h =
    rw (lines_last (end_byte lines.ends) byte line h.1)
    (by on (subst (λ hint. takes s hint on t) (ap held_hint h.0 ∙ hint_held (byte ∷ line)) given))
  where
    by : (b : Bool) → takes s (hint_of (byte ∷ line)) b t → Gives takes (hint_of (byte ∷ line) ∷ []) b s t
    by false h = inl (h, refl)
    by true h = inr (t, h, (refl, refl))

-- .. and if there is none, nothing is
pub none_given : {S : Type 0} (takes : S → Option (List ℕ) → Bool → S → Type 0) (lines : LinesValue) (s : S) →
    is_begun lines.held ≡ false → (line : List ℕ) → Holds lines line →
    Gives takes (map hint_of (lines_of (end_byte lines.ends) line)) true s s
none_given takes lines s none line h =
    subst (λ l. Gives takes (map hint_of (lines_of (end_byte lines.ends) l)) true s s)
    (sym (none_begun lines line h none)) (refl, refl)

-- the first bytes were taken, and these are left: who gives the hints that are left has given all
abbrev pub Going : {S : Type 0} → (S → Option (List ℕ) → Bool → S → Type 0) → LinesValue → S → List ℕ → LinesValue →
    S → List ℕ → Type 0
Going takes first s bytes now t left =
    (now.ends ≡ first.ends) × ((line : List ℕ) → Holds first line → (rest : List ℕ) × Holds now rest × Leads takes
    (λ more. map hint_of (lines_of (end_byte first.ends) (line ++ (bytes ++ more)))) s
    (λ more. map hint_of (lines_of (end_byte first.ends) (rest ++ (left ++ more)))) t)

-- at first all bytes are left
pub going_none : {S : Type 0} (takes : S → Option (List ℕ) → Bool → S → Type 0) (first : LinesValue) (s : S)
    (bytes : List ℕ) → Going takes first s bytes first s bytes
going_none takes first s bytes = (refl, λ line h. (line, h, λ more on new given. given))

-- a byte of a line was taken
pub going_push : {S : Type 0} (takes : S → Option (List ℕ) → Bool → S → Type 0) (first : LinesValue) (s : S)
    (bytes : List ℕ) (now after : LinesValue) (t : S) (byte : ℕ) (left : List ℕ) →
    Going takes first s bytes now t (byte ∷ left) → (byte == end_byte first.ends) ≡ false →
    after ≡ record now { held = with_byte now.held byte } → Going takes first s bytes after t left
going_push takes first s bytes now after t byte left g other e =
    rw e (
      g.0,
      λ line h. let r = g.1 line h in (
        r.0 ++ byte ∷ [],
        (
          ap (λ held. with_byte held byte) r.1.0 ∙ held_more r.0 byte,
          open_more (end_byte now.ends) byte r.0 r.1.1 (rw g.0 other),
        ),
        λ more on new given. r.2 more on new
            (subst (λ xs. Gives takes (map hint_of (lines_of (end_byte first.ends) xs)) on t new)
            (append_assoc r.0 (byte ∷ []) (left ++ more)) given),
      ),
    )

-- the hint of a line that ends is given
end_given : {S : Type 0} (takes : S → Option (List ℕ) → Bool → S → Type 0) (first now : LinesValue) (t u : S)
    (byte : ℕ) (rest more : List ℕ) (answer : Bool) → now.ends ≡ first.ends → Holds now rest →
    (byte == end_byte first.ends) ≡ true → takes t (held_hint now.held) answer u →
    (lines_of (end_byte first.ends) (rest ++ byte ∷ more) ≡ rest ∷ lines_of (end_byte first.ends) more)
    × takes t (hint_of rest) answer u
end_given takes first now t u byte rest more answer ends h end given = (
  rw (eqb-true byte (end_byte first.ends) end)
      (lines_more (end_byte first.ends) rest more (subst (λ e. list_any (λ b. b == end_byte e) rest ≡ false) ends h.1)),
  subst (λ hint. takes t hint answer u) (ap held_hint h.0 ∙ hint_held rest) given,
)

-- .. and the next line begins
pub going_give : {S : Type 0} (takes : S → Option (List ℕ) → Bool → S → Type 0) (first : LinesValue) (s : S)
    (bytes : List ℕ) (now after : LinesValue) (t u : S) (byte : ℕ) (left : List ℕ) →
    Going takes first s bytes now t (byte ∷ left) → (byte == end_byte first.ends) ≡ true →
    takes t (held_hint now.held) true u → after ≡ record now { held = Some [] } →
    Going takes first s bytes after u left
going_give takes first s bytes now after t u byte left g end given e =
    rw e (
      g.0,
      λ line h. let r = g.1 line h in (
        [],
        (refl, refl),
        λ more on new rest. let one = end_given takes first now t u byte r.0 (left ++ more) true g.0 r.1 end given in
            r.2 more on new (rw one.0 (inr (u, one.1, rest))),
      ),
    )

-- .. or no more is taken
pub going_stop : {S : Type 0} (takes : S → Option (List ℕ) → Bool → S → Type 0) (first : LinesValue) (s : S)
    (bytes : List ℕ) (now : LinesValue) (t u : S) (byte : ℕ) (left : List ℕ) →
    Going takes first s bytes now t (byte ∷ left) → (byte == end_byte first.ends) ≡ true →
    takes t (held_hint now.held) false u → (line : List ℕ) → Holds first line → (more : List ℕ) →
    Gives takes (map hint_of (lines_of (end_byte first.ends) (line ++ (bytes ++ more)))) false s u
going_stop takes first s bytes now t u byte left g end given line h more =
    let r = g.1 line h in
    let one = end_given takes first now t u byte r.0 (left ++ more) false g.0 r.1 end given in
    r.2 more false u (rw one.0 (inl (one.1, refl)))
