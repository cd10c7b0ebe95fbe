-- The configuration in force, and what is printed of it.
use Rattle.std.specs.Prelude.{◌≡◌, ◌⊎◌, ◌≤◌, ℕ, List, Option, None, Some, IsSomeAnd, codes}
use Rattle.std.specs.Io.KnownBytes.{Appends}
use Rattle.program_frame.specs.Whole.Output.{WritesFront}
use Rattle.toml.specs.Data.{Members, members_depth}
use Rattle.toml.specs.Parse.{parse_document}
use Rattle.toml.specs.View.{table_view}
use Rattle.program_logic.specs.declared.config.Config.{Config}
use Rattle.program_logic.specs.Config.Paragraph.{paragraph_of}

-- the configuration in force is the one that the text was read as
abbrev pub Holds : List ℕ → Option Config → Type 0
Holds text in_force =
    IsSomeAnd in_force (λ config. parse_document text ≡ Some (table_view config.table))

-- the lines are `loaded` and a text that is read as these members, if they don't nest too deep to be read
abbrev pub ShowsMembers : Members → List ℕ → Type 0
ShowsMembers members lines =
    (shown : List ℕ) × ((lines ≡ paragraph_of (codes "loaded") shown)
    × (members_depth members ≤ 80 → parse_document shown ≡ Some members))

-- the text was read, is in force, and is shown
abbrev pub IsLoaded : List ℕ → Option Config → List ℕ → Type 0
IsLoaded text in_force lines =
    Holds text in_force
    × ((members : Members) × ((parse_document text ≡ Some members) × ShowsMembers members lines))

-- the lines are `kept` and some complaint
abbrev pub IsComplaint : List ℕ → Type 0
IsComplaint lines = (complaint : List ℕ) × (lines ≡ paragraph_of (codes "kept") complaint)

-- the text is no document, and the lines say so
abbrev pub IsRefused : List ℕ → List ℕ → Type 0
IsRefused text lines = (parse_document text ≡ None) × IsComplaint lines

-- the text is in force now and shown; or it is refused, and what was in force still is
abbrev pub Follows : List ℕ → Option Config → Option Config → List ℕ → Type 0
Follows text old new lines = IsLoaded text new lines ⊎ (IsRefused text lines × (new ≡ old))

-- what was written is some lines of which this holds
abbrev pub Prints : Option (List ℕ) → Option (List ℕ) → (List ℕ → Type 0) → Type 0
Prints old new Holding = (lines : List ℕ) × (Appends old new lines × Holding lines)

-- a beginning of such lines was
abbrev pub PrintsFront : Option (List ℕ) → Option (List ℕ) → (List ℕ → Type 0) → Type 0
PrintsFront old new Holding = (lines : List ℕ) × (WritesFront old lines new × Holding lines)

-- what is in force after a reading, and lines that say so; a file that can't be read is as one whose text is refused
abbrev pub Becomes : Option (List ℕ) → Option Config → Option Config → List ℕ → Type 0
Becomes (Some text) old new lines = Follows text old new lines
Becomes None old new lines = IsComplaint lines × (new ≡ old)
