-- What the program does with its input: queries, and what is written of them.
use Rattle.std.specs.Prelude.{◌≡◌, ℕ, Bool, true, List, [], ◌∷◌, ◌++◌, Option, None, Some, is_some}
use Rattle.std.specs.List.{list_all}
use Rattle.std.specs.Io.KnownBytes.{Appends}
use Rattle.notify_paths.specs.Path.{PathValue}
use Rattle.debounce_model.specs.Play.{events_of}
use Rattle.poll_listing.specs.Listing.{ListingValue}
use Rattle.reader_paths.specs.Plan.Naming.{namings}
use Rattle.program_logic.specs.Words.Answer.{answer_to}
use Rattle.program_logic.specs.Words.Index.{IndexValue}
use Rattle.program_logic.specs.Words.Kept.{CatchesUp, Readings, Takes}

-- a line of the input: a word, or none, since it can't be read
abbrev pub Query : Type 0
Query = Option (List ℕ)

-- the index and what is written so far
pub record Served : Type 0 where
  pub index : IndexValue
  pub out : Option (List ℕ)

-- what was reported was taken in, and then the word was answered, with an empty line after the answer; a line that
-- can't be read has an empty answer
abbrev pub Answers : Readings → PathValue → Query → Served → Served → Type 0
Answers readings folder (Some word) old new =
    CatchesUp readings folder old.index new.index × Appends old.out new.out (answer_to new.index word ++ 10 ∷ [])
Answers readings folder None old new = (new.index ≡ old.index) × Appends old.out new.out (10 ∷ [])

-- the queries were answered, in order
abbrev pub AnswersEach : Readings → PathValue → List Query → Served → Served → Type 0
AnswersEach readings folder [] old new = new ≡ old
AnswersEach readings folder (query ∷ queries) old new =
    (next : Served) × Answers readings folder query old next × AnswersEach readings folder queries next new

-- some queries were answered, in order; `all` says whether each could be read
abbrev pub AnswersAll : Readings → PathValue → Bool → Served → Served → Type 0
AnswersAll readings folder all old new =
    (queries : List Query) × AnswersEach readings folder queries old new × (all ≡ list_all is_some queries)

-- what a listing of the folder names was taken first
abbrev pub Begins : Readings → PathValue → IndexValue → IndexValue → Type 0
Begins readings folder old new =
    (listing : ListingValue) × Takes readings (events_of (namings folder listing)) old new

-- after the beginning the one query was answered, of what the index had then; or else those of the input
abbrev pub AnswersQuery : Readings → PathValue → Option (List ℕ) → Bool → Served → Served → Type 0
AnswersQuery readings folder (Some word) all old new =
    (new.index ≡ old.index) × Appends old.out new.out (answer_to old.index word) × (all ≡ true)
AnswersQuery readings folder None all old new = AnswersAll readings folder all old new

-- the folder's documents were indexed, and then the queries were answered
abbrev pub Serves : Readings → PathValue → Option (List ℕ) → Bool → Served → Served → Type 0
Serves readings folder query all old new =
    (first : IndexValue) × Begins readings folder old.index first
    × AnswersQuery readings folder query all (record { index = first; out = old.out }) new
