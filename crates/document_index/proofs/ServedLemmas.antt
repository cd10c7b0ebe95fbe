-- Reports that are taken, and queries that are answered, one after the other. The loops of the program cite these.
use Rattle.std.proofs.Common.{◌≡◌, ◌∙◌, ap, refl, subst, sym, List, [], ◌∷◌, Bool, true, false, ◌&&◌}
use Rattle.std.specs.Prelude.{ℕ, Option, Result, Ok, Err, None, Some, is_some, IfOk}
use Rattle.std.specs.List.{list_all}
use Rattle.std.specs.declared.alloc.Global.{Global}
use Rattle.notify_watch.specs.Handler.{Outcome}
use Rattle.program_logic.specs.Words.Index.{IndexValue}
use Rattle.program_logic.specs.Words.Kept.{CatchesUp, Readings, TakesEach}
use Rattle.notify_paths.specs.Path.{PathValue}
use Rattle.std.specs.Io.KnownBytes.{Appends}
use Rattle.program_logic.specs.Words.Answer.{answer_to}
use Rattle.document_index.specs.Answered.{Answers, AnswersAll, AnswersEach, Begins, Query, Served, Serves}

-- a report that was taken before the others
pub taken_first : (readings : Readings) (folder : PathValue) (report : Outcome Global) (old between new : IndexValue)
    → TakesEach readings folder (report ∷ []) old between → CatchesUp readings folder between new
    → CatchesUp readings folder old new
taken_first readings folder (Ok batch) old between new taken more =
    (Ok batch ∷ more.0, more.1, more.2, (taken.0, taken.1, rw taken.2 at more.3), more.4)
taken_first readings folder (Err errors) old between new taken more =
    (Err errors ∷ more.0, more.1, more.2, rw taken at more.3, more.4)

-- a query that was answered of this folder
pub answered_of : (readings : Readings) (folder folder' : PathValue) (query : Query) (old new : Served)
    → folder ≡ folder' → Answers readings folder query old new → Answers readings folder' query old new
answered_of readings folder folder' query old new same answered =
    subst (λ f. Answers readings f query old new) same answered

-- the queries that are still answered, and whether all could be read, if those before could
abbrev pub AnswersMore : Readings → PathValue → Bool → Bool → Served → Served → Type 0
AnswersMore readings folder before all old new =
    (queries : List Query) × AnswersEach readings folder queries old new × (all ≡ (before && list_all is_some queries))

-- whether all could be read, one by one
and_assoc : (a b c : Bool) → ((a && b) && c) ≡ (a && (b && c))
and_assoc true b c = refl
and_assoc false b c = refl

-- no further query
pub answered_none : (readings : Readings) (folder : PathValue) (all : Bool) (state : Served)
    → AnswersMore readings folder all all state state
answered_none readings folder true state = ([], refl, refl)
answered_none readings folder false state = ([], refl, refl)

-- a query that was answered before the others
pub answered_first : (readings : Readings) (folder : PathValue) (query : Query) (before ok now all : Bool)
    (old between new : Served) → is_some query ≡ ok → Answers readings folder query old between → now ≡ (before && ok)
    → AnswersMore readings folder now all between new → AnswersMore readings folder before all old new
answered_first readings folder query before ok now all old between new same first e more = (
  query ∷ more.0,
  (between, first, more.1),
  more.2 ∙ ap (λ b. b && list_all is_some more.0) (e ∙ ap (λ b. before && b) (sym same))
      ∙ and_assoc before (is_some query) (list_all is_some more.0),
)

-- a query that was answered last
pub answered_last : (readings : Readings) (folder : PathValue) (query : Query) (before ok now : Bool)
    (old new : Served) → is_some query ≡ ok → Answers readings folder query old new → now ≡ (before && ok)
    → AnswersMore readings folder before now old new
answered_last readings folder query before ok now old new same first e = answered_first readings folder query before ok
    now now old new new same first e (answered_none readings folder now new)

-- without a query of the words, those of the input were answered
pub served_lines : {E : Type 0} (readings : Readings) (folder folder' : PathValue) (query : Option (List ℕ))
    (old new : Served) (first : IndexValue) (result : Result Bool E) → query ≡ None → folder' ≡ folder
    → Begins readings folder old.index first
    → IfOk result (λ all. AnswersAll readings folder' all (record { index = first; out = old.out }) new)
    → IfOk result (λ all. Serves readings folder query all old new)
served_lines readings folder folder' query old new first (Ok all) none same begun answered = rw none (
  first,
  begun,
  subst (λ f. AnswersAll readings f all (record { index = first; out = old.out }) new) same answered,
)
served_lines readings folder folder' query old new first (Err e) none same begun answered = tt

-- the query of the words was answered
pub served_word : (readings : Readings) (folder : PathValue) (query : Option (List ℕ)) (word : List ℕ)
    (old new : Served) (first : IndexValue) → query ≡ Some word
    → Begins readings folder old.index first → new.index ≡ first → Appends old.out new.out (answer_to first word)
    → Serves readings folder query true old new
served_word readings folder query word old new first some begun same written =
    rw some (first, begun, (same, written, refl))
