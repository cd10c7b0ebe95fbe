-- A program whose calls read a file if they are asked reads it after each report that may be about it.
use Rattle.std.proofs.Common.{◌≡◌, Bool, true, false, List, [], ◌∷◌, ◌++◌, refl, sym, ap, subst, inl, inr}
use Rattle.std.specs.Prelude.{ℕ, not, ◌==◌, Option, Some, None, Result, Ok, Err, OnOk, OnErr, MatchResult, map}
use Rattle.std.specs.List.{list_any}
use Rattle.notify_paths.specs.Path.{PathValue}
use Rattle.program_frame.specs.declared.fault.Fault.{Fault}
use Rattle.program_frame.proofs.FaultRunsLemmas.UntilLemmas.{CalledUntil, TookOn, after_both, called_whole, gave_all, took_some}
use Rattle.program_frame.specs.Reports.Gave.{Gave}
use Rattle.program_frame.specs.Reports.Loop.{Answer, Calls, Follows, Program, Source, Step}
use Rattle.program_frame.proofs.ReportsLemmas.GaveLemmas.{all_taken}
use Rattle.program_frame.proofs.ReportsLemmas.SourceLemmas.{match_seen}
use Rattle.program_logic.specs.Config.Reading.{GivesText}
use Rattle.program_logic.specs.Config.Followed.{Following, Reads, ReadsEach, ReadsIf, ReadsSome, ReadsToEnd, asked_in, asks}
use Rattle.program_logic.specs.Config.Touched.{touches}

-- no success is a fault
pub no_fault : {Q : Type 0} (fault : Fault) → ◌≡◌ {A = Answer} (Ok tt) (Err fault) → Q
no_fault fault is = absurd (subst (λ r. MatchResult r (λ _. Unit {0}) (λ _. ⊥)) is tt)

module _ {F : Type 0} (gives : GivesText F) (place : PathValue) where
  -- an answer ends a run so
  ends_so : (answer : Answer) (new : Following F) →
      MatchResult answer (λ _. (answer ≡ Ok tt) × (new ≡ new)) (λ fault. (answer ≡ Err fault) × (new ≡ new))
  ends_so (Ok done) new = (refl, refl)
  ends_so (Err fault) new = (refl, refl)

  -- one more after these
  pub read_last : (asked : List Bool) (last : Bool) (old mid new : Following F) (answer : Answer) →
      ReadsEach gives place asked old (Ok tt) mid → ReadsIf gives place last mid answer new →
      ReadsEach gives place (asked ++ last ∷ []) old answer new
  read_last [] last old mid new answer h k =
      (answer, new, subst (λ x. ReadsIf gives place last x answer new) h.1 k, ends_so answer new)
  read_last (one ∷ asked) last old mid new answer h k = (
    h.0,
    h.1,
    h.2,
    match_seen h.0 _ _ _ _ (λ _ more. read_last asked last h.1 mid new answer more k)
        (λ fault stops. no_fault fault stops.0) h.3,
  )

  -- nothing more after these
  pub read_none : (asked : List Bool) (old new : Following F) (answer : Answer) →
      ReadsEach gives place asked old answer new → ReadsEach gives place (asked ++ false ∷ []) old answer new
  read_none [] old new answer h = (Ok tt, new, (refl, h.1), (h.0, refl))
  read_none (one ∷ asked) old new answer h = (
    h.0,
    h.1,
    h.2,
    match_seen h.0 _ _ _ _ (λ _ more. read_none asked h.1 new answer more) (λ fault stops. stops) h.3,
  )

-- one of the two cases is so
reads_if : {F : Type 0} (gives : GivesText F) (place : PathValue) (asked : Bool) (old new : Following F)
    (answer : Answer) → (asked ≡ true → Reads gives place old answer new) →
    (asked ≡ false → (answer ≡ Ok tt) × (new ≡ old)) → ReadsIf gives place asked old answer new
reads_if gives place true old new answer reads stays = reads refl
reads_if gives place false old new answer reads stays = stays refl

-- a program that reads the file at first and after each report that may be about it, by what is seen of it
abbrev pub follower_program : {F P : Type 0} → GivesText F → (P → PathValue) → (P → Following F) → Program P
follower_program gives file of = record {
  begins = λ old answer new. (file new ≡ file old) × ReadsIf gives (file old) true (of old) answer (of new);
  patience = λ program. None;
  takes = λ old report answer new. (file new ≡ file old)
      × MatchResult report
      (λ batch. (list_any (touches (file old)) batch.items ≡ true → Reads gives (file old) (of old) answer (of new))
      × (list_any (touches (file old)) batch.items ≡ false → (answer ≡ Ok tt) × (of new ≡ of old)))
      (λ errors. (answer ≡ Ok tt) × (of new ≡ of old));
  passes = λ old answer new. (file new ≡ file old) × ReadsIf gives (file old) false (of old) answer (of new);
}

module _ {F P : Type 0} (gives : GivesText F) (file : P → PathValue) (of : P → Following F) where
  -- the program that is spoken of
  abbrev Here : Program P
  Here = follower_program gives file of

  -- a call reads the file if the step asks for it
  call_reads : (step : Step) (p p' : P) (answer : Answer) → Calls Here step p answer p' →
      (file p' ≡ file p) × ReadsIf gives (file p) (asks (file p) step) (of p) answer (of p')
  call_reads (Some (Ok batch)) p p' answer h = (
    h.0,
    reads_if gives (file p) (list_any (touches (file p)) batch.items) (of p) (of p') answer h.1.0 h.1.1,
  )
  call_reads (Some (Err errors)) p p' answer h = h
  call_reads None p p' answer h = h

  -- the calls leave the file
  same_file : (steps : List Step) (p p' : P) (answer : Answer) → CalledUntil Here steps p answer p' →
      file p' ≡ file p
  same_file [] p p' answer called = ap file called.1
  same_file (step ∷ steps) p p' answer called =
      let q = called.1 in let does = call_reads step p q called.0 called.2 in
      subst (λ x. file p' ≡ x) does.0
      (after_both called.0 _ _ (λ _ more. same_file steps q p' answer more) (λ fault stops. ap file stops.2) called.3)

  -- the calls read the file after each of the steps that asks for it
  reads : (steps : List Step) (p p' : P) (answer : Answer) → CalledUntil Here steps p answer p' →
      ReadsEach gives (file p) (map (asks (file p)) steps) (of p) answer (of p')
  reads [] p p' answer called = (called.0, ap of called.1)
  reads (step ∷ steps) p p' answer called =
      let q = called.1 in let does = call_reads step p q called.0 called.2 in (
        called.0,
        of q,
        does.1,
        match_seen called.0 _ _ _ _
            (λ _ more. subst (λ x. ReadsEach gives x (map (asks x) steps) (of q) answer (of p')) does.0
            (reads steps q p' answer more))
            (λ fault stops. (stops.1, ap of stops.2)) called.3,
      )

  -- from the file's first reading on
  first_then : (steps : List Step) (p q p' : P) (answer : Answer) → Here.begins p (Ok tt) q →
      CalledUntil Here steps q answer p' →
      ReadsEach gives (file p) (true ∷ map (asks (file p)) steps) (of p) answer (of p')
  first_then steps p q p' answer begun called = (
    Ok tt,
    of q,
    begun.1,
    subst (λ x. ReadsEach gives x (map (asks x) steps) (of q) answer (of p')) begun.0 (reads steps q p' answer called),
  )

  -- the readings after all that was given are those to the end; or until a fault came at the last
  ended_by : {S : Type 0} (source : Source S) (s : S) (p : P) (missed : ℕ) (steps : List Step) (answer : Answer)
      (end : Following F) → Gave source s steps missed →
      ReadsEach gives (file p) (asked_in (file p) steps (not (missed == 0))) (of p) answer end →
      MatchResult answer (λ _. ReadsToEnd source s gives (file p) (of p) end)
      (λ fault. ReadsSome source s gives (file p) (of p) end)
  ended_by source s p missed steps (Ok done) end gave each = (missed, steps, gave, each)
  ended_by source s p missed steps (Err fault) end gave each =
      (steps, not (missed == 0), Err fault, gave_all source s steps missed gave, each)

  -- a program that followed a source to its end, and then read the file if some were lost, did so after all that was
  -- reported; or until a fault came at that last reading
  pub follower_followed : {S : Type 0} (source : Source S) (s : S) (p p' : P) (missed : ℕ) (answer : Answer)
      (end : Following F) → Follows source Here s p (Ok missed) p' →
      ReadsIf gives (file p') (not (missed == 0)) (of p') answer end →
      MatchResult answer (λ _. ReadsToEnd source s gives (file p) (of p) end)
      (λ fault. ReadsSome source s gives (file p) (of p) end)
  follower_followed source s p p' missed answer end follows last =
      let all = all_taken source Here s p p' missed follows in
      let steps = all.0 in let took = all.1 in let q = took.0 in
      let called = called_whole Here steps q p' took.3 in
      let same = subst (λ x. file p' ≡ x) took.2.0 (same_file steps q p' (Ok tt) called) in
      ended_by source s p missed steps answer end took.1
      (read_last gives (file p) (true ∷ map (asks (file p)) steps) (not (missed == 0)) (of p) (of p') end answer
      (first_then steps p q p' (Ok tt) took.2 called)
      (subst (λ x. ReadsIf gives x (not (missed == 0)) (of p') answer end) same last))

  -- what was read after a beginning, whatever it answered
  begun_by : {S : Type 0} (source : Source S) (s : S) (p q p' : P) (begun : Answer) → Here.begins p begun q →
      MatchResult begun (λ _. TookOn source Here s q p') (λ fault. p' ≡ q) →
      ReadsSome source s gives (file p) (of p) (of p')
  begun_by source s p q p' (Ok done) begins on = (
    on.0,
    false,
    on.1,
    on.2,
    read_none gives (file p) (true ∷ map (asks (file p)) on.0) (of p) (of p') on.1
        (first_then on.0 p q p' on.1 begins on.3),
  )
  begun_by source s p q p' (Err fault) begins stops =
      ([], false, Err fault, inl tt, (Err fault, of q, begins.1, (refl, ap of stops)))

  -- such a program that followed a source until a fault came read the file after all that was reported until then
  pub follower_begun : {S : Type 0} (source : Source S) (s : S) (p p' : P) (answer : Result ℕ Fault) →
      Follows source Here s p answer p' → ReadsSome source s gives (file p) (of p) (of p')
  follower_begun source s p p' answer follows =
      let took = took_some source Here s p p' answer follows in
      begun_by source s p took.1 p' took.0 took.2 took.3
