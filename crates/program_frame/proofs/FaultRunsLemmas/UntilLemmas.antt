-- A program that followed a source was called with what the source gave until a fault came. Lemmas on what a program
-- has done after a fault cite these.
use Rattle.std.proofs.Common.{◌≡◌, ◌∙◌, List, [], ◌∷◌, ◌++◌, refl, sym, subst, ap, append_assoc, append-nil, inl, inr}
use Rattle.std.proofs.lemmas.List.{map-append}
use Rattle.std.specs.Prelude.{ℕ, Some, Result, Ok, Err, MatchResult, map}
use Rattle.std.specs.declared.alloc.Global.{Global}
use Rattle.notify_watch.specs.Handler.{Outcome}
use Rattle.program_frame.specs.declared.fault.Fault.{Fault}
use Rattle.program_frame.specs.declared.reports.source.Rest.{Rest}
use Rattle.program_frame.specs.Reports.Loop.{Answer, Calls, DoesAll, Follows, FollowsOn, Program, Source, Step, TakesEach, TakesRest}
use Rattle.program_frame.specs.Reports.Gave.{CalledWith, Gave, GaveEach}
use Rattle.program_frame.proofs.ReportsLemmas.GaveLemmas.{each_given}
use Rattle.program_frame.proofs.ReportsLemmas.SourceLemmas.{match_seen}
use Rattle.program_frame.specs.FaultRuns.Until.{GaveFirst, GaveSome}

-- the program was called with each of these, in order, once, until a call failed: that was the last
abbrev pub CalledUntil : {P : Type 0} → Program P → List Step → P → Answer → P → Type 0
CalledUntil program [] p answer p' = (answer ≡ Ok tt) × (p' ≡ p)
CalledUntil {P} program (step ∷ steps) p answer p' =
    (first : Answer) × (p1 : P) × Calls program step p first p1
    × MatchResult first (λ _. CalledUntil program steps p1 answer p')
    (λ fault. (steps ≡ []) × (answer ≡ Err fault) × (p' ≡ p1))

-- from its beginning on the program was called with what the source gave
abbrev pub TookOn : {S P : Type 0} → Source S → Program P → S → P → P → Type 0
TookOn source program s p p' =
    (steps : List Step) × (done : Answer) × GaveSome source s steps × CalledUntil program steps p done p'

-- the program began, and was called with what the source gave; or its beginning failed
abbrev pub TookSome : {S P : Type 0} → Source S → Program P → S → P → P → Type 0
TookSome {S} {P} source program s p p' =
    (begun : Answer) × (p1 : P) × program.begins p begun p1
    × MatchResult begun (λ _. TookOn source program s p1 p') (λ fault. p' ≡ p1)

-- what follows a call, whatever it answered
pub after_both : {T Q : Type 0} (first : Result T Fault) (More : T → Type 0) (Stops : Fault → Type 0) →
    ((value : T) → More value → Q) → ((fault : Fault) → Stops fault → Q) → MatchResult first More Stops → Q
after_both (Ok value) More Stops more stops h = more value h
after_both (Err fault) More Stops more stops h = stops fault h

-- each step that was done was given, and the program was called with it
done_given : {S P : Type 0} (source : Source S) (program : Program P) (steps : List Step) (s s' : S) (p p' : P) →
    (answer : Answer) → DoesAll source.gives program steps s p answer s' p' →
    GaveFirst source steps s × CalledUntil program steps p answer p'
done_given source program [] s s' p p' answer h = (tt, (h.1, h.2))
done_given source program (step ∷ steps) s s' p p' answer h =
    let first = h.0 in let s1 = h.1 in let p1 = h.2 in (
      (
        program.patience p,
        s1,
        h.3.0,
        after_both first _ _ (λ _ more. (done_given source program steps s1 s' p1 p' answer more).0)
            (λ fault stops. subst (λ xs. GaveFirst source xs s1) (sym stops.0) tt) h.4,
      ),
      (
        first,
        p1,
        h.3.1,
        match_seen first _ _ _ _ (λ _ more. (done_given source program steps s1 s' p1 p' answer more).1)
            (λ fault stops. (stops.0, stops.1, stops.3)) h.4,
      ),
    )

-- what all waits gave was given
given_first : {S : Type 0} (source : Source S) (steps : List Step) (s s' : S) → GaveEach source steps s s' →
    GaveFirst source steps s
given_first source [] s s' h = tt
given_first source (step ∷ steps) s s' h = (h.0, h.1, h.2, given_first source steps h.1 s' h.3)

-- if no call failed, the last answer is that
pub called_whole : {P : Type 0} (program : Program P) (steps : List Step) (p p' : P) → CalledWith program steps p p' →
    CalledUntil program steps p (Ok tt) p'
called_whole program [] p p' h = (refl, h)
called_whole program (step ∷ steps) p p' h = (Ok tt, h.0, h.1, called_whole program steps h.0 p' h.2)

-- calls that went well, and then others
called_then : {P : Type 0} (program : Program P) (steps more : List Step) (p p1 p' : P) (answer : Answer) →
    CalledWith program steps p p1 → CalledUntil program more p1 answer p' →
    CalledUntil program (steps ++ more) p answer p'
called_then program [] more p p1 p' answer h k = subst (λ x. CalledUntil program more x answer p') h k
called_then program (step ∷ steps) more p p1 p' answer h k =
    (Ok tt, h.0, h.1, called_then program steps more h.0 p1 p' answer h.2 k)

-- reports as steps
abbrev pub as_steps : List (Outcome Global) → List Step
as_steps reports = map (λ report. Some report) reports

-- the program was called with the first of these reports
record TookFirst {P : Type 0} (program : Program P) (reports : List (Outcome Global)) (p : P) (answer : Answer) (p' : P)
    : Type 0 where
  some : List (Outcome Global)
  more : List (Outcome Global)
  parts : reports ≡ some ++ more
  called : CalledUntil program (as_steps some) p answer p'

-- .. with one before these
took_one : {P : Type 0} (program : Program P) (report : Outcome Global) (reports : List (Outcome Global))
    (p p1 p' : P) (first answer : Answer) → program.takes p report first p1 →
    (TakesEach program reports p1 answer p' → TookFirst program reports p1 answer p') →
    MatchResult first (λ _. TakesEach program reports p1 answer p') (λ fault. (answer ≡ Err fault) × (p' ≡ p1)) →
    TookFirst program (report ∷ reports) p answer p'
took_one program report reports p p1 p' (Ok done) answer takes on h =
    let rest = on h in record {
      some = report ∷ rest.some;
      more = rest.more;
      parts = ap (λ xs. report ∷ xs) rest.parts;
      called = (Ok done, p1, takes, rest.called);
    }
took_one program report reports p p1 p' (Err fault) answer takes on h = record {
  some = report ∷ [];
  more = reports;
  parts = refl;
  called = (Err fault, p1, takes, (refl, h.0, h.1));
}

-- of reports that were to be taken the first were
took_first : {P : Type 0} (program : Program P) (reports : List (Outcome Global)) (p p' : P) (answer : Answer) →
    TakesEach program reports p answer p' → TookFirst program reports p answer p'
took_first program [] p p' answer h = record { some = []; more = []; parts = refl; called = h }
took_first program (report ∷ reports) p p' answer h =
    took_one program report reports p h.1 p' h.0 answer h.2
    (λ more. took_first program reports h.1 p' answer more) h.3

-- all that a source gave is some of it
pub gave_all : {S : Type 0} (source : Source S) (s : S) (steps : List Step) (lost : ℕ) → Gave source s steps lost →
    GaveSome source s steps
gave_all source s steps lost h = inr ([], lost, subst (λ xs. Gave source s xs lost) (sym (append-nil steps)) h)

-- the waits were over, and what was left was taken until a call failed, or couldn't be had
on_rest : {S P : Type 0} (source : Source S) (program : Program P) (steps : List Step) (s s1 : S) (p p1 p' : P)
    (rest : Result Rest Fault) (answer : Result ℕ Fault) → GaveEach source steps s s1 → CalledWith program steps p p1 →
    source.ends s1 rest → TakesRest program rest p1 answer p' → TookOn source program s p p'
on_rest source program steps s s1 p p1 p' (Err fault) answer gave called ends takes = (
  steps,
  Ok tt,
  inl (given_first source steps s s1 gave),
  subst (λ x. CalledUntil program steps p (Ok tt) x) (sym takes.1) (called_whole program steps p p1 called),
)
on_rest source program steps s s1 p p1 p' (Ok rest) answer gave called ends takes =
    let first = took_first program rest.reports.items p1 p' takes.0 takes.1 in
    let parts = append_assoc steps (as_steps first.some) (as_steps first.more)
    ∙ ap (λ xs. steps ++ xs) (sym (map-append (λ report. Some report) first.some first.more)
    ∙ ap as_steps (sym first.parts)) in (
      steps ++ as_steps first.some,
      takes.0,
      inr (as_steps first.more, rest.missed, (steps, s1, rest, gave, ends, parts, refl)),
      called_then program steps (as_steps first.some) p p1 p' takes.0 called first.called,
    )

-- the waits were over, or a call failed before
on_done : {S P : Type 0} (source : Source S) (program : Program P) (steps : List Step) (s s1 : S) (p p1 p' : P)
    (done : Answer) (answer : Result ℕ Fault) → DoesAll source.gives program steps s p done s1 p1 →
    MatchResult done (λ _. (rest : Result Rest Fault) × source.ends s1 rest × TakesRest program rest p1 answer p')
    (λ fault. (answer ≡ Err fault) × (p' ≡ p1)) → TookOn source program s p p'
on_done source program steps s s1 p p1 p' (Ok done) answer does h =
    let each = each_given source program steps s s1 p p1 (Ok done) refl does in
    on_rest source program steps s s1 p p1 p' h.0 answer each.0 each.1 h.1 h.2
on_done source program steps s s1 p p1 p' (Err fault) answer does h =
    let got = done_given source program steps s s1 p p1 (Err fault) does in
    (steps, Err fault, inl got.0, subst (λ x. CalledUntil program steps p (Err fault) x) (sym h.1) got.1)

-- a program that followed a source, however that ended, was called with what the source gave until then
pub took_some : {S P : Type 0} (source : Source S) (program : Program P) (s : S) (p p' : P)
    (answer : Result ℕ Fault) → Follows source program s p answer p' → TookSome source program s p p'
took_some source program s p p' answer h = (
  h.0,
  h.1,
  h.2,
  match_seen h.0 _ _ _ _
      (λ _ on. on_done source program on.0 s on.2 h.1 on.3 p' on.1 answer on.4 on.5)
      (λ fault stops. stops.1) h.3,
)
