-- A program that followed a source to its end was called with all that the source gave.
use Rattle.std.proofs.Common.{◌≡◌, ◌∙◌, List, [], ◌∷◌, ◌++◌, refl, sym, subst, ap}
use Rattle.std.specs.Prelude.{ℕ, Some, Result, Ok, Err, MatchResult, map}
use Rattle.std.specs.declared.alloc.Global.{Global}
use Rattle.notify_watch.specs.Handler.{Outcome}
use Rattle.program_frame.specs.declared.fault.Fault.{Fault}
use Rattle.program_frame.specs.declared.reports.source.Rest.{Rest}
use Rattle.program_frame.specs.Reports.Loop.{Answer, Calls, DoesAll, Follows, Program, Source, Step, TakesEach, TakesRest}
use Rattle.program_frame.specs.Reports.Gave.{CalledWith, GaveEach, TookAll}

-- a call whose fault would be the answer went well if the answer is no fault
pub went_well : {T A : Type 0} (first : Result T Fault) (More : T → Type 0) (Stops : Fault → Type 0)
    (answer : Result A Fault) (value : A) → answer ≡ Ok value →
    ((fault : Fault) → Stops fault → answer ≡ Err fault) → MatchResult first More Stops →
    (done : T) × (first ≡ Ok done) × More done
went_well (Ok done) More Stops answer value is stops h = (done, refl, h)
went_well (Err fault) More Stops answer value is stops h =
    absurd (subst (λ r. MatchResult r (λ _. ⊥) (λ _. Unit {0})) (sym (stops fault h) ∙ is) tt)

-- what was waited for was given, and the program was called with it
pub each_given : {S P : Type 0} (source : Source S) (program : Program P) (steps : List Step) (s s' : S) (p p' : P) →
    (answer : Answer) → answer ≡ Ok tt → DoesAll source.gives program steps s p answer s' p' →
    GaveEach source steps s s' × CalledWith program steps p p'
each_given source program [] s s' p p' answer is h = ((program.patience p, h.0), h.2)
each_given source program (step ∷ steps) s s' p p' answer is h =
    let well = went_well h.0 _ _ answer tt is (λ fault stops. stops.1) h.4 in
    let rest = each_given source program steps h.1 s' h.2 p' answer is well.2 in (
      (program.patience p, h.1, h.3.0, rest.0),
      (h.2, subst (λ first. Calls program step p first h.2) well.1 h.3.1, rest.1),
    )

-- the program was called with each that it took
pub each_taken : {P : Type 0} (program : Program P) (reports : List (Outcome Global)) (p p' : P) (answer : Answer) →
    answer ≡ Ok tt → TakesEach program reports p answer p' →
    CalledWith program (map (λ report. Some report) reports) p p'
each_taken program [] p p' answer is h = h.1
each_taken program (report ∷ reports) p p' answer is h =
    let well = went_well h.0 _ _ answer tt is (λ fault stops. stops.0) h.3 in (
      h.1,
      subst (λ first. program.takes p report first h.1) well.1 h.2,
      each_taken program reports h.1 p' answer is well.2,
    )

-- calls after calls
pub called_on : {P : Type 0} (program : Program P) (steps more : List Step) (p p1 p' : P) →
    CalledWith program steps p p1 → CalledWith program more p1 p' → CalledWith program (steps ++ more) p p'
called_on program [] more p p1 p' h k = subst (λ x. CalledWith program more x p') h k
called_on program (step ∷ steps) more p p1 p' h k = (h.0, h.1, called_on program steps more h.0 p1 p' h.2 k)

-- the value of an answer, if it is one
abbrev pub value_or : {A : Type 0} → A → Result A Fault → A
value_or other (Ok value) = value
value_or other (Err fault) = other

-- equal answers that went well
pub ok_is : {A : Type 0} (r : Result A Fault) (m n : A) → r ≡ Ok m → r ≡ Ok n → m ≡ n
ok_is r m n is also = sym (ap (value_or m) is) ∙ ap (value_or m) also

-- the rest was there, and was taken
pub rest_taken : {P : Type 0} (program : Program P) (ended : Result Rest Fault) (p p' : P) (missed : ℕ) →
    TakesRest program ended p (Ok missed) p' →
    (rest : Rest) × (ended ≡ Ok rest) × (missed ≡ rest.missed)
    × CalledWith program (map (λ report. Some report) rest.reports.items) p p'
rest_taken program (Err fault) p p' missed h =
    absurd (subst (λ r. MatchResult r (λ _. Unit {0}) (λ _. ⊥)) h.0 tt)
rest_taken program (Ok rest) p p' missed h =
    let well = went_well h.0 _ _ (Ok missed) missed refl (λ fault is. is) h.2 in
    (rest, refl, ok_is (Ok missed) _ _ refl well.2, each_taken program rest.reports.items p p' h.0 well.1 h.1)

-- what a run that went well has taken
pub all_taken : {S P : Type 0} (source : Source S) (program : Program P) (s : S) (p p' : P) (missed : ℕ) →
    Follows source program s p (Ok missed) p' →
    (steps : List Step) × TookAll source program s p steps missed p'
all_taken source program s p p' missed h =
    let begun = went_well h.0 _ _ (Ok missed) missed refl (λ fault stops. stops.0) h.3 in
    let on = begun.2 in
    let done = went_well on.1 _ _ (Ok missed) missed refl (λ fault stops. stops.0) on.5 in
    let given = each_given source program on.0 s on.2 h.1 on.3 on.1 done.1 on.4 in
    let last = rest_taken program done.2.0 on.3 p' missed done.2.2 in
    let all = on.0 ++ map (λ report. Some report) last.0.reports.items in (
      all,
      (
        h.1,
        (on.0, on.2, last.0, given.0, subst (λ ended. source.ends on.2 ended) last.1 done.2.1, refl, last.2),
        subst (λ first. program.begins p first h.1) begun.1 h.2,
        called_on program on.0 _ h.1 on.3 p' given.1 last.3,
      ),
    )
