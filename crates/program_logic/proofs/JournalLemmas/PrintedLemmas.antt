-- A program whose calls write the entries of batches writes a journal.
use Rattle.std.proofs.Common.{◌≡◌, ◌∙◌, List, [], ◌∷◌, refl, sym, ap, subst, inl, inr}
use Rattle.std.specs.Prelude.{ℕ, Option, Some, None, Result, Ok, Err, MatchResult}
use Rattle.std.specs.declared.alloc.Global.{Global}
use Rattle.std.specs.declared.vec.Vec.{Vec}
use Rattle.notify_paths.specs.Errors.{ErrorValue}
use Rattle.notify_types.specs.Event.{Timed}
use Rattle.program_frame.specs.declared.fault.Fault.{Fault}
use Rattle.program_frame.proofs.FaultRunsLemmas.UntilLemmas.{CalledUntil, after_both, took_some}
use Rattle.program_frame.specs.Reports.Loop.{Answer, Follows, Program, Source, Step}
use Rattle.program_frame.specs.Reports.Gave.{CalledWith}
use Rattle.program_frame.proofs.ReportsLemmas.GaveLemmas.{all_taken}
use Rattle.program_logic.specs.Journal.Kept.{Rule, passing}
use Rattle.program_logic.specs.Journal.Lines.{BeginsTimed, WritesTimed, after, source_in}
use Rattle.program_logic.specs.Journal.Printed.{BeginsEach, WritesAll, WritesEach, WritesSome}
use Rattle.program_logic.specs.declared.journal.Journal.{Journal}

-- what is seen of a program, and what its calls make of that
pub record IsJournal {P : Type 0} (program : Program P) (rule : P → Rule) (journal : P → Journal)
    (out : P → Option (List ℕ)) : Type 0 where
  pub begins : (p p' : P) → program.begins p (Ok tt) p' →
      (rule p' ≡ rule p) × (journal p' ≡ journal p) × (out p' ≡ out p)
  pub batch : (p p' : P) (batch : Vec Timed Global) → program.takes p (Ok batch) (Ok tt) p' →
      (rule p' ≡ rule p)
      × (journal p' ≡ record (journal p) { next = after (journal p).next (passing (rule p) batch.items) })
      × WritesTimed (journal p).form (source_in batch.items) (journal p).next (passing (rule p) batch.items) (out p)
      (out p')
  pub errors : (p p' : P) (errors : Vec ErrorValue Global) → program.takes p (Err errors) (Ok tt) p' →
      (rule p' ≡ rule p) × (journal p' ≡ journal p) × (out p' ≡ out p)
  pub pass : (p p' : P) → program.passes p (Ok tt) p' →
      (rule p' ≡ rule p) × (journal p' ≡ journal p) × (out p' ≡ out p)

-- what is written from equal values on
pub carried : (r r' : Rule) (j j' : Journal) (o o' end : Option (List ℕ)) (steps : List Step) →
    r' ≡ r → j' ≡ j → o' ≡ o → WritesEach j'.form r' j'.next steps o' end → WritesEach j.form r j.next steps o end
carried r r' j j' o o' end steps rules journals outs h =
    let a = subst (λ x. WritesEach j'.form r' j'.next steps x end) outs h in
    let b = subst (λ x. WritesEach x.form r' x.next steps o end) journals a in
    subst (λ x. WritesEach j.form x j.next steps o end) rules b

-- the calls write the entries of the steps
pub writes : {P : Type 0} (program : Program P) (rule : P → Rule) (journal : P → Journal) (out : P → Option (List ℕ)) →
    IsJournal program rule journal out → (steps : List Step) (p p' : P) → CalledWith program steps p p' →
    WritesEach (journal p).form (rule p) (journal p).next steps (out p) (out p')
writes program rule journal out is [] p p' called = ap out called
writes program rule journal out is (Some (Ok batch) ∷ steps) p p' called =
    let q = called.0 in let does = is.batch p q batch called.1 in
    let more = writes program rule journal out is steps q p' called.2 in
    let next = record (journal p) { next = after (journal p).next (passing (rule p) batch.items) } in (
      out q,
      does.2,
      carried (rule p) (rule q) next (journal q) (out q) (out q) (out p') steps does.0 does.1 refl more,
    )
writes program rule journal out is (Some (Err errors) ∷ steps) p p' called =
    let q = called.0 in let does = is.errors p q errors called.1 in
    carried (rule p) (rule q) (journal p) (journal q) (out p) (out q) (out p') steps does.0 does.1 does.2
    (writes program rule journal out is steps q p' called.2)
writes program rule journal out is (None ∷ steps) p p' called =
    let q = called.0 in let does = is.pass p q called.1 in
    carried (rule p) (rule q) (journal p) (journal q) (out p) (out q) (out p') steps does.0 does.1 does.2
    (writes program rule journal out is steps q p' called.2)

-- a program that followed a source to its end wrote the entries of all that it gave
pub followed : {S P : Type 0} (source : Source S) (s : S) (program : Program P) (rule : P → Rule)
    (journal : P → Journal) (out : P → Option (List ℕ)) → IsJournal program rule journal out →
    (p p' : P) (missed : ℕ) → Follows source program s p (Ok missed) p' →
    WritesAll source s (journal p).form (rule p) (journal p).next (out p) (out p')
followed source s program rule journal out is p p' missed follows =
    let all = all_taken source program s p p' missed follows in
    let took = all.1 in let q = took.0 in
    let same = is.begins p q took.2 in (
      missed,
      all.0,
      took.1,
      carried (rule p) (rule q) (journal p) (journal q) (out p) (out q) (out p') all.0 same.0 same.1 same.2
          (writes program rule journal out is all.0 q p' took.3),
    )

-- a program that writes the entries of what passes, by what is seen of it
abbrev pub journal_program : {P : Type 0} → (P → Rule) → (P → Journal) → (P → Option (List ℕ)) → Program P
journal_program rule journal out = record {
  begins = λ old answer new. (rule new ≡ rule old) × (journal new ≡ journal old) × (out new ≡ out old);
  patience = λ program. None;
  takes = λ old report answer new. (rule new ≡ rule old)
      × MatchResult report
      (λ batch. MatchResult answer
      (λ _. (journal new ≡ record (journal old) { next = after (journal old).next (passing (rule old) batch.items) })
      × WritesTimed (journal old).form (source_in batch.items) (journal old).next (passing (rule old) batch.items)
      (out old) (out new))
      (λ fault. BeginsTimed (journal old).form (source_in batch.items) (journal old).next
      (passing (rule old) batch.items) (out old) (out new)))
      (λ errors. (journal new ≡ journal old) × (out new ≡ out old));
  passes = λ old answer new. (rule new ≡ rule old) × (journal new ≡ journal old) × (out new ≡ out old);
}

-- such a program that followed a source to its end wrote the entries of all that it gave
pub printer_followed : {S P : Type 0} (source : Source S) (s : S) (rule : P → Rule) (journal : P → Journal)
    (out : P → Option (List ℕ)) (p p' : P) (missed : ℕ) →
    Follows source (journal_program rule journal out) s p (Ok missed) p' →
    WritesAll source s (journal p).form (rule p) (journal p).next (out p) (out p')
printer_followed source s rule journal out p p' missed follows =
    followed source s (journal_program rule journal out) rule journal out
    (record {
      begins = λ p q h. h;
      batch = λ p q batch h. (h.0, h.1.0, h.1.1);
      errors = λ p q errors h. (h.0, h.1.0, h.1.1);
      pass = λ p q h. h;
    })
    p p' missed follows

-- what is begun from equal values on
pub carried_some : (r r' : Rule) (j j' : Journal) (o o' end : Option (List ℕ)) (steps : List Step) →
    r' ≡ r → j' ≡ j → o' ≡ o → BeginsEach j'.form r' j'.next steps o' end → BeginsEach j.form r j.next steps o end
carried_some r r' j j' o o' end steps rules journals outs h =
    let a = subst (λ x. BeginsEach j'.form r' j'.next steps x end) outs h in
    let b = subst (λ x. BeginsEach x.form r' x.next steps o end) journals a in
    subst (λ x. BeginsEach j.form x j.next steps o end) rules b

module _ {P : Type 0} (rule : P → Rule) (journal : P → Journal) (out : P → Option (List ℕ)) where
  -- the entries of these steps are written from here on, of the last perhaps a beginning
  abbrev Begun : List Step → P → P → Type 0
  Begun steps p p' = BeginsEach (journal p).form (rule p) (journal p).next steps (out p) (out p')

  -- the program was called with these
  abbrev OnUntil : List Step → P → Answer → P → Type 0
  OnUntil steps p answer p' = CalledUntil (journal_program rule journal out) steps p answer p'

  -- what is begun after a call: if it failed, nothing more
  begun_after : (steps : List Step) (q p' : P) (first answer : Answer) →
      (OnUntil steps q answer p' → Begun steps q p') →
      MatchResult first (λ _. OnUntil steps q answer p') (λ fault. (steps ≡ []) × (answer ≡ Err fault) × (p' ≡ q)) →
      Begun steps q p'
  begun_after steps q p' (Ok done) answer on h = on h
  begun_after steps q p' (Err fault) answer on h = subst (λ xs. Begun xs q p') (sym h.0) (ap out h.2)

  -- .. after the call with a batch: if it failed, a beginning of its entries
  begun_batch : (batch : Vec Timed Global) (steps : List Step) (p q p' : P) (first answer : Answer) →
      (journal_program rule journal out).takes p (Ok batch) first q → (OnUntil steps q answer p' → Begun steps q p') →
      MatchResult first (λ _. OnUntil steps q answer p') (λ fault. (steps ≡ []) × (answer ≡ Err fault) × (p' ≡ q)) →
      Begun (Some (Ok batch) ∷ steps) p p'
  begun_batch batch steps p q p' (Ok done) answer took on h =
      let next = record (journal p) { next = after (journal p).next (passing (rule p) batch.items) } in
      inl (
        out q,
        took.1.1,
        carried_some (rule p) (rule q) next (journal q) (out q) (out q) (out p') steps took.0 took.1.0
            refl (on h),
      )
  begun_batch batch steps p q p' (Err fault) answer took on h =
      inr (
        h.0,
        subst (λ x. BeginsTimed (journal p).form (source_in batch.items) (journal p).next
            (passing (rule p) batch.items) (out p) (out x))
            (sym h.2) took.1,
      )

  -- the calls write the entries of the steps, and of the last a beginning if that one failed
  begun : (steps : List Step) (p p' : P) (answer : Answer) → OnUntil steps p answer p' → Begun steps p p'
  begun [] p p' answer called = ap out called.1
  begun (Some (Ok batch) ∷ steps) p p' answer called =
      begun_batch batch steps p called.1 p' called.0 answer called.2 (λ h. begun steps called.1 p' answer h) called.3
  begun (Some (Err errors) ∷ steps) p p' answer called =
      let q = called.1 in let took = called.2 in
      carried_some (rule p) (rule q) (journal p) (journal q) (out p) (out q) (out p') steps took.0 took.1.0 took.1.1
      (begun_after steps q p' called.0 answer (λ h. begun steps q p' answer h) called.3)
  begun (None ∷ steps) p p' answer called =
      let q = called.1 in let took = called.2 in
      carried_some (rule p) (rule q) (journal p) (journal q) (out p) (out q) (out p') steps took.0 took.1 took.2
      (begun_after steps q p' called.0 answer (λ h. begun steps q p' answer h) called.3)

  -- such a program that followed a source until a fault came wrote the entries of what it gave until then, and of the
  -- last that it gave perhaps a beginning
  pub printer_begun : {S : Type 0} (source : Source S) (s : S) (p p' : P) (answer : Result ℕ Fault) →
      Follows source (journal_program rule journal out) s p answer p' →
      WritesSome source s (journal p).form (rule p) (journal p).next (out p) (out p')
  printer_begun source s p p' answer follows =
      let took = took_some source (journal_program rule journal out) s p p' answer follows in
      let q = took.1 in let same = took.2 in
      after_both took.0 _ _
      (λ _ on. (
        on.0,
        on.2,
        carried_some (rule p) (rule q) (journal p) (journal q) (out p) (out q) (out p') on.0 same.0 same.1 same.2
            (begun on.0 q p' on.1 on.3),
      ))
      (λ fault stops. ([], inl tt, ap out stops ∙ same.2)) took.3
