-- A program whose calls hand in and write prints the lines of a trigger.
use Rattle.std.proofs.Common.{◌≡◌, ◌∙◌, List, [], ◌∷◌, ◌++◌, ◌==◌, length, refl, sym, ap, subst, append_assoc, append-nil, inl}
use Rattle.std.specs.Prelude.{ℕ, Option, Some, None, Result, Ok, Err, OnOk, MatchResult, if◌then◌else◌}
use Rattle.std.specs.declared.time.Duration.{Duration}
use Rattle.std.specs.declared.alloc.Global.{Global}
use Rattle.std.specs.declared.vec.Vec.{Vec}
use Rattle.std.specs.Io.KnownBytes.{Appends, Keeps}
use Rattle.std.proofs.KnownBytes.{Appends-nil, Appends-trans, Appends-kept}
use Rattle.notify_paths.specs.Errors.{ErrorValue}
use Rattle.notify_paths.specs.Path.{PathValue}
use Rattle.notify_types.specs.Event.{Timed}
use Rattle.program_frame.specs.declared.fault.Fault.{Fault}
use Rattle.program_frame.specs.Whole.Output.{WritesFront}
use Rattle.program_frame.proofs.WholeLemmas.Fronts.{front_none}
use Rattle.program_frame.proofs.FaultRunsLemmas.UntilLemmas.{CalledUntil, TookOn, called_whole, gave_all, took_some}
use Rattle.program_frame.specs.Reports.Loop.{Answer, Follows, Program, Source, Step}
use Rattle.program_frame.specs.Reports.Gave.{CalledWith, Gave}
use Rattle.program_frame.proofs.ReportsLemmas.GaveLemmas.{all_taken}
use Rattle.program_logic.specs.Journal.Kept.{Rule, passing}
use Rattle.program_logic.specs.Trigger.Line.{line_of, written_of}
use Rattle.program_logic.specs.Trigger.Steps.{handed, joined, left_of, line_before, lines_of}
use Rattle.program_logic.proofs.TriggerLemmas.Playing.{once}
use Rattle.program_logic.specs.Trigger.Printed.{PrintsAll, PrintsSome, lines_for, printed, reported, trigger_steps}

-- what is seen of a program, and what its calls make of that
pub record IsTrigger {P : Type 0} (program : Program P) (rule : P → Rule) (folder : P → PathValue)
    (waiting : P → List Timed) (out : P → Option (List ℕ)) : Type 0 where
  pub batch : (p p' : P) (batch : Vec Timed Global) → program.takes p (Ok batch) (Ok tt) p' →
      (rule p' ≡ rule p) × (folder p' ≡ folder p) × (waiting p' ≡ waiting p ++ passing (rule p) batch.items)
      × (out p' ≡ out p)
  pub errors : (p p' : P) (errors : Vec ErrorValue Global) → program.takes p (Err errors) (Ok tt) p' →
      (rule p' ≡ rule p) × (folder p' ≡ folder p) × (waiting p' ≡ waiting p) × (out p' ≡ out p)
  pub pass : (p p' : P) → program.passes p (Ok tt) p' →
      (rule p' ≡ rule p) × (folder p' ≡ folder p) × (waiting p' ≡ [])
      × Appends (out p) (out p') (written_of (folder p) (waiting p))

-- the line of what waits comes before the others
pub printed_before : (folder : PathValue) (waiting : List Timed) (lines : List (List Timed)) →
    printed folder (line_before waiting lines) ≡ written_of folder waiting ++ printed folder lines
printed_before folder [] lines = refl
printed_before folder (event ∷ waiting) lines = refl

-- what is printed of equal values
pub carried : (r r' : Rule) (f f' : PathValue) (w w' : List Timed) (o end : Option (List ℕ)) (steps : List Step) →
    r' ≡ r → f' ≡ f → w' ≡ w → Appends o end (printed f' (lines_of w' (trigger_steps r' steps))) →
    Appends o end (printed f (lines_of w (trigger_steps r steps)))
carried r r' f f' w w' o end steps rules folders waits h =
    let a = subst (λ g. Appends o end (printed g (lines_of w' (trigger_steps r' steps)))) folders h in
    let b = subst (λ s. Appends o end (printed f (lines_of w' (trigger_steps s steps)))) rules a in
    subst (λ v. Appends o end (printed f (lines_of v (trigger_steps r steps)))) waits b

-- what is appended to equal bytes
pub onto : (o o' end : Option (List ℕ)) (text : List ℕ) → o' ≡ o → Appends o' end text → Appends o end text
onto o o' end text is h = subst (λ x. Appends x end text) is h

-- the calls, and then a last line, print the lines of the steps
pub prints : {P : Type 0} (program : Program P) (rule : P → Rule) (folder : P → PathValue) (waiting : P → List Timed)
    (out : P → Option (List ℕ)) → IsTrigger program rule folder waiting out →
    (steps : List Step) (p p' : P) (end : Option (List ℕ)) → CalledWith program steps p p' →
    Appends (out p') end (written_of (folder p') (waiting p')) →
    Appends (out p) end (printed (folder p) (lines_of (waiting p) (trigger_steps (rule p) steps)))
prints program rule folder waiting out is [] p p' end called last =
    let here = subst (λ q. Appends (out q) end (written_of (folder q) (waiting q))) called last in
    subst (Appends (out p) end) (sym (printed_before (folder p) (waiting p) [] ∙ append-nil _)) here
prints program rule folder waiting out is (Some (Ok batch) ∷ steps) p p' end called last =
    let q = called.0 in let does = is.batch p q batch called.1 in
    let more = prints program rule folder waiting out is steps q p' end called.2 last in
    onto (out p) (out q) end _ does.3
    (carried (rule p) (rule q) (folder p) (folder q) _ (waiting q) (out q) end steps does.0 does.1 does.2 more)
prints program rule folder waiting out is (Some (Err errors) ∷ steps) p p' end called last =
    let q = called.0 in let does = is.errors p q errors called.1 in
    let more = prints program rule folder waiting out is steps q p' end called.2 last in
    onto (out p) (out q) end _ does.3
    (carried (rule p) (rule q) (folder p) (folder q) _ (waiting q) (out q) end steps does.0 does.1 does.2 more)
prints program rule folder waiting out is (None ∷ steps) p p' end called last =
    let q = called.0 in let does = is.pass p q called.1 in
    let more = prints program rule folder waiting out is steps q p' end called.2 last in
    subst (Appends (out p) end)
    (sym (printed_before (folder p) (waiting p) (lines_of [] (trigger_steps (rule p) steps))))
    (Appends-trans (out p) (out q) end _ _ does.3
    (carried (rule p) (rule q) (folder p) (folder q) _ (waiting q) (out q) end steps does.0 does.1 does.2 more))

-- what is handed in is what is reported and passes
pub hands_in : (rule : Rule) (steps : List Step) → handed (trigger_steps rule steps) ≡ reported rule steps
hands_in rule [] = refl
hands_in rule (Some (Ok batch) ∷ steps) = ap (λ xs. passing rule batch.items ++ xs) (hands_in rule steps)
hands_in rule (Some (Err errors) ∷ steps) = hands_in rule steps
hands_in rule (None ∷ steps) = hands_in rule steps

-- nothing waits at the end
pub none_left : (rule : Rule) (steps : List Step) (waiting : List Timed) →
    left_of waiting (trigger_steps rule steps) ≡ []
none_left rule [] waiting = refl
none_left rule (Some (Ok batch) ∷ steps) waiting = none_left rule steps (waiting ++ passing rule batch.items)
none_left rule (Some (Err errors) ∷ steps) waiting = none_left rule steps waiting
none_left rule (None ∷ steps) waiting = none_left rule steps []

-- each event that is reported and passes stands in one line
pub each_once : (rule : Rule) (steps : List Step) → joined (lines_for rule steps) ≡ reported rule steps
each_once rule steps =
    let lines = joined (lines_for rule steps) in
    sym (append-nil lines) ∙ ap (λ xs. lines ++ xs) (sym (none_left rule steps []))
    ∙ once [] (trigger_steps rule steps) ∙ hands_in rule steps

-- a program that followed a source to its end, and then wrote what waits, printed the lines of all that was reported
pub followed : {S P : Type 0} (source : Source S) (s : S) (program : Program P) (rule : P → Rule)
    (folder : P → PathValue) (waiting : P → List Timed) (out : P → Option (List ℕ)) →
    IsTrigger program rule folder waiting out →
    ((p p' : P) → program.begins p (Ok tt) p' →
    (rule p' ≡ rule p) × (folder p' ≡ folder p) × (waiting p' ≡ waiting p) × (out p' ≡ out p)) →
    (p p' : P) (missed : ℕ) (end : Option (List ℕ)) → Follows source program s p (Ok missed) p' →
    waiting p ≡ [] → Appends (out p') end (written_of (folder p') (waiting p')) →
    PrintsAll source s (rule p) (folder p) (out p) end
followed source s program rule folder waiting out is begins p p' missed end follows empty last =
    let all = all_taken source program s p p' missed follows in
    let took = all.1 in let q = took.0 in
    let same = begins p q took.2 in
    let lines = prints program rule folder waiting out is all.0 q p' end took.3 last in (
      missed,
      all.0,
      took.1,
      (
        onto (out p) (out q) end _ same.3
            (carried (rule p) (rule q) (folder p) (folder q) [] (waiting q) (out q) end all.0 same.0 same.1
            (same.2 ∙ empty) lines),
        each_once (rule p) all.0,
      ),
    )

-- a program that hands in what passes and writes lines, by what is seen of it
abbrev pub trigger_program : {P : Type 0} → (P → Rule) → (P → PathValue) → (P → List Timed) → (P → Duration) →
    (P → Option (List ℕ)) → Program P
trigger_program rule folder waiting quiet out = record {
  begins = λ before answer after. (rule after ≡ rule before) × (folder after ≡ folder before)
      × (waiting after ≡ waiting before) × (out after ≡ out before);
  patience = λ program. if length (waiting program) == 0 then None else Some (quiet program);
  takes = λ before report answer after. (rule after ≡ rule before) × (folder after ≡ folder before)
      × (out after ≡ out before)
      × MatchResult report (λ batch. OnOk answer (waiting after ≡ waiting before ++ passing (rule before) batch.items))
      (λ errors. waiting after ≡ waiting before);
  passes = λ before answer after. (rule after ≡ rule before) × (folder after ≡ folder before) × (waiting after ≡ [])
      × MatchResult answer (λ _. Appends (out before) (out after) (written_of (folder before) (waiting before)))
      (λ fault. WritesFront (out before) (written_of (folder before) (waiting before)) (out after));
}

-- such a program that followed a source to its end, and then wrote what waits, printed the lines of all that was
-- reported
pub bursts_followed : {S P : Type 0} (source : Source S) (s : S) (rule : P → Rule) (folder : P → PathValue)
    (waiting : P → List Timed) (quiet : P → Duration) (out : P → Option (List ℕ)) (p p' : P) (missed : ℕ)
    (end : Option (List ℕ)) →
    Follows source (trigger_program rule folder waiting quiet out) s p (Ok missed) p' →
    waiting p ≡ [] → Appends (out p') end (written_of (folder p') (waiting p')) →
    PrintsAll source s (rule p) (folder p) (out p) end
bursts_followed source s rule folder waiting quiet out p p' missed end follows empty last =
    followed source s (trigger_program rule folder waiting quiet out) rule folder waiting out
    (record {
      batch = λ p q batch h. (h.0, h.1, h.3, h.2);
      errors = λ p q errors h. (h.0, h.1, h.3, h.2);
      pass = λ p q h. h;
    })
    (λ p q h. h) p p' missed end follows empty last

-- a front of what comes after bytes that were written is a front of both
front_after : (a b c : Option (List ℕ)) (xs ys : List ℕ) → Appends a b xs → WritesFront b ys c →
    WritesFront a (xs ++ ys) c
front_after a b c xs ys h k =
    let front = k.up_to.front in record {
      rest = k.rest;
      up_to = record {
        front = xs ++ front;
        written = Appends-trans a b c xs front h k.up_to.written;
        split = ap (λ zs. xs ++ zs) k.up_to.split ∙ sym (append_assoc xs front k.rest);
      };
    }

-- a front of bytes is one of more bytes
front_longer : (a c : Option (List ℕ)) (xs ys : List ℕ) → WritesFront a xs c → WritesFront a (xs ++ ys) c
front_longer a c xs ys k =
    let front = k.up_to.front in record {
      rest = k.rest ++ ys;
      up_to = record {
        front = front;
        written = k.up_to.written;
        split = ap (λ zs. zs ++ ys) k.up_to.split ∙ append_assoc front k.rest ys;
      };
    }

-- a front from equal bytes on
front_onto : (o o' end : Option (List ℕ)) (text : List ℕ) → o' ≡ o → WritesFront o' text end → WritesFront o text end
front_onto o o' end text is h = subst (λ x. WritesFront x text end) is h

module _ {P : Type 0} (rule : P → Rule) (folder : P → PathValue) (waiting : P → List Timed) (quiet : P → Duration)
    (out : P → Option (List ℕ)) where
  -- the program that is spoken of
  abbrev Here : Program P
  Here = trigger_program rule folder waiting quiet out

  -- a front of the lines of these steps is printed from here on
  abbrev Front : List Step → P → Option (List ℕ) → Type 0
  Front steps p end = WritesFront (out p) (printed (folder p) (lines_of (waiting p) (trigger_steps (rule p) steps))) end

  -- what is written at the end: if no call failed, a front of the line of what waits, and else nothing more
  abbrev Ends : Answer → P → Option (List ℕ) → Type 0
  Ends answer p end =
      MatchResult answer (λ _. WritesFront (out p) (written_of (folder p) (waiting p)) end) (λ fault. end ≡ out p)

  -- what follows a call: the calls with these, or its fault
  abbrev On : List Step → P → Answer → Answer → P → Type 0
  On steps q first answer p' =
      MatchResult first (λ _. CalledUntil Here steps q answer p')
      (λ fault. (steps ≡ []) × (answer ≡ Err fault) × (p' ≡ q))

  -- after a call that failed nothing more is written
  ends_at : (q p' : P) (fault : Fault) (answer : Answer) (end : Option (List ℕ)) → answer ≡ Err fault → p' ≡ q →
      Ends answer p' end → end ≡ out q
  ends_at q p' fault answer end is same last = subst (λ r. Ends r p' end) is last ∙ ap out same

  -- nothing was written, which is a front
  none_written : (p q : P) (bytes : List ℕ) (end : Option (List ℕ)) → out q ≡ out p → end ≡ out q →
      WritesFront (out p) bytes end
  none_written p q bytes end same is = subst (WritesFront (out p) bytes) (sym (is ∙ same)) (front_none (out p) bytes)

  -- a front of the lines of these steps, if these events wait before them
  abbrev FrontOf : P → List Step → Option (List ℕ) → PathValue → List Timed → Rule → Type 0
  FrontOf q steps end g w r = WritesFront (out q) (printed g (lines_of w (trigger_steps r steps))) end

  -- what is printed of equal values
  carried_front : (p q : P) (waits : List Timed) (steps : List Step) (end : Option (List ℕ)) → rule q ≡ rule p →
      folder q ≡ folder p → waiting q ≡ waits → Front steps q end → FrontOf q steps end (folder p) waits (rule p)
  carried_front p q waits steps end rules folders are h =
      let a = subst (λ g. FrontOf q steps end g (waiting q) (rule q)) folders h in
      let b = subst (λ r. FrontOf q steps end (folder p) (waiting q) r) rules a in
      subst (λ w. FrontOf q steps end (folder p) w (rule p)) are b

  -- after a call with a batch
  front_batch : (batch : Vec Timed Global) (steps : List Step) (p q p' : P) (first answer : Answer)
      (end : Option (List ℕ)) → Here.takes p (Ok batch) first q → Ends answer p' end →
      (CalledUntil Here steps q answer p' → Front steps q end) → On steps q first answer p' →
      Front (Some (Ok batch) ∷ steps) p end
  front_batch batch steps p q p' (Ok done) answer end took last on h =
      front_onto (out p) (out q) end _ took.2
      (carried_front p q (waiting p ++ passing (rule p) batch.items) steps end took.0 took.1 took.3 (on h))
  front_batch batch steps p q p' (Err fault) answer end took last on h =
      none_written p q _ end took.2 (ends_at q p' fault answer end h.1 h.2 last)

  -- .. with errors
  front_errors : (errors : Vec ErrorValue Global) (steps : List Step) (p q p' : P) (first answer : Answer)
      (end : Option (List ℕ)) → Here.takes p (Err errors) first q → Ends answer p' end →
      (CalledUntil Here steps q answer p' → Front steps q end) → On steps q first answer p' →
      Front (Some (Err errors) ∷ steps) p end
  front_errors errors steps p q p' (Ok done) answer end took last on h =
      front_onto (out p) (out q) end _ took.2
      (carried_front p q (waiting p) steps end took.0 took.1 took.3 (on h))
  front_errors errors steps p q p' (Err fault) answer end took last on h =
      none_written p q _ end took.2 (ends_at q p' fault answer end h.1 h.2 last)

  -- .. after a pause
  front_pause : (steps : List Step) (p q p' : P) (first answer : Answer) (end : Option (List ℕ)) →
      Here.passes p first q → Ends answer p' end → (CalledUntil Here steps q answer p' → Front steps q end) →
      On steps q first answer p' → Front (None ∷ steps) p end
  front_pause steps p q p' (Ok done) answer end passed last on h =
      subst (λ bytes. WritesFront (out p) bytes end)
      (sym (printed_before (folder p) (waiting p) (lines_of [] (trigger_steps (rule p) steps))))
      (front_after (out p) (out q) end _ _ passed.3
      (carried_front p q [] steps end passed.0 passed.1 passed.2 (on h)))
  front_pause steps p q p' (Err fault) answer end passed last on h =
      subst (λ bytes. WritesFront (out p) bytes end)
      (sym (printed_before (folder p) (waiting p) (lines_of [] (trigger_steps (rule p) steps))))
      (front_longer (out p) end _ _
      (subst (WritesFront (out p) _) (sym (ends_at q p' fault answer end h.1 h.2 last)) passed.3))

  -- the calls, and then perhaps a last line, print a front of the lines of the steps
  fronts : (steps : List Step) (p p' : P) (answer : Answer) (end : Option (List ℕ)) →
      CalledUntil Here steps p answer p' → Ends answer p' end → Front steps p end
  fronts [] p p' answer end called last =
      let whole = subst (λ r. Ends r p' end) called.0 last in
      subst (λ bytes. WritesFront (out p) bytes end)
      (sym (printed_before (folder p) (waiting p) [] ∙ append-nil _))
      (subst (λ q. WritesFront (out q) (written_of (folder q) (waiting q)) end) called.1 whole)
  fronts (Some (Ok batch) ∷ steps) p p' answer end called last =
      front_batch batch steps p called.1 p' called.0 answer end called.2 last
      (λ more. fronts steps called.1 p' answer end more last) called.3
  fronts (Some (Err errors) ∷ steps) p p' answer end called last =
      front_errors errors steps p called.1 p' called.0 answer end called.2 last
      (λ more. fronts steps called.1 p' answer end more last) called.3
  fronts (None ∷ steps) p p' answer end called last =
      front_pause steps p called.1 p' called.0 answer end called.2 last
      (λ more. fronts steps called.1 p' answer end more last) called.3

  -- nothing more is written at the end
  ends_so : (answer : Answer) (p : P) → Ends answer p (out p)
  ends_so (Ok done) p = front_none (out p) (written_of (folder p) (waiting p))
  ends_so (Err fault) p = refl

  -- a front from the beginning on is one of the lines of these steps
  from_none : (steps : List Step) (p q : P) (end : Option (List ℕ)) → Here.begins p (Ok tt) q → waiting p ≡ [] →
      Front steps q end → WritesFront (out p) (printed (folder p) (lines_for (rule p) steps)) end
  from_none steps p q end same empty h =
      front_onto (out p) (out q) end _ same.3
      (carried_front p q [] steps end same.0 same.1 (same.2 ∙ empty) h)

  -- what was printed after a beginning, whatever it answered
  begun_by : {S : Type 0} (source : Source S) (s : S) (p q p' : P) (begun : Answer) → Here.begins p begun q →
      waiting p ≡ [] → MatchResult begun (λ _. TookOn source Here s q p') (λ fault. p' ≡ q) →
      PrintsSome source s (rule p) (folder p) (out p) (out p')
  begun_by source s p q p' (Ok done) same empty on =
      (on.0, on.2, from_none on.0 p q (out p') same empty (fronts on.0 q p' on.1 (out p') on.3 (ends_so on.1 p')))
  begun_by source s p q p' (Err fault) same empty stops =
      ([], inl tt, none_written p q _ (out p') same.3 (ap out stops))

  -- such a program that followed a source until a fault came printed a beginning of the lines of what was reported
  -- until then
  pub bursts_begun : {S : Type 0} (source : Source S) (s : S) (p p' : P) (answer : Result ℕ Fault) →
      Follows source Here s p answer p' → waiting p ≡ [] → PrintsSome source s (rule p) (folder p) (out p) (out p')
  bursts_begun source s p p' answer follows empty =
      let took = took_some source Here s p p' answer follows in
      begun_by source s p took.1 p' took.0 took.2 empty took.3

  -- .. and so it did if it followed to the end, and wrote a beginning of the line of what waited
  pub bursts_cut : {S : Type 0} (source : Source S) (s : S) (p p' : P) (missed : ℕ) (end : Option (List ℕ)) →
      Follows source Here s p (Ok missed) p' → waiting p ≡ [] →
      WritesFront (out p') (written_of (folder p') (waiting p')) end →
      PrintsSome source s (rule p) (folder p) (out p) end
  bursts_cut source s p p' missed end follows empty last =
      let all = all_taken source Here s p p' missed follows in
      let took = all.1 in let q = took.0 in (
        all.0,
        gave_all source s all.0 missed took.1,
        from_none all.0 p q end took.2 empty
            (fronts all.0 q p' (Ok tt) end (called_whole Here all.0 q p' took.3) last),
      )
