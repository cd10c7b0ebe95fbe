-- What the exit status of a run says. `script_run` and `check_run` cite these.
use Rattle.std.proofs.Common.{◌≡◌, ◌⊎◌, ℕ, inl, inr, refl, Option, List, Result, Ok, Err, OnOk, IfErr, IfSome, None, Some, arith}
use Rattle.mirror_run.specs.Script.{ScriptValue, Fails, script_of}
use Rattle.mirror_run.specs.Script.ScriptView.{IsScript, IsFaulty}
use Rattle.mirror_run.specs.declared.script.fault.Fault.{Fault}
use Rattle.mirror_run.specs.declared.script.fault.Fault.TheVariants.{Usage, NotUtf8, CannotRead, NotCommand, Memory, CannotWatch, OutputFailed, NoThread}
use Rattle.mirror_run.specs.declared.transcript.Report.{Report}
use Rattle.mirror_run.specs.Ending.{status_of, IsStopped}
use Rattle.mirror_run.specs.Transcript.{PrintsRun, BeginsRun, IsGiven}

-- bytes that are a script
given_script : (bytes : Option (List ℕ)) (script : ScriptValue) → IsGiven bytes script → IfSome bytes IsScript
given_script None script h = h
given_script (Some given) script h = (script, h)

-- bytes that are none
given_faulty : (bytes : Option (List ℕ)) (line : ℕ) → IfSome bytes (λ given. script_of given ≡ Fails line) →
    IfSome bytes IsFaulty
given_faulty None line h = h
given_faulty (Some given) line h = (line, h)

module _ {A : Type 0} (report : Report) (bytes old new : Option (List ℕ)) where
  -- a run, from what is known of its success and of its faults
  abbrev pub IsRun : Result A Fault → Type 0
  IsRun r = OnOk r (PrintsRun report bytes old new) × IfErr r (λ e. IsStopped report bytes old new e)

  -- at 0 the transcript is printed
  pub at_0 : (r : Result A Fault) → IsRun r → status_of r ≡ 0 → PrintsRun report bytes old new
  at_0 (Ok x) h s = h.0
  at_0 (Err Usage) h s = absurd (omega (arith, s))
  at_0 (Err NotUtf8) h s = absurd (omega (arith, s))
  at_0 (Err CannotRead) h s = absurd (omega (arith, s))
  at_0 (Err (NotCommand line)) h s = absurd (omega (arith, s))
  at_0 (Err Memory) h s = absurd (omega (arith, s))
  at_0 (Err CannotWatch) h s = absurd (h.1)
  at_0 (Err NoThread) h s = absurd (h.1)
  at_0 (Err OutputFailed) h s = absurd (omega (arith, s))

  -- at 6 a beginning of it
  pub at_6 : (r : Result A Fault) → IsRun r → status_of r ≡ 6 → BeginsRun report bytes old new
  at_6 (Ok x) h s = absurd (omega (arith, s))
  at_6 (Err Usage) h s = absurd (omega (arith, s))
  at_6 (Err NotUtf8) h s = absurd (omega (arith, s))
  at_6 (Err CannotRead) h s = absurd (omega (arith, s))
  at_6 (Err (NotCommand line)) h s = absurd (omega (arith, s))
  at_6 (Err Memory) h s = absurd (omega (arith, s))
  at_6 (Err CannotWatch) h s = absurd (h.1)
  at_6 (Err NoThread) h s = absurd (h.1)
  at_6 (Err OutputFailed) h s = h.1

  -- at 4 nothing, or a beginning of it
  pub at_4 : (r : Result A Fault) → IsRun r → status_of r ≡ 4 → (new ≡ old) ⊎ BeginsRun report bytes old new
  at_4 (Ok x) h s = absurd (omega (arith, s))
  at_4 (Err Usage) h s = absurd (omega (arith, s))
  at_4 (Err NotUtf8) h s = absurd (omega (arith, s))
  at_4 (Err CannotRead) h s = absurd (omega (arith, s))
  at_4 (Err (NotCommand line)) h s = absurd (omega (arith, s))
  at_4 (Err Memory) h s = h.1
  at_4 (Err CannotWatch) h s = absurd (h.1)
  at_4 (Err NoThread) h s = absurd (h.1)
  at_4 (Err OutputFailed) h s = absurd (omega (arith, s))

  -- at 1 and 3 nothing
  pub at_1_or_3 : (r : Result A Fault) → IsRun r → (status_of r ≡ 1) ⊎ (status_of r ≡ 3) → new ≡ old
  at_1_or_3 (Ok x) h (inl s) = absurd (omega (arith, s))
  at_1_or_3 (Ok x) h (inr s) = absurd (omega (arith, s))
  at_1_or_3 (Err Usage) h s = absurd (h.1)
  at_1_or_3 (Err NotUtf8) h s = absurd (h.1)
  at_1_or_3 (Err CannotRead) h s = h.1
  at_1_or_3 (Err (NotCommand line)) h s = h.1.0
  at_1_or_3 (Err Memory) h (inl s) = absurd (omega (arith, s))
  at_1_or_3 (Err Memory) h (inr s) = absurd (omega (arith, s))
  at_1_or_3 (Err CannotWatch) h s = absurd (h.1)
  at_1_or_3 (Err NoThread) h s = absurd (h.1)
  at_1_or_3 (Err OutputFailed) h (inl s) = absurd (omega (arith, s))
  at_1_or_3 (Err OutputFailed) h (inr s) = absurd (omega (arith, s))

  -- at 3 the bytes are no script
  pub at_3 : (r : Result A Fault) → IsRun r → status_of r ≡ 3 → IfSome bytes IsFaulty
  at_3 (Ok x) h s = absurd (omega (arith, s))
  at_3 (Err Usage) h s = absurd (h.1)
  at_3 (Err NotUtf8) h s = absurd (h.1)
  at_3 (Err CannotRead) h s = absurd (omega (arith, s))
  at_3 (Err (NotCommand line)) h s = given_faulty bytes line h.1.1
  at_3 (Err Memory) h s = absurd (omega (arith, s))
  at_3 (Err CannotWatch) h s = absurd (h.1)
  at_3 (Err NoThread) h s = absurd (h.1)
  at_3 (Err OutputFailed) h s = absurd (omega (arith, s))

  -- at 0 and 6 they are one
  pub at_0_or_6 : (r : Result A Fault) → IsRun r → (status_of r ≡ 0) ⊎ (status_of r ≡ 6) → IfSome bytes IsScript
  at_0_or_6 r h (inl s) = let p = at_0 r h s in given_script bytes p.0 p.1
  at_0_or_6 r h (inr s) = let p = at_6 r h s in given_script bytes p.0 p.1

  -- there is no other status
  pub at_any : (r : Result A Fault) → IsRun r →
      (status_of r ≡ 0) ⊎ ((status_of r ≡ 1) ⊎ ((status_of r ≡ 3) ⊎ ((status_of r ≡ 4) ⊎ (status_of r ≡ 6))))
  at_any (Ok x) h = inl refl
  at_any (Err Usage) h = absurd (h.1)
  at_any (Err NotUtf8) h = absurd (h.1)
  at_any (Err CannotRead) h = inr (inl refl)
  at_any (Err (NotCommand line)) h = inr (inr (inl refl))
  at_any (Err Memory) h = inr (inr (inr (inl refl)))
  at_any (Err CannotWatch) h = absurd (h.1)
  at_any (Err NoThread) h = absurd (h.1)
  at_any (Err OutputFailed) h = inr (inr (inr (inr refl)))
