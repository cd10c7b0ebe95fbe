-- From the output of the parts to that of a run. The functions that play commands and scripts cite these.
use Rattle.std.proofs.Common.{◌≡◌, sym, ℕ, ◌⊎◌, inl, inr, subst, List, [], Option, None, Result, Ok, Err, OnOk, OnErr, IfErr, refl}
use Rattle.std.specs.Io.KnownBytes.{Appends}
use Rattle.debounce_cache.specs.declared.cache.NoCache.{NoCache}
use Rattle.debounce_model.specs.Command.{CommandValue, ReplyValue}
use Rattle.debounce_model.specs.Play.{Paths}
use Rattle.debounce_model.specs.State.{Core, counted_state}
use Rattle.reader_paths.specs.Played.{with_paths}
use Rattle.mirror_run.specs.Script.{ScriptValue}
use Rattle.mirror_run.specs.declared.script.fault.Fault.{Fault}
use Rattle.mirror_run.specs.declared.script.fault.Fault.TheVariants.{Memory, OutputFailed}
use Rattle.mirror_run.specs.declared.transcript.Report.{Report}
use Rattle.mirror_run.specs.Output.{Begins}
use Rattle.mirror_run.specs.Transcript.{PlayedValue, transcript, IsRunFrom, IsRunOf, IsPrinted, IsBegun, BeginsOrNot, IsGiven, PrintsRun}
use Rattle.mirror_run.specs.Ending.{IsStopped}
use Rattle.notify_types.specs.Event.{Timed}
use Rattle.debounce_model.specs.Cache.{no_numbers}
use Rattle.debounce_model.specs.Run.{Run}
use Rattle.debounce_model.specs.Tick.{IsOutlook}

module _ (report : Report) (old new : Option (List ℕ)) where
  -- a run that is known was printed
  pub printed : {A E : Type 0} (r : Result A E) (Is : PlayedValue → Type 0) (p : PlayedValue) → Is p →
      OnOk r (Appends old new (transcript report p)) → OnOk r (IsPrinted report Is old new)
  printed (Ok x) Is p h w = (p, h, w)
  printed (Err e) Is p h w = w

  -- .. or a beginning of it
  pub begun : {A : Type 0} (r : Result A Fault) (Is : PlayedValue → Type 0) (p : PlayedValue) → Is p →
      OnErr r (Begins old [] new (transcript report p)) →
      IfErr r (λ e. ((e ≡ Memory) × (new ≡ old)) ⊎ IsBegun report Is old new)
  begun (Ok x) Is p h w = w
  begun (Err e) Is p h w = inr (p, h, w)

  -- from an equal set
  pub printed_from : {A E C : Type 0} (r : Result A E) (s : Core C) (start from : Paths)
      (cs : List CommandValue) (t : Core C) → start ≡ from →
      OnOk r (IsPrinted report (IsRunFrom s start cs t) old new) →
      OnOk r (IsPrinted report (IsRunFrom s from cs t) old new)
  printed_from r s start from cs t e h = subst (λ k. OnOk r (IsPrinted report (IsRunFrom s k cs t) old new)) e h

  pub begun_from : {A C : Type 0} (r : Result A Fault) (s : Core C) (start from : Paths)
      (cs : List CommandValue) (t : Core C) → start ≡ from →
      IfErr r (BeginsOrNot report (IsRunFrom s start cs t) old new) →
      IfErr r (BeginsOrNot report (IsRunFrom s from cs t) old new)
  begun_from r s start from cs t e h =
      subst (λ k. IfErr r (BeginsOrNot report (IsRunFrom s k cs t) old new)) e h

  module _ (script : ScriptValue) (s t : Core NoCache)
      (opens : s.state ≡ counted_state script.timeout script.counts.taken script.counts.given)
      (answer : s.answer ≡ None) where
    -- the commands are the script's, and they run from its paths and its counts
    of_script : (p : PlayedValue) → IsRunFrom s (with_paths [] script.start) script.commands t p →
        IsRunOf script p
    of_script p h = record { first = s; last = t; opens = opens; unanswered = answer; run = h }

    pub printed_script : {A E : Type 0} (r : Result A E) →
        OnOk r (IsPrinted report (IsRunFrom s (with_paths [] script.start) script.commands t) old new) →
        OnOk r (IsPrinted report (IsRunOf script) old new)
    printed_script (Ok x) h = (h.0, of_script h.0 h.1, h.2)
    printed_script (Err e) h = h

    pub begun_script : {A : Type 0} (r : Result A Fault) →
        IfErr r (BeginsOrNot report (IsRunFrom s (with_paths [] script.start) script.commands t) old new) →
        IfErr r (BeginsOrNot report (IsRunOf script) old new)
    begun_script (Ok x) h = h
    begun_script (Err e) (inl m) = inl m
    begun_script (Err e) (inr h) = inr (h.0, of_script h.0 h.1, h.2)

module _ {C : Type 0} (s : Core C) (start : Paths) (cs told : List CommandValue) (rs said : List ReplyValue)
    (t : Core C) (outlook shown : List Timed) where
  -- the run of the commands, told by copies of them
  pub ran_from : told ≡ cs → said ≡ rs → shown ≡ outlook → Run no_numbers s cs rs t →
      IsOutlook t.state outlook →
      IsRunFrom s start cs t (record {
        start = start;
        commands = told;
        replies = said;
        state =
            t.state;
        outlook = shown;
      })
  ran_from e f w run h = record {
    start = refl;
    commands = e;
    run = subst (λ k. Run no_numbers s cs k t) (sym f) run;
    state = refl;
    outlook = subst (IsOutlook t.state) (sym w) h;
  }

module _ {A : Type 0} (report : Report) (bytes old new : Option (List ℕ)) (script : ScriptValue)
    (given : IsGiven bytes script) where
  -- what is printed of a script is printed of the bytes that it was read from
  pub printed_given : (r : Result A Fault) → OnOk r (IsPrinted report (IsRunOf script) old new) →
      OnOk r (PrintsRun report bytes old new)
  printed_given (Ok x) h = (script, given, h)
  printed_given (Err e) h = h

  -- .. and so is what is printed where the run stops
  pub stopped_given : (r : Result A Fault) →
      IfErr r (λ e. ((e ≡ Memory) × (new ≡ old)) ⊎ IsBegun report (IsRunOf script) old new) →
      IfErr r (λ e. (e ≡ Memory) ⊎ (e ≡ OutputFailed)) → IfErr r (λ e. IsStopped report bytes old new e)
  stopped_given (Ok x) h k = h
  stopped_given (Err e) (inl m) k = subst (IsStopped report bytes old new) (sym m.0) (inl m.1)
  stopped_given (Err e) (inr b) (inl m) =
      subst (IsStopped report bytes old new) (sym m) (inr (script, given, b))
  stopped_given (Err e) (inr b) (inr f) = subst (IsStopped report bytes old new) (sym f) (script, given, b)
