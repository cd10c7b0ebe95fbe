-- Statuses of runs that stop.
use Rattle.std.proofs.Common.{◌≡◌, ◌≢◌, ◌⊎◌, inl, inr, refl, ℕ, List, Option, arith}
use Rattle.mirror_run.specs.Script.Faults.{fault_status}
use Rattle.mirror_run.specs.declared.script.fault.Fault.{Fault}
use Rattle.mirror_run.specs.declared.script.fault.Fault.TheVariants.{Usage, NotUtf8, CannotRead, NotCommand, Memory, CannotWatch, OutputFailed, NoThread}
use Rattle.mirror_threads.specs.declared.stop.Stop.{Stop}
use Rattle.mirror_threads.specs.declared.stop.Stop.TheVariants.{Faulty, Timeouts}
use Rattle.mirror_threads.specs.Threads.{AreScripts, Given, IsEarlyFault, IsEarlyStatus, IsEarlyStop, IsOneUnfit, IsStop, IsThreadsStatus, IsThreadsStop, IsUnread, stop_status}

-- a fault's status is none of a run that went to its end
pub other_status : (fault : Fault) → (fault_status fault ≢ 0) × (fault_status fault ≢ 7)
other_status Usage = ((λ e. cc), (λ e. cc))
other_status NotUtf8 = ((λ e. cc), (λ e. cc))
other_status CannotRead = ((λ e. cc), (λ e. cc))
other_status (NotCommand line) = ((λ e. cc), (λ e. cc))
other_status Memory = ((λ e. cc), (λ e. cc))
other_status OutputFailed = ((λ e. cc), (λ e. cc))
other_status CannotWatch = ((λ e. cc), (λ e. cc))
other_status NoThread = ((λ e. cc), (λ e. cc))

-- these statuses are none of a run that stops early
pub not_early : (n : ℕ) → (n ≡ 0) ⊎ ((n ≡ 6) ⊎ (n ≡ 7)) → IsEarlyStatus n → ⊥
not_early n (inl e) (inl h) = cc
not_early n (inl e) (inr (inl h)) = cc
not_early n (inl e) (inr (inr (inl h))) = cc
not_early n (inl e) (inr (inr (inr h))) = cc
not_early n (inr (inl e)) (inl h) = cc
not_early n (inr (inl e)) (inr (inl h)) = cc
not_early n (inr (inl e)) (inr (inr (inl h))) = cc
not_early n (inr (inl e)) (inr (inr (inr h))) = cc
not_early n (inr (inr e)) (inl h) = cc
not_early n (inr (inr e)) (inr (inl h)) = cc
not_early n (inr (inr e)) (inr (inr (inl h))) = cc
not_early n (inr (inr e)) (inr (inr (inr h))) = cc

module _ (given : Given) where
  -- the status of a fault that ends a run early
  early_fault : (fault : Fault) → IsEarlyFault given fault → IsEarlyStatus (fault_status fault)
  early_fault Usage h = absurd h
  early_fault NotUtf8 h = absurd h
  early_fault CannotRead h = inl refl
  early_fault (NotCommand line) h = inr (inl refl)
  early_fault Memory h = inr (inr (inl refl))
  early_fault OutputFailed h = absurd h
  early_fault CannotWatch h = absurd h
  early_fault NoThread h = inr (inr (inr refl))

  -- the status of a run that stops early
  early_stop : (stop : Stop) → IsEarlyStop given stop → IsEarlyStatus (stop_status stop)
  early_stop (Faulty name fault) h = early_fault fault h
  early_stop Timeouts h = inr (inl refl)

  -- a fault with the status 3 is that of a script
  unfit_fault : (fault : Fault) → IsEarlyFault given fault → fault_status fault ≡ 3 → IsOneUnfit given
  unfit_fault Usage h s = absurd h
  unfit_fault NotUtf8 h s = absurd h
  unfit_fault CannotRead h s = absurd (omega (arith, s))
  unfit_fault (NotCommand line) h s = h
  unfit_fault Memory h s = absurd (omega (arith, s))
  unfit_fault OutputFailed h s = absurd h
  unfit_fault CannotWatch h s = absurd h
  unfit_fault NoThread h s = absurd (omega (arith, s))

  -- .. and a run that stops early with it has such a script, or scripts that differ in timeout
  early_fails : (stop : Stop) → IsEarlyStop given stop → stop_status stop ≡ 3 →
      IsUnread given
  early_fails (Faulty name fault) h s = inl (unfit_fault fault h s)
  early_fails Timeouts h s = inr h

  -- what stops a run of scripts that were read stops it early
  pub threads_stop : (stop : Stop) → IsThreadsStop stop → IsEarlyStop given stop
  threads_stop (Faulty name Usage) h = absurd h
  threads_stop (Faulty name NotUtf8) h = absurd h
  threads_stop (Faulty name CannotRead) h = absurd h
  threads_stop (Faulty name (NotCommand line)) h = absurd h
  threads_stop (Faulty name Memory) h = tt
  threads_stop (Faulty name OutputFailed) h = absurd h
  threads_stop (Faulty name CannotWatch) h = absurd h
  threads_stop (Faulty name NoThread) h = tt
  threads_stop Timeouts h = absurd h

module _ (given : Given) (old new : Option (List ℕ)) (stop : Stop) where
  -- the status of a run that stops
  pub stopped_status : IsStop given old new stop → IsThreadsStatus (stop_status stop)
  stopped_status (inl six) = inr (inr (inl six.0))
  stopped_status (inr early) = inr (inr (inr (early_stop given stop early.0)))

  -- a run that stops early has printed nothing
  pub stopped_untouched : IsStop given old new stop → IsEarlyStatus (stop_status stop) → new ≡ old
  stopped_untouched (inl six) h = absurd (not_early (stop_status stop) (inr (inl six.0)) h)
  stopped_untouched (inr early) h = early.1

  -- a run that stops with 3 has a script that is none, or scripts that differ in timeout
  pub stopped_fails : IsStop given old new stop → stop_status stop ≡ 3 → IsUnread given
  stopped_fails (inl six) s = absurd (not_early (stop_status stop) (inr (inl six.0)) (inr (inl s)))
  stopped_fails (inr early) s = early_fails given stop early.0 s

  -- a run that stops with 6 has read its scripts
  pub stopped_reads : IsStop given old new stop → stop_status stop ≡ 6 → AreScripts given
  stopped_reads (inl six) s = six.1
  stopped_reads (inr early) s = absurd (not_early (stop_status stop) (inr (inl s)) (early_stop given stop early.0))
