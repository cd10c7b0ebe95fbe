-- A tick at which nothing is due: it emits nothing, opens no queue, and raises the latest moment.
use Rattle.std.proofs.Common.{◌≡◌, ℕ, [], Option, add-zero, false, refl}
use Rattle.debounce_model.specs.declared.file_id.FileId.{FileId}
use Rattle.debounce_model.specs.State.{Core, State, raised}
use Rattle.debounce_model.specs.Tick.{IsBatch, IsOnlyBatch, after_tick, expired_fronts, is_due, is_expired_in, is_slot_due}
use Rattle.debounce_model.specs.WellFormed.{IsWellFormed}
use Rattle.debounce_model.proofs.DueCounts.{quiet_count}
use Rattle.debounce_model.proofs.OrderUnique.{batch_of_none, in_order_none}
use Rattle.debounce_model.proofs.StateLemmas.{quiet_state}

module _ (s : State) (now : ℕ) (w : IsWellFormed s) (nothing : is_due s now ≡ false) where
  -- the batch is empty
  pub quiet_batch : IsBatch s now []
  quiet_batch =
      let none = quiet_state (is_expired_in s now) s w.queues nothing in
      rw none.0 in_order_none

  -- .. and no other
  pub quiet_only : IsOnlyBatch s now []
  quiet_only = λ other order.
      let none = quiet_state (is_expired_in s now) s w.queues nothing in
      batch_of_none other (rw none.0 at order)

  -- the debouncer after it
  pub quiet_tick : {C : Type 0} (cache : C) (answer : Option FileId) (visited : ℕ) →
      ◌≡◌ {A = Core C}
      (record { state = record s { latest = raised s now }; cache = cache; answer = answer; visited = 0 })
      (after_tick (record { state = s; cache = cache; answer = answer; visited = visited }) now [])
  quiet_tick cache answer visited =
      let none = quiet_state (is_expired_in s now) s w.queues nothing in
      let count : expired_fronts s now ≡ 0 =
      quiet_count (is_expired_in s now) (is_slot_due (is_expired_in s now) s.rescan_slot) s.queues nothing in
      rw (none.1, none.2, add-zero, count) refl
