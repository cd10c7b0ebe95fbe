-- Events that a program takes: if there are some, and alone.
use Rattle.std.proofs.Common.{◌≡◌, ◌∙◌, List, [], ◌∷◌, ◌++◌, inl, refl, sym, true≢false, subst}
use Rattle.std.proofs.Math.Dec.{eqb-suc-zero}
use Rattle.std.specs.Prelude.{length, ◌==◌, true, false}
use Rattle.std.specs.declared.alloc.Global.{Global}
use Rattle.std.specs.declared.vec.Vec.{Vec}
use Rattle.notify_types.specs.Event.{Timed}
use Rattle.program_frame.specs.Reports.Batches.{Keeps, Takes, TakesBatch, TakesEvents, TakesIfSome}
use Rattle.program_frame.specs.Reports.Loop.{Answer}

-- there are some, and they were taken
pub some_taken : {P : Type 0} (takes : Takes P) (events : List Timed) (before after : Keeps P) (answer : Answer) →
    (length events == 0) ≡ false → TakesEvents takes events before answer after →
    TakesIfSome takes events before answer after
some_taken takes [] before after answer is taken = absurd (true≢false is)
some_taken takes (x ∷ xs) before after answer is taken = taken

-- nothing stands before them
pub after_none : (waiting events : List Timed) → (length waiting == 0) ≡ true → events ≡ waiting ++ events
after_none [] events is = refl
after_none (x ∷ xs) events is = absurd (true≢false (sym is ∙ eqb-suc-zero (length xs)))

-- a batch was taken alone, and nothing waited
pub taken_alone : {P : Type 0} (takes : Takes P) (batch : Vec Timed Global) (before after : Keeps P) (answer : Answer) →
    (length before.waiting == 0) ≡ true → TakesEvents takes batch.items before answer after →
    TakesBatch takes batch before answer after
taken_alone takes batch before after answer is taken =
    inl (subst (λ events. TakesEvents takes events before answer after)
    (after_none before.waiting batch.items is) taken)
