use Rattle.std.proofs.Common.{◌∙◌, Some}
use Rattle.debounce_lock.proofs.Moves.{first_of, has_word, takes_it}
use Rattle.debounce_lock.proofs.lock.Lock.take.Goals as goal

pub swap-requires : goal.swap-requires
swap-requires g c = (c.loop.invariant.0.0, has_word _ c.args.self.now.single.0, takes_it _ _ _ _ _)

pub exchange-requires : goal.exchange-requires
exchange-requires g c =
    let taken = c.swap.ensures.2.0 c.if-swap-eq-IN.true in
    (c.swap.ensures.0 ∙ c.loop.invariant.0.0, (Some taken.0, first_of _ _ _ taken.1))
