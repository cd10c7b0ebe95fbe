use Rattle.debounce_lock.proofs.Moves.{starts}
use Rattle.debounce_lock.proofs.lock.Lock.new.Goals as goal

pub new-requires : goal.new-requires
new-requires g c =
    rw (c.in_ok-push.ensures.items, c.in_ok-slots.ensures.items, c.of-about.ensures) (starts _ _ _ _ c.requires)
