use Rattle.std.proofs.Common.{◌∙◌}
use Rattle.debounce_lock.proofs.Moves.{has_word, joins, learns}
use Rattle.debounce_lock.proofs.lock.Lock.compare.Goals as goal

pub join_seat-requires : goal.join_seat-requires
join_seat-requires g c = (
  c.requires.lock.0.0,
  c.requires.lock.1.0,
  c.requires.lock.1.1,
  has_word _ c.args.self.now.single.0,
  joins _ _ _ _ _ _ c.requires.holds,
)

pub load-requires : goal.load-requires
load-requires g c = (
  c.join_seat.ensures.0 ∙ c.requires.lock.0.0,
  has_word _ c.args.self.now.single.0,
  learns _ _ _ _ _ (rw c.join_seat.ensures.2 c.requires.holds),
)
