use Rattle.debounce_lock.proofs.Moves.{has_word, splits}
use Rattle.debounce_lock.proofs.lock.Lock.another.Goals as goal

pub split_seat-requires : goal.split_seat-requires
split_seat-requires g c = (c.requires.0, has_word _ c.args.self.now.single.0, splits _ _ _ _)
