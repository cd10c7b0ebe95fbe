use Rattle.debounce_lock.proofs.Moves.{has_word, splits_righted}
use Rattle.debounce_lock.specs.Rights.{Feeds}
use Rattle.debounce_lock.proofs.lock.Lock.feeding.Goals as goal

pub split_seat-requires : goal.split_seat-requires
split_seat-requires g c =
    (c.requires.lock.0, has_word _ c.args.self.now.single.0, splits_righted _ _ Feeds _ _ c.requires.feeds)
