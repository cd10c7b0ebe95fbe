use Rattle.std.proofs.Common.{ap, ◌∙◌, ◌∷◌, Some}
use Rattle.atomic_table.specs.Table.{rest}
use Rattle.debounce_lock.proofs.Moves.{has_word, gives_it}
use Rattle.debounce_lock.proofs.lock.Lock.give.Goals as goal

pub store-requires : goal.store-requires
store-requires g c = let put = c.exchange-none.ensures in (
  put.0 ∙ c.requires.lock.0,
  has_word _ c.args.self.now.single.0,
  gives_it _ _ _ _ _ _ c.args.value c.args.self.now.single.1
      (ap (λ me. me.1) put.3 ∙ ap (λ l. (0, Some c.args.value) ∷ rest l) c.requires.lock.1) (rw put.3 c.requires.may),
)
