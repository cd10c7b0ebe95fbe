-- Laws of the equality of entries, which the impls of `PartialEq` and `Eq` cite. Nothing here defines anything.
use Rattle.std.specs.Prelude.{◌≡◌}
use Rattle.std.specs.Bool.{Decides}
use Rattle.std.specs.Cmp.{IsEquivalence, decided, unsigned_Decides}
use Rattle.std.proofs.lemmas.Bool.Decides.{Decides-and, Decides-like}
use Rattle.debounce_model.specs.EqualityLaws.{command_eq_decides, reply_eq_decides}
use Rattle.debounce_book.specs.EntryEquality.{entry_eq}
use Rattle.debounce_book.specs.Journal.{EntryValue}

-- the test of entries decides whether they are one
pub entry_eq_decides : (a b : EntryValue) → Decides (entry_eq a b) (a ≡ b)
entry_eq_decides a b =
    let from = unsigned_Decides a.from b.from in
    let command = command_eq_decides a.command b.command in
    let reply = reply_eq_decides a.reply b.reply in
    Decides-like _ (λ p i. record { from = p.0.0 i; command = p.0.1 i; reply = p.1 i }) (λ e. ((cc, cc), cc))
    (Decides-and _ _ (Decides-and _ _ from command) reply)

-- equality of entries is an equivalence
pub entry_eq_equiv : IsEquivalence entry_eq
entry_eq_equiv = decided entry_eq entry_eq_decides
