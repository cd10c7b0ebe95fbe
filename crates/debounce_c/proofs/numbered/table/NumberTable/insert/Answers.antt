use Rattle.debounce_c.proofs.NumberedLemmas.MarkLemmas.{none_gone-inserted}
use Rattle.debounce_c.proofs.numbered.table.NumberTable.insert.Goals as goal

pub invariant_of-self : goal.invariant_of-self
invariant_of-self c = λ settled.
    none_gone-inserted c.insert.result c.self.inside.entries.entries c.insert.new.self.entries c.args.path c.args.id
    c.insert.ensures.entries c.insert.ensures.err (c.self.invariant settled)
