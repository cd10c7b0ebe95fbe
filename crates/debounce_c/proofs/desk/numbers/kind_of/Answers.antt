use Rattle.std.proofs.Common.{sym}
use Rattle.std.proofs.lemmas.List.{get_or_past}
use Rattle.notify_types.specs.Kinds.{kinds}
use Rattle.notify_types.specs.declared.kind.EventKind.TheVariants.{Any}
use Rattle.debounce_c.proofs.desk.numbers.kind_of.Goals as goal

pub returns-else-i-lt41 : goal.returns-else-i-lt41
returns-else-i-lt41 c = sym (get_or_past kinds c.args.number Any c.if-i-lt41.false)
