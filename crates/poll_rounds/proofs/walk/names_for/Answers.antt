use Rattle.std.proofs.Common.{string_bytes, String, Vec}
use Rattle.poll_rounds.proofs.ListLemmas.{names-permuted}
use Rattle.poll_rounds.proofs.walk.names_for.Goals as goal

pub returns-clause-found : goal.returns-clause-found
returns-clause-found g c =
    names-permuted string_bytes (λ (v : Vec (String g.row.A.Denot) g.row.A.Denot). v.items)
    (g.D.Folders.told c.args.folders.now) c.args.path.now c.in_ok-names.field-0 c.in-Some.names
    c.arrange.new.names c.in-Some.is c.arrange.ensures c.in_ok-names.ensures.found
