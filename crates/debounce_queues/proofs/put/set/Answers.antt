use Rattle.std.proofs.Common.{◌≡◌, ◌∙◌, ap, sym, true, false, is_some, true≢false}
use Rattle.notify_paths.specs.PathLaws.{path_cmp_total}
use Rattle.debounce_model.proofs.Entries.{insert_over}
use Rattle.debounce_queues.proofs.put.set.Goals as goal

pub returns-in-None : goal.returns-in-None
returns-in-None g c = let none : false ≡ true = ap is_some c.in-None.ensures.value ∙ c.requires in
    absurd (true≢false (sym none))

pub returns-in-Some : goal.returns-in-Some
returns-in-Some g c =
    (c.get_mut.follows.holds c.args.queue).0
    ∙ sym (insert_over path_cmp_total c.args.map.now.entries c.args.path.now c.in-Some.place.now
    c.args.queue c.get_mut.ensures.ordered (sym c.in-Some.ensures.value))
