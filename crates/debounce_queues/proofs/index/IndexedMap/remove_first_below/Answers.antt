use Rattle.std.proofs.Common.{◌≡◌, ◌∙◌, ap, not, false}
use Rattle.notify_paths.specs.Path.{is_below}
use Rattle.notify_paths.proofs.Removals.{filter-remove_entry}
use Rattle.debounce_model.specs.Queues.{without_below}
use Rattle.debounce_queues.proofs.index.IndexedMap.remove_first_below.Goals as goal

pub returns-then-copy_first_below-clause-left : goal.returns-then-copy_first_below-clause-left
returns-then-copy_first_below-clause-left g c =
    let path = c.args.path.now in
    let key = c.copy_first_below.new.spare in
    let gone : not (is_below key path) ≡ false =
    ap not (c.copy_first_below.ensures c.if-copy_first_below.true) in
    ap (λ es. without_below es path) (rw c.replace-first.ensures.value at c.take_out.ensures.map)
    ∙ filter-remove_entry (λ k. not (is_below k path)) key c.args.self.now.map.entries gone
