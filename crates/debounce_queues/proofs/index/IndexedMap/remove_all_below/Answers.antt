use Rattle.std.proofs.Common.{◌∙◌, ap, rules, not}
use Rattle.std.specs.BTreeMap.{is_at}
use Rattle.std.specs.List.{list_any}
use Rattle.std.proofs.lemmas.Fn.{filter_same}
use Rattle.notify_paths.specs.Path.{is_below}
use Rattle.debounce_queues.specs.Fronts.{front_cmp}
use Rattle.debounce_queues.proofs.FrontMoves.{filtered, indexed-below}
use Rattle.debounce_queues.proofs.index.IndexedMap.remove_all_below.Goals as goal

pub returns-clause-indexed : goal.returns-clause-indexed
returns-clause-indexed g c =
    indexed-below c.args.self.now.fronts c.retain.new.self c.args.self.now.map.entries c.drop_below.new.map.entries
    c.args.path.now c.requires
    (λ t p.
    ap (list_any (is_at (front_cmp (t, p)))) (filter_same _ (λ k. not (is_below k.1 c.args.path.now))
    _ (λ x b f' t. search rules) c.args.self.now.fronts.keys c.retain.new.self.keys c.retain.ensures.filtered)
    ∙ filtered (λ t p. not (is_below p c.args.path.now)) c.args.self.now.fronts.keys t p)
    c.drop_below.ensures
