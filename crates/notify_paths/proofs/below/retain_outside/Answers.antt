use Rattle.std.proofs.Common.{rules, ◌∙◌, sym, not}
use Rattle.std.proofs.lemmas.Map.Made.{filter_same_pairs}
use Rattle.notify_paths.specs.Path.{is_below}
use Rattle.notify_paths.proofs.Removals.{all_left}
use Rattle.notify_paths.proofs.below.retain_outside.Goals as goal

pub returns-then-count_below-eq0 : goal.returns-then-count_below-eq0
returns-then-count_below-eq0 g c =
    sym (all_left (λ e. is_below e.0 c.args.path.now) c.args.map.now.entries (sym c.count_below.ensures
    ∙ c.if-count_below-eq0.true))

pub returns : goal.returns
returns g c =
    filter_same_pairs _ (λ e. not (is_below e.0 c.args.path.now)) _ (λ k v b w f' t. search rules)
    c.args.map.now.entries c.retain.new.self.entries c.retain.ensures.filtered
