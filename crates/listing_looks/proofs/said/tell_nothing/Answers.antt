use Rattle.std.proofs.Common.{rules, not}
use Rattle.std.proofs.lemmas.Map.Made.{filter_same_pairs}
use Rattle.notify_paths.specs.Path.{is_prefix}
use Rattle.listing_looks.proofs.said.tell_nothing.Goals as goal

pub returns : goal.returns
returns g c =
    filter_same_pairs _ (λ u. not (is_prefix c.args.top.now u.0)) _ (λ k v b w f' t. search rules)
    c.args.updates.now.entries c.retain.new.self.entries c.retain.ensures.filtered
