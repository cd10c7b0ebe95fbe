use Rattle.std.proofs.Common.{rules}
use Rattle.std.proofs.lemmas.Fn.{filter_same}
use Rattle.notify_paths.specs.Path.{is_prefix}
use Rattle.poll_listing.proofs.moves.keep_above.Goals as goal

pub returns : goal.returns
returns g c =
    filter_same _ (λ folder. is_prefix folder.to c.args.path.now) _ (λ x b f' t. search rules)
    c.args.folders.now.items c.retain.new.self.items c.retain.ensures.filtered
