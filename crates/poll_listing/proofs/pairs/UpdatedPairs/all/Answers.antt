use Rattle.std.proofs.Common.{◌∙◌, ap}
use Rattle.poll_listing.specs.Pairs.{updated_pairs}
use Rattle.poll_listing.proofs.UpdatedPairs.{from_path, from-start}
use Rattle.poll_listing.proofs.pairs.UpdatedPairs.all.Goals as goal

pub returns : goal.returns
returns g c =
    let os = c.args.old.now.entries in
    let us = c.args.updates.now.entries in
    c.new-2.ensures ∙ ap (λ es. updated_pairs es us) (ap (λ p. from_path p os) c.empty.ensures ∙ from-start os)
