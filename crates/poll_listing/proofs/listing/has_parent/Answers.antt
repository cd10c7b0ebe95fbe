use Rattle.std.proofs.Common.{◌∙◌, sym, ap}
use Rattle.std.specs.Map.{keys_of}
use Rattle.poll_listing.specs.Parents.{has_this}
use Rattle.poll_listing.proofs.WalkLemmas.{has_entry-some}
use Rattle.poll_listing.proofs.listing.has_parent.Goals as goal

pub returns-in-Some : goal.returns-in-Some
returns-in-Some g c =
    let es = c.args.entries.now.entries in
    c.contains_key.ensures
    ∙ (sym (has_entry-some es c.in-Some.folder)
    ∙ ap (has_this (keys_of es)) (sym c.in-Some.is ∙ c.in_ok-parent.ensures.value))
