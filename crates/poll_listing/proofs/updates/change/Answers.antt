use Rattle.std.proofs.Common.{◌≡◌, ap, sym, None}
use Rattle.poll_listing.specs.Listing.{entry_at}
use Rattle.poll_listing.proofs.UpdateLemmas.{set-absent}
use Rattle.poll_listing.proofs.updates.change.Goals as goal

pub returns-in_default : goal.returns-in_default
returns-in_default g c =
    let es = c.args.entries.now.entries in
    let none : entry_at es c.args.path.now ≡ None = sym c.in_default.ensures.value in
    rw (c.in-Changed.is, set-absent es c.args.path.now c.in-Changed.found none)
    (ap (λ m. m.entries) c.get_mut.follows.holds-at-none)
