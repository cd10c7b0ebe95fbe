use Rattle.std.proofs.Common.{◌≡◌, true}
use Rattle.std.specs.Map.{keys_of}
use Rattle.debounce_model.specs.Honest.{has_folders}
use Rattle.poll_listing.specs.Listing.{has_entry}
use Rattle.poll_listing.proofs.ListingLemmas.{is_listing-insert, insert-grows, has_entry-inserted}
use Rattle.poll_listing.proofs.listing.Listing.insert.Goals as goal

pub invariant_of-self-2 : goal.invariant_of-self-2
invariant_of-self-2 g c =
    let old = c.self.inside.entries.entries in
    let folders : has_folders (keys_of old) c.args.path.now ≡ true = rw c.self.view_is c.requires.folders in
    rw (c.in-Ok.ensures.entries, c.in_ok-path.ensures.ok) (is_listing-insert old c.args.path.now c.args.found
    c.self.invariant c.requires.path folders)

pub returns-clause-here : goal.returns-clause-here
returns-clause-here g c =
    rw (c.in-Ok.ensures.entries, c.in_ok-path.ensures.ok) (has_entry-inserted c.self.inside.entries.entries
    c.args.path.now c.args.found)

pub returns-clause-grows : goal.returns-clause-grows
returns-clause-grows g c = λ q h.
    let old = c.self.inside.entries.entries in
    let there : has_entry old q ≡ true = rw c.self.view_is h in
    rw c.in-Ok.ensures.entries (insert-grows old c.in_ok-path.path c.args.found q there)
