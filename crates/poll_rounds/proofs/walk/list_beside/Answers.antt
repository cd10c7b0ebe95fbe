use Rattle.std.proofs.Common.{◌∙◌, ap, subst}
use Rattle.poll_listing.specs.Listing.{IsListing}
use Rattle.poll_listing.specs.Near.{outside}
use Rattle.poll_rounds.specs.Beside.{put_in}
use Rattle.poll_rounds.proofs.BesideLemmas.{outside-all}
use Rattle.poll_rounds.proofs.NewsLemmas.{updates-shown}
use Rattle.poll_rounds.proofs.walk.list_beside.Goals as goal

pub list_roots-requires : goal.list_roots-requires
list_roots-requires g c =
    let before = put_in c.new-beside.result in
    c.in_ok-drop_at.ensures.ok ∙ (ap (outside before) c.empty.ensures ∙ outside-all before)

pub returns-clause-shown : goal.returns-clause-shown
returns-clause-shown g c =
    updates-shown (g.D.Folders.told c.args.folders.now) c.args.roots.now c.into_updates.result
    (λ updates. updates.entries) c.args.last.now c.list_roots.new.listing
    (c.in_ok-list_roots.ensures.beside ∙ (c.drop_at-2.ensures.beside ∙ c.new-beside.ensures.beside))
    c.into_updates.ensures.ok
    (subst (λ v. IsListing (put_in v)) c.beside-2.view_is c.beside-2.invariant.put)
    c.in_ok-list_roots.ensures.added
