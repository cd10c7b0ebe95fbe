use Rattle.std.proofs.Common.{◌≡◌, ◌∙◌, ap, subst, sym}
use Rattle.poll_listing.specs.Updates.{IsUpdate, updated}
use Rattle.listing_looks.specs.SaidUpdates.{all_found, each_gone, said_updates}
use Rattle.listing_looks.proofs.SaidUpdateLemmas.{are_update, said_updated}
use Rattle.listing_looks.proofs.said.said_updates.Goals as goal

pub returns-clause-update : goal.returns-clause-update
returns-clause-update g c =
    let known = c.args.known.now in
    let lost = c.args.lost.now in
    let found = c.args.found.now.entries in
    let is : c.tell_found.new.updates.entries ≡ said_updates known lost found =
    c.in_ok-tell_found.ensures
    ∙ ap (λ us. all_found us known found)
    (c.in_ok-tell_each_gone.ensures ∙ ap (λ us. each_gone us known lost) c.new-updates.ensures.empty) in
    subst (IsUpdate known) (sym is) (are_update known lost found c.requires.known c.requires.found c.requires.said)

pub returns-clause-ok : goal.returns-clause-ok
returns-clause-ok g c =
    let known = c.args.known.now in
    let lost = c.args.lost.now in
    let found = c.args.found.now.entries in
    let is : c.tell_found.new.updates.entries ≡ said_updates known lost found =
    c.in_ok-tell_found.ensures
    ∙ ap (λ us. all_found us known found)
    (c.in_ok-tell_each_gone.ensures ∙ ap (λ us. each_gone us known lost) c.new-updates.ensures.empty) in
    ap (updated known) is ∙ said_updated known lost found c.requires.known c.requires.found
