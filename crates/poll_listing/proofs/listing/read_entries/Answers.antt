use Rattle.std.proofs.Common.{◌≡◌, ◌∙◌, [], ap, sym, subst, true, false, Some, None}
use Rattle.std.specs.Prelude.{if◌then◌else◌}
use Rattle.poll_listing.specs.Listing.{is_listing, put_all, HasLast}
use Rattle.poll_listing.proofs.ParentLemmas.{found_last, made_of, parents_tell}
use Rattle.poll_listing.proofs.listing.read_entries.Goals as goal

pub invariant_of-result : goal.invariant_of-result
invariant_of-result g c =
    let es = c.in_ok-entries.entries.entries in
    made_of es c.have_parents.ensures.ordered (sym (c.in_ok-have_parents.ensures.ok ∙ parents_tell es)
    ∙ c.if-branch.true)

pub returns-then-branch-clause-ok : goal.returns-then-branch-clause-ok
returns-then-branch-clause-ok g c =
    let all = put_all [] c.args.entries.items in
    let told : is_listing all ≡ true = ap is_listing (sym c.in_ok-entries.ensures)
    ∙ (sym (c.in_ok-have_parents.ensures.ok ∙ parents_tell c.in_ok-entries.entries.entries)
    ∙ c.if-branch.true) in
    ap Some c.in_ok-entries.ensures ∙ sym (ap (λ b. if b then Some all else None) told)

pub returns-then-branch-clause-last : goal.returns-then-branch-clause-last
returns-then-branch-clause-last g c =
    subst (HasLast c.args.entries.items) (sym c.in_ok-entries.ensures) (found_last [] c.args.entries.items)

pub returns-else-branch-clause-ok : goal.returns-else-branch-clause-ok
returns-else-branch-clause-ok g c =
    let all = put_all [] c.args.entries.items in
    let told : is_listing all ≡ false = ap is_listing (sym c.in_ok-entries.ensures)
    ∙ (sym (c.in_ok-have_parents.ensures.ok ∙ parents_tell c.in_ok-entries.entries.entries)
    ∙ c.if-branch.false) in
    sym (ap (λ b. if b then Some all else None) told)
