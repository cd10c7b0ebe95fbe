use Rattle.std.proofs.Common.{◌≡◌, ◌∙◌, subst, IfSome, OnOk, true, false, sym}
use Rattle.poll_listing.specs.Listing.{is_nonempty}
use Rattle.notify_paths.specs.Path.{is_prefix}
use Rattle.poll_rounds.specs.Folders.{Adds, reaches}
use Rattle.poll_rounds.proofs.RootLemmas.{nonempty-unless}
use Rattle.poll_rounds.proofs.PartLemmas.{adds-none, adds-closed, adds-open, part-empty, part-apart, part-deep, empty-if, nonempty-below}
use Rattle.poll_rounds.proofs.part.list_part.Goals as goal

pub returns-then-is_empty-clause-added : goal.returns-then-is_empty-clause-added
returns-then-is_empty-clause-added g c =
    let at = g.L.Entries.entries in
    let root = c.args.root.now in
    let path = c.args.path.now in
    adds-none (g.D.Folders.told c.args.folders.now) (root, c.args.mode) path (at c.args.listing.now)
    (λ tree q. part-empty tree c.args.mode root path q (empty-if root (sym c.is_empty.ensures ∙ c.if-is_empty.true)))

pub returns-then-not-starts_with-clause-added : goal.returns-then-not-starts_with-clause-added
returns-then-not-starts_with-clause-added g c =
    let at = g.L.Entries.entries in
    let root = c.args.root.now in
    let path = c.args.path.now in
    let full : is_nonempty root ≡ true = nonempty-unless root (sym c.is_empty.ensures ∙ c.if-is_empty.false) in
    let apart : is_prefix root path ≡ false = sym c.starts_with.ensures ∙ c.if-not-starts_with.true in
    adds-none (g.D.Folders.told c.args.folders.now) (root, c.args.mode) path (at c.args.listing.now)
    (λ tree q. part-apart tree c.args.mode root full path q c.requires.above apart)

pub returns-in_default-clause-added : goal.returns-in_default-clause-added
returns-in_default-clause-added g c =
    let at = g.L.Entries.entries in
    let root = c.args.root.now in
    let path = c.args.path.now in
    let full : is_nonempty root ≡ true = nonempty-unless root (sym c.is_empty.ensures ∙ c.if-is_empty.false) in
    let within : is_prefix root path ≡ true = sym c.starts_with.ensures ∙ c.if-not-starts_with.false in
    adds-none (g.D.Folders.told c.args.folders.now) (root, c.args.mode) path (at c.args.listing.now)
    (λ tree q. part-deep tree c.args.mode root full path q within (sym c.levels_left.ensures ∙ c.in_default.is))

pub returns-then-not-branch-clause-added : goal.returns-then-not-branch-clause-added
returns-then-not-branch-clause-added g c =
    let at = g.L.Entries.entries in
    let root = c.args.root.now in
    let path = c.args.path.now in
    let full : is_nonempty root ≡ true = nonempty-unless root (sym c.is_empty.ensures ∙ c.if-is_empty.false) in
    let within : is_prefix root path ≡ true = sym c.starts_with.ensures ∙ c.if-not-starts_with.false in
    adds-closed (g.D.Folders.told c.args.folders.now) c.args.mode root path (at c.args.listing.now)
    c.in_ok-is_open.field-0 full within c.if-not-branch.true c.in_ok-is_open.ensures.passed

pub list_at-requires : goal.list_at-requires
list_at-requires g c =
    let root = c.args.root.now in
    let path = c.args.path.now in
    let full : is_nonempty root ≡ true = nonempty-unless root (sym c.is_empty.ensures ∙ c.if-is_empty.false) in
    let within : is_prefix root path ≡ true = sym c.starts_with.ensures ∙ c.if-not-starts_with.false in
    (nonempty-below root path full within, c.requires.folders)

pub returns-clause-added : goal.returns-clause-added
returns-clause-added g c =
    let at = g.L.Entries.entries in
    let root = c.args.root.now in
    let path = c.args.path.now in
    let told = g.D.Folders.told c.args.folders.now in
    let full : is_nonempty root ≡ true = nonempty-unless root (sym c.is_empty.ensures ∙ c.if-is_empty.false) in
    let within : is_prefix root path ≡ true = sym c.starts_with.ensures ∙ c.if-not-starts_with.false in
    let below : IfSome told (λ tree. OnOk c.list_at.result (Adds tree (reaches tree c.in-Some.depth path)
    (at c.args.listing.now) (at c.list_at.new.listing))) =
    subst (λ o. IfSome o (λ tree. OnOk c.list_at.result (Adds tree (reaches tree c.in-Some.depth path)
    (at c.args.listing.now) (at c.list_at.new.listing)))) c.in_ok-is_open.ensures.same c.list_at.ensures.added in
    adds-open told c.list_at.result c.args.mode root path c.in-Some.depth (at c.args.listing.now)
    (at c.list_at.new.listing) c.in_ok-is_open.field-0 full within (sym c.levels_left.ensures ∙ c.in-Some.is)
    c.if-not-branch.false c.in_ok-is_open.ensures.passed below
