use Rattle.std.proofs.Common.{◌≡◌, ◌∙◌, ◌≤◌, ◌<◌, subst, arith, length, take, true, false, sym, IfSome, OnOk}
use Rattle.poll_rounds.specs.Folders.{Adds, reaches}
use Rattle.poll_listing.specs.declared.entry.EntryKind.TheVariants.{File}
use Rattle.poll_rounds.proofs.BesideLemmas.{put-grows, put-there}
use Rattle.poll_rounds.proofs.RootLemmas.{nonempty-first, nonempty-unless, open-next, added-next, stops-missing, stops-file, arrives}
use Rattle.std.specs.Map.{keys_of}
use Rattle.debounce_model.specs.Honest.{has_folders}
use Rattle.poll_listing.specs.Listing.{is_nonempty, has_entry, entry_at, is_same_kind}
use Rattle.poll_listing.proofs.ListingLemmas.{folders-grow, folders-next}
use Rattle.poll_rounds.proofs.walk.list_root.Goals as goal

pub loop-count-preserved : goal.loop-count-preserved
loop-count-preserved g c =
    let at = g.L.Entries.entries in
    let i = c.loop-count.invariant in
    let n = c.loop-count.count in
    let root = c.args.root.now in
    let new = at c.put.new.self in
    let low : 1 ≤ n = omega (arith, c.loop-count.auto.count) in
    let high : n < length root = omega (arith, c.loop-count-test.true, c.part_count-count-end.ensures) in
    let here : has_entry new (take n root) ≡ true =
    subst (λ p. has_entry new p ≡ true) c.in_ok-path.ensures.ok
    (put-there (at c.loop-count.listing) new c.in_ok-path.path c.in-Some.found
    c.in_ok-put.ensures.ok) in
    let told = g.D.Folders.told c.args.folders.now in
    let look = c.in_ok-found.field-0 in
    let seen : IfSome told (λ tree. look ≡ entry_at tree c.in_ok-path.path) =
    subst (λ o. IfSome o (λ tree. look ≡ entry_at tree c.in_ok-path.path)) i.same
    c.in_ok-found.ensures.found in
    let found : IfSome told (λ tree. look ≡ entry_at tree (take n root)) =
    subst (λ p. IfSome told (λ tree. look ≡ entry_at tree p)) c.in_ok-path.ensures.ok seen in
    let no_file : is_same_kind File c.in-Some.found.kind ≡ false = sym c.is_file.ensures ∙ c.if-is_file.false in
    record {
      passed = open-next told c.args.mode root (at c.args.listing.now) n look c.in-Some.found low high found
          c.in-Some.is no_file i.passed;
      added = added-next told c.args.mode root (at c.args.listing.now) n look c.in-Some.found c.in_ok-path.path
          (at c.loop-count.listing) new low high c.in_ok-path.ensures.ok seen c.in-Some.is c.in_ok-put.ensures.ok
          i.added;
      above = folders-next new root n low high
          (folders-grow (at c.loop-count.listing) new (put-grows (at c.loop-count.listing) new
          c.in_ok-path.path c.in-Some.found c.in_ok-put.ensures.ok) (take n root) i.above) here;
      last = c.in_ok-put.ensures.same ∙ i.last;
      same = c.look.ensures.same ∙ i.same;
      counted = omega (arith, i.counted, c.look.ensures.counted);
    }

pub put-requires : goal.put-requires
put-requires g c =
    let at = g.L.Entries.entries in
    let i = c.loop-count.invariant in
    let n = c.loop-count.count in
    let root = c.args.root.now in
    let low : 1 ≤ n = omega (arith, c.loop-count.auto.count) in
    let high : n < length root = omega (arith, c.loop-count-test.true, c.part_count-count-end.ensures) in
    let nonempty : is_nonempty c.in_ok-path.path ≡ true =
    subst (λ p. is_nonempty p ≡ true) (sym c.in_ok-path.ensures.ok) (nonempty-first n root low high) in
    let folders : has_folders (keys_of (at c.loop-count.listing)) c.in_ok-path.path ≡ true =
    subst (λ p. has_folders (keys_of (at c.loop-count.listing)) p ≡ true) (sym c.in_ok-path.ensures.ok)
    i.above in
    record { path = nonempty; folders = folders }

pub returns-in_default-clause-added : goal.returns-in_default-clause-added
returns-in_default-clause-added g c =
    let at = g.L.Entries.entries in
    let i = c.loop-count.invariant in
    let n = c.loop-count.count in
    let root = c.args.root.now in
    let low : 1 ≤ n = omega (arith, c.loop-count.auto.count) in
    let high : n < length root = omega (arith, c.loop-count-test.true, c.part_count-count-end.ensures) in
    let told = g.D.Folders.told c.args.folders.now in
    let look = c.in_ok-found.field-0 in
    let seen : IfSome told (λ tree. look ≡ entry_at tree c.in_ok-path.path) =
    subst (λ o. IfSome o (λ tree. look ≡ entry_at tree c.in_ok-path.path)) i.same
    c.in_ok-found.ensures.found in
    let found : IfSome told (λ tree. look ≡ entry_at tree (take n root)) =
    subst (λ p. IfSome told (λ tree. look ≡ entry_at tree p)) c.in_ok-path.ensures.ok seen in
    stops-missing told c.args.mode root (at c.args.listing.now) n look (at c.loop-count.listing) low high found
    c.in_default.is i.passed i.added

pub returns-in_default-clause-err : goal.returns-in_default-clause-err
returns-in_default-clause-err g c = tt

pub returns-then-is_file-clause-added : goal.returns-then-is_file-clause-added
returns-then-is_file-clause-added g c =
    let at = g.L.Entries.entries in
    let i = c.loop-count.invariant in
    let n = c.loop-count.count in
    let root = c.args.root.now in
    let low : 1 ≤ n = omega (arith, c.loop-count.auto.count) in
    let high : n < length root = omega (arith, c.loop-count-test.true, c.part_count-count-end.ensures) in
    let told = g.D.Folders.told c.args.folders.now in
    let look = c.in_ok-found.field-0 in
    let seen : IfSome told (λ tree. look ≡ entry_at tree c.in_ok-path.path) =
    subst (λ o. IfSome o (λ tree. look ≡ entry_at tree c.in_ok-path.path)) i.same
    c.in_ok-found.ensures.found in
    let found : IfSome told (λ tree. look ≡ entry_at tree (take n root)) =
    subst (λ p. IfSome told (λ tree. look ≡ entry_at tree p)) c.in_ok-path.ensures.ok seen in
    let file : is_same_kind File c.in-Some.found.kind ≡ true = sym c.is_file.ensures ∙ c.if-is_file.true in
    stops-file told c.args.mode root (at c.args.listing.now) n look c.in-Some.found (at c.put.new.self) low high found
    c.in-Some.is file i.passed
    (added-next told c.args.mode root (at c.args.listing.now) n look c.in-Some.found c.in_ok-path.path
    (at c.loop-count.listing) (at c.put.new.self) low high c.in_ok-path.ensures.ok seen c.in-Some.is
    c.in_ok-put.ensures.ok i.added)

pub returns-clause-added : goal.returns-clause-added
returns-clause-added g c =
    let at = g.L.Entries.entries in
    let i = c.loop-count.invariant in
    let n = c.loop-count.count in
    let root = c.args.root.now in
    let told = g.D.Folders.told c.args.folders.now in
    let full : is_nonempty root ≡ true = nonempty-unless root (sym c.is_empty.ensures ∙ c.if-is_empty.false) in
    let high : length root ≤ n = omega (arith, c.loop-count-test.false, c.part_count-count-end.ensures) in
    let below : IfSome
    told (λ tree. OnOk c.list_at.result (Adds tree (reaches tree c.depth_of.result root)
    (at c.loop-count.listing) (at c.list_at.new.listing))) =
    subst (λ o. IfSome
    o (λ tree. OnOk c.list_at.result (Adds tree (reaches tree c.depth_of.result root) (at c.loop-count.listing)
    (at c.list_at.new.listing)))) i.same c.list_at.ensures.added in
    arrives told c.args.mode root (at c.args.listing.now) c.list_at.result n (at c.loop-count.listing)
    (at c.list_at.new.listing) full high i.passed i.added
    (subst (λ d. IfSome
    told (λ tree. OnOk c.list_at.result (Adds tree (reaches tree d root) (at c.loop-count.listing)
    (at c.list_at.new.listing)))) c.depth_of.ensures below)
