use Rattle.std.proofs.Common.{◌∙◌, ◌≤◌, ◌<◌, arith, length, ap, sym, inr}
use Rattle.std.specs.List.{list_all}
use Rattle.debounce_model.specs.Honest.{folders_of}
use Rattle.notify_paths.specs.Path.{is_prefix}
use Rattle.poll_rounds.specs.Parts.{has_folder}
use Rattle.poll_rounds.proofs.PartLemmas.{prefix-take, folders-first, folders-next, folders-are, top-copied, top-folders}
use Rattle.poll_rounds.specs.Beside.{put_in}
use Rattle.poll_rounds.proofs.part.top_of.Goals as goal

pub loop-count-init : goal.loop-count-init
loop-count-init g c = folders-first (has_folder (put_in c.args.listing.now)) c.args.path.now

pub loop-count-preserved : goal.loop-count-preserved
loop-count-preserved g c =
    let n = c.loop-count.count in
    let path = c.args.path.now in
    let last = (put_in c.args.listing.now) in
    let low : 1 ≤ n = omega (arith, c.loop-count.auto.count) in
    let high : n < length path = omega (arith, c.loop-count-test.true, c.part_count-count-end.ensures) in
    folders-next (has_folder last) path n low high c.loop-count.invariant
    (ap (has_folder last) (sym c.in_ok-folder.ensures.ok) ∙ (sym c.has_folder.ensures ∙ c.if-not-has_folder.false))

pub returns-then-not-has_folder-clause-ok : goal.returns-then-not-has_folder-clause-ok
returns-then-not-has_folder-clause-ok g c =
    let n = c.loop-count.count in
    let path = c.args.path.now in
    let last = (put_in c.args.listing.now) in
    let high : n < length path = omega (arith, c.loop-count-test.true, c.part_count-count-end.ensures) in (
      ap (λ p. is_prefix p path) c.in_ok-folder.ensures.ok ∙ prefix-take n path high,
      ap (λ p. list_all (has_folder last) (folders_of p)) c.in_ok-folder.ensures.ok ∙ c.loop-count.invariant,
      inr (sym c.has_folder.ensures ∙ c.if-not-has_folder.true),
    )

pub returns-then-not-has_folder-clause-folders : goal.returns-then-not-has_folder-clause-folders
returns-then-not-has_folder-clause-folders g c =
    folders-are (put_in c.args.listing.now) c.in_ok-folder.folder
    (ap (λ p. list_all (has_folder (put_in c.args.listing.now)) (folders_of p)) c.in_ok-folder.ensures.ok
    ∙ c.loop-count.invariant)

pub returns-clause-ok : goal.returns-clause-ok
returns-clause-ok g c =
    let n = c.loop-count.count in
    let path = c.args.path.now in
    let high : length path ≤ n = omega (arith, c.loop-count-test.false, c.part_count-count-end.ensures) in
    top-copied c.try_clone.result (put_in c.args.listing.now) path n high c.loop-count.invariant c.try_clone.ensures.ok

pub returns-clause-folders : goal.returns-clause-folders
returns-clause-folders g c =
    let n = c.loop-count.count in
    let path = c.args.path.now in
    let high : length path ≤ n = omega (arith, c.loop-count-test.false, c.part_count-count-end.ensures) in
    top-folders c.try_clone.result (put_in c.args.listing.now) path n high c.loop-count.invariant c.try_clone.ensures.ok
