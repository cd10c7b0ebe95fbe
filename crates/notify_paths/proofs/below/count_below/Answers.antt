use Rattle.std.proofs.Common.{rules, ◌≡◌, ◌∙◌, ap, length}
use Rattle.notify_paths.proofs.Prefixes.{entries_behind, run_below, run_is_below}
use Rattle.notify_paths.proofs.below.count_below.Goals as goal

pub returns-then-not-starts_with : goal.returns-then-not-starts_with
returns-then-not-starts_with g c =
    let path = c.args.path.now in
    let entries = c.args.map.now.entries in
    let run : c.loop-key.count ≡ length (run_below path (entries_behind path entries)) = search rules in
    run ∙ ap length (run_is_below path entries c.range-key-items.ensures.ordered)

pub returns : goal.returns
returns g c =
    let path = c.args.path.now in
    let entries = c.args.map.now.entries in
    let run : c.loop-key.count ≡ length (run_below path (entries_behind path entries)) = search rules in
    run ∙ ap length (run_is_below path entries c.range-key-items.ensures.ordered)
