use Rattle.std.proofs.Common.{◌≡◌, ◌+◌, ◌<◌, ◌≤◌, ◌++◌, ◌∷◌, [], arith, rules, length, take}
use Rattle.std.proofs.lemmas.Grind.{common_steps}
use Rattle.std.proofs.lemmas.List.{take_more}
use Rattle.serde_json.specs.View.{view}
use Rattle.program_logic.specs.Journal.Json.{path_data}
use Rattle.program_logic.proofs.JournalLemmas.Shapes.{values_more, values_all}
use Rattle.program_logic.proofs.journal.json.paths_value.Goals as goal

pub loop-path-preserved : goal.loop-path-preserved
loop-path-preserved c =
    let paths = c.args.paths.now in
    let i = c.loop-path.path-index in
    let path = c.path-item.result in
    let in_range : i < length paths = omega arith in
    let seen : view c.in_ok-try_from_str.field-0 ≡ path_data path = search rules in
    let one : take (i + 1) paths ≡ take i paths ++ path ∷ [] =
    grind (arith, common_steps, take_more paths i path in_range) in
    values_more c.loop-path.values.items c.push.new.self.items _ paths i path (search rules) seen one
    c.loop-path.invariant

pub returns : goal.returns
returns c =
    let end : length c.args.paths.now ≤ c.loop-path.path-index = omega arith in
    values_all c.loop-path.values _ _ end c.loop-path.invariant
