use Rattle.std.proofs.Common.{◌≡◌, ◌<◌, ◌≤◌, ◌∙◌, ap, subst, arith, length, map, take, IfOk}
use Rattle.std.specs.Path.{components_remaining, path_components}
use Rattle.notify_paths.specs.PathText.{part_of, parts_of}
use Rattle.poll_rounds.proofs.FirstLemmas.{first_begun, first_fewer, first_ended}
use Rattle.poll_rounds.proofs.walk.first_parts.Goals as goal

pub loop-later-init : goal.loop-later-init
loop-later-init g c =
    first_begun c.args.path.now (components_remaining c.components-components.result) c.args.count
    c.components-components.ensures.value

pub loop-later-preserved : goal.loop-later-preserved
loop-later-preserved g c =
    let within : c.loop-later._later < length c.args.path.now =
    omega (arith, c.loop-later-test.true, c.part_count-later-end.ensures) in
    first_fewer c.args.path.now c.args.count c.loop-later._later (components_remaining c.loop-later.components)
    (components_remaining c.next_back.new.self) c.next_back.result c.loop-later.auto._later within
    c.next_back.ensures.steps c.loop-later.invariant

pub returns-clause-ok : goal.returns-clause-ok
returns-clause-ok g c =
    let none : length c.args.path.now ≤ c.loop-later._later =
    omega (arith, c.loop-later-test.false, c.part_count-later-end.ensures) in
    let whole : parts_of c.as_os_str.result.now ≡ take c.args.count c.args.path.now =
    ap (map part_of) (ap path_components c.as_os_str.ensures ∙ c.as_path.ensures)
    ∙ first_ended c.args.path.now c.args.count c.loop-later._later
    (components_remaining c.loop-later.components) c.loop-later.auto._later none c.loop-later.invariant in
    subst (λ p. IfOk c.parse.result (λ first. first ≡ p)) whole c.parse.ensures.ok
