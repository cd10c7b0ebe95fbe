use Rattle.std.proofs.Common.{◌≡◌, Some, rules, refl}
use Rattle.std.proofs.lemmas.Result.{on_ok_weaker}
use Rattle.reader_paths.specs.Plan.Target.{target_of}
use Rattle.program_copy.proofs.MovingLemmas.{carry_both, carry_others, others_none}
use Rattle.program_copy.proofs.kept.Kept.carry_one.Goals as goal

pub returns-in-None-clause-others : goal.returns-in-None-clause-others
returns-in-None-clause-others g c = others_none _ _ _ _

pub returns-in-Some-clause-both : goal.returns-in-Some-clause-both
returns-in-Some-clause-both g c =
    let move = c.args.found.now in
    let there : target_of move.from move.to c.args.path.now ≡ Some c.in-Some.new = search rules in
    on_ok_weaker c.carry_to.result
    (λ h. carry_both move c.args.self.now.copied _ c.args.path.now c.in-Some.new c.args.standing there h.0)
    c.carry_to.ensures.carried

pub returns-in-Some-clause-others : goal.returns-in-Some-clause-others
returns-in-Some-clause-others g c =
    let move = c.args.found.now in
    let there : target_of move.from move.to c.args.path.now ≡ Some c.in-Some.new = search rules in
    on_ok_weaker c.carry_to.result
    (λ h. carry_others move c.args.sources.now.entries c.args.self.now.copied _ _ _ c.args.path.now c.in-Some.new
    c.args.standing there h.0 h.1) c.carry_to.ensures.carried
