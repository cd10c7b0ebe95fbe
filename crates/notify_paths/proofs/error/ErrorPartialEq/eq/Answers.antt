use Rattle.std.proofs.Common.{◌≡◌, arith}
use Rattle.std.proofs.lemmas.Grind.{common_steps}
use Rattle.notify_paths.specs.ErrorEquality.{error_eq}
use Rattle.notify_paths.specs.ErrorLaws.{error_eq_decides}
use Rattle.notify_paths.proofs.error.ErrorPartialEq.eq.Goals as goal

pub returns-then-eq-clause-same : goal.returns-then-eq-clause-same
returns-then-eq-clause-same g c =
    let value : c.eq-then-eq.result ≡ error_eq c.args.self.now c.args.other.now = grind (arith, common_steps) in
    rw value (error_eq_decides c.args.self.now c.args.other.now)
