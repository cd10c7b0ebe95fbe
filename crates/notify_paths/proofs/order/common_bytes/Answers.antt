-- By the lowest bit in which the words differ.
use Rattle.std.proofs.Common.{arith}
use Rattle.notify_paths.proofs.Digits.{common_low}
use Rattle.notify_paths.proofs.order.common_bytes.Goals as goal

pub returns-clause-within : goal.returns-clause-within
returns-clause-within c =
    (common_low c.args.a c.args.b c.requires (omega (arith, c.ranges.a)) (omega (arith, c.ranges.b))).0

pub returns-clause-same : goal.returns-clause-same
returns-clause-same c =
    (common_low c.args.a c.args.b c.requires (omega (arith, c.ranges.a)) (omega (arith, c.ranges.b))).1

pub returns-clause-stop : goal.returns-clause-stop
returns-clause-stop c =
    (common_low c.args.a c.args.b c.requires (omega (arith, c.ranges.a)) (omega (arith, c.ranges.b))).2
