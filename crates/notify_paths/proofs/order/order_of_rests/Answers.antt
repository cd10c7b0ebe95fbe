use Rattle.std.proofs.Common.{arith}
use Rattle.std.proofs.lemmas.Grind.{common_steps}
use Rattle.notify_paths.proofs.Orders.{order_differs}
use Rattle.notify_paths.proofs.order.order_of_rests.Goals as goal

pub returns : goal.returns
returns c = grind (arith, common_steps, order_differs c.args.a.now c.args.b.now)
