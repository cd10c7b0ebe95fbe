use Rattle.notify_paths.proofs.Orders.{skip_same, rest_is}
use Rattle.notify_paths.proofs.order.order_of_texts.Goals as goal

pub returns : goal.returns
returns c =
    let a = c.args.a.now in
    let b = c.args.b.now in
    let i = c.common_len-i.result in
    rw (skip_same a b i c.common_len-i.ensures.same) (rw (rest_is a i, rest_is b i) at c.order_of_rests.ensures)
