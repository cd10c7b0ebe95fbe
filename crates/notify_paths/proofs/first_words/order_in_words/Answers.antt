use Rattle.std.proofs.Common.{arith}
use Rattle.notify_paths.proofs.FirstWords.{bytes_apart}
use Rattle.notify_paths.proofs.first_words.order_in_words.Goals as goal

pub order_of_bytes-requires : goal.order_of_bytes-requires
order_of_bytes-requires c =
    rw (c.byte_in.ensures, c.byte_in-2.ensures, c.common_bytes-n.ensures.value)
    (bytes_apart c.args.a c.args.b c.requires (omega (arith, c.ranges.a)) (omega (arith, c.ranges.b)))
