use Rattle.std.proofs.Common.{◌∙◌, ap₂}
use Rattle.notify_paths.specs.TextSteps.{order_text}
use Rattle.notify_paths.proofs.Orders.{order_says}
use Rattle.notify_paths.proofs.order.cmp_closely.Goals as goal

pub returns-in-Some : goal.returns-in-Some
returns-in-Some c =
    order_says c.args.a.now c.args.b.now c.in-Some.order c.requires.a c.requires.b
    (c.in-Some.ensures ∙ ap₂ order_text c.as_bytes.ensures.value c.as_bytes-2.ensures.value)

pub returns-in-Some-order_of_texts : goal.returns-in-Some-order_of_texts
returns-in-Some-order_of_texts c =
    order_says c.args.a.now c.args.b.now c.in-Some-order_of_texts.order c.requires.a c.requires.b
    (c.in-Some-order_of_texts.ensures ∙ ap₂ order_text c.as_bytes-3.ensures.value c.as_bytes-4.ensures.value)
