use Rattle.mirror_run.specs.PlayedView.{played_value}
use Rattle.mirror_run.specs.Printed.{replies_lines}
use Rattle.mirror_run.specs.Transcript.{ending_lines}
use Rattle.mirror_run.proofs.Prints.{on_ok, on_err, prints_whole, begins_whole, begins_empty, begins_longer, begins_left, at_err}
use Rattle.mirror_run.proofs.transcript.print_run.Goals as goal

pub returns-clause-ok : goal.returns-clause-ok
returns-clause-ok g c =
    let played = played_value c.args.played.now in
    on_ok _ (prints_whole _ _ _ _ _ _ (replies_lines played.commands played.replies)
    (ending_lines c.args.report played) c.new-text.ensures.bytes c.in_ok-print_replies.ensures.ok
    c.in_ok-push_ending.ensures.ok) c.write_last.ensures.written

pub returns-clause-begun : goal.returns-clause-begun
returns-clause-begun g c =
    let played = played_value c.args.played.now in
    on_err _ (begins_whole _ _ _ _ _ _ (replies_lines played.commands played.replies)
    (ending_lines c.args.report played) c.new-text.ensures.bytes c.in_ok-print_replies.ensures.ok
    c.in_ok-push_ending.ensures.ok) c.write_last.ensures.begun

pub returns-in_err-print_replies-clause-begun : goal.returns-in_err-print_replies-clause-begun
returns-in_err-print_replies-clause-begun g c =
    at_err _ (begins_empty _ _ _ _ c.new-text.ensures.bytes
    (begins_longer _ _ _ _ _ c.in_err-print_replies.ensures.begun))

pub returns-in_err-push_ending-clause-begun : goal.returns-in_err-push_ending-clause-begun
returns-in_err-push_ending-clause-begun g c =
    at_err _ (begins_empty _ _ _ _ c.new-text.ensures.bytes
    (begins_longer _ _ _ _ _ (begins_left _ _ _ _ _ c.in_ok-print_replies.ensures.ok)))
