use Rattle.std.proofs.Common.{◌≡◌, ◌∙◌, sym, ap, length, false}
use Rattle.std.proofs.lemmas.List.{length-map}
use Rattle.debounce_model.specs.CommandView.{command_value, reply_value, command_values, reply_values}
use Rattle.debounce_model.specs.Honest.{are_honest}
use Rattle.debounce_model.specs.Play.{Paths, accepted}
use Rattle.reader_paths.specs.Stream.{is_honest}
use Rattle.reader_paths.proofs.HonestLemmas.{decided_by, honest_by, honest_decides, honest_open, honest_unpaired, value_by}
use Rattle.reader_paths.proofs.honest.is_honest.Goals as goal

pub returns-clause-value : goal.returns-clause-value
returns-clause-value g c =
    let start = c.args.start.now in
    let commands = command_values c.args.commands.now in
    let replies = reply_values c.args.replies.now in
    let same : length commands ≡ length replies = length-map c.args.commands.now command_value
    ∙ c.if-commands-replies.false ∙ sym (length-map c.args.replies.now reply_value) in
    let by = honest_by start commands replies same (sym c.in_ok-is_closed.ensures.ok ∙ c.if-not-branch.false) in
    value_by _ (are_honest c.in_ok-raw.raw (accepted commands replies)) (is_honest start commands replies)
    (ap (λ (s : Paths). are_honest s (accepted commands replies)) c.in_ok-raw.ensures.ok
    ∙ sym by) c.are_honest.ensures.ok

pub returns-clause-ok : goal.returns-clause-ok
returns-clause-ok g c =
    decided_by _ c.args.start.now (command_values c.args.commands.now) (reply_values c.args.replies.now)
    (returns-clause-value g c)

pub returns-then-commands-replies-clause-value : goal.returns-then-commands-replies-clause-value
returns-then-commands-replies-clause-value g c =
    sym (honest_unpaired c.args.start.now (command_values c.args.commands.now) (reply_values c.args.replies.now)
    (λ e. c.if-commands-replies.true (sym (length-map c.args.commands.now command_value) ∙ e
    ∙ length-map c.args.replies.now reply_value)))

pub returns-then-commands-replies-clause-ok : goal.returns-then-commands-replies-clause-ok
returns-then-commands-replies-clause-ok g c =
    honest_decides false c.args.start.now (command_values c.args.commands.now) (reply_values c.args.replies.now)
    (returns-then-commands-replies-clause-value g c)

pub returns-then-not-branch-clause-value : goal.returns-then-not-branch-clause-value
returns-then-not-branch-clause-value g c =
    sym (honest_open c.args.start.now (command_values c.args.commands.now) (reply_values c.args.replies.now)
    (sym c.in_ok-is_closed.ensures.ok ∙ c.if-not-branch.true))

pub returns-then-not-branch-clause-ok : goal.returns-then-not-branch-clause-ok
returns-then-not-branch-clause-ok g c =
    honest_decides false c.args.start.now (command_values c.args.commands.now) (reply_values c.args.replies.now)
    (returns-then-not-branch-clause-value g c)
