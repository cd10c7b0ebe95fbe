use Rattle.std.proofs.Common.{◌≡◌, ◌∷◌, ap, ◌⊎◌, inl, inr, []}
use Rattle.std.proofs.lemmas.Slice.Zip.{Zip-more, either_empty_from_Zip}
use Rattle.std.specs.Iterator.Adapters.{zip_first, zip_second}
use Rattle.std.specs.Slice.Iter.{iter_rest}
use Rattle.std.specs.String.{string_bytes}
use Rattle.debounce_model.specs.CommandView.{command_value, reply_value, command_values, reply_values}
use Rattle.mirror_run.specs.Printed.{reply_lines, replies_lines}
use Rattle.mirror_run.proofs.Prints.{prints_start, prints_turn, prints_end, begins_left, begins_turn, at_err}
use Rattle.mirror_run.proofs.Prints.{replies_lines_end}
use Rattle.mirror_run.proofs.transcript.print_replies.Goals as goal

pub loop-command-init : goal.loop-command-init
loop-command-init g c = prints_start _ _ _ _ (cc)

pub loop-command-preserved : goal.loop-command-preserved
loop-command-preserved g c =
    let z = Zip-more c.loop-command.command-iterator c.next.new.self _ (c.in-Some.command, c.in-Some.reply)
    c.in-Some.is c.next.ensures.steps in
    let before = c.loop-command.command-iterator in
    let after = c.next.new.self in
    let commands = command_values (iter_rest (zip_first after)) in
    let replies = reply_values (iter_rest (zip_second after)) in
    let first : command_values (iter_rest (zip_first before)) ≡ command_value c.in-Some.command.now ∷ commands =
    ap command_values z.0 in
    let second : reply_values (iter_rest (zip_second before)) ≡ reply_value c.in-Some.reply.now ∷ replies =
    ap reply_values z.1 in
    let joined : replies_lines (command_values (iter_rest (zip_first before)))
    (reply_values (iter_rest (zip_second before)))
    ≡ replies_lines (command_value c.in-Some.command.now ∷ commands)
    (reply_value c.in-Some.reply.now ∷ replies) = cc in
    prints_turn _ _ _ _ (string_bytes c.loop-command.text) _ _
    (reply_lines (command_value c.in-Some.command.now) (reply_value c.in-Some.reply.now))
    (replies_lines commands replies) _ _
    joined c.loop-command.invariant c.in_ok-push_reply.ensures c.in_ok-write_full.ensures.kept

pub returns-in_err-write_full-clause-begun : goal.returns-in_err-write_full-clause-begun
returns-in_err-write_full-clause-begun g c =
    let z = Zip-more c.loop-command.command-iterator c.next.new.self _ (c.in-Some.command, c.in-Some.reply)
    c.in-Some.is c.next.ensures.steps in
    let before = c.loop-command.command-iterator in
    let after = c.next.new.self in
    let commands = command_values (iter_rest (zip_first after)) in
    let replies = reply_values (iter_rest (zip_second after)) in
    let first : command_values (iter_rest (zip_first before)) ≡ command_value c.in-Some.command.now ∷ commands =
    ap command_values z.0 in
    let second : reply_values (iter_rest (zip_second before)) ≡ reply_value c.in-Some.reply.now ∷ replies =
    ap reply_values z.1 in
    let joined : replies_lines (command_values (iter_rest (zip_first before)))
    (reply_values (iter_rest (zip_second before)))
    ≡ replies_lines (command_value c.in-Some.command.now ∷ commands)
    (reply_value c.in-Some.reply.now ∷ replies) = cc in
    at_err _ (begins_turn _ _ _ _ (string_bytes c.loop-command.text) _
    (reply_lines (command_value c.in-Some.command.now) (reply_value c.in-Some.reply.now))
    (replies_lines commands replies) _ _
    joined c.loop-command.invariant c.in_ok-push_reply.ensures c.in_err-write_full.ensures.begun)

pub returns-in_err-push_reply-clause-begun : goal.returns-in_err-push_reply-clause-begun
returns-in_err-push_reply-clause-begun g c = at_err _ (begins_left _ _ _ _ _ c.loop-command.invariant)

pub returns-clause-ok : goal.returns-clause-ok
returns-clause-ok g c =
    let last = c.loop-command.command-iterator in
    let none : (command_values (iter_rest (zip_first last)) ≡ []) ⊎ (reply_values (iter_rest (zip_second last))
    ≡ []) =
    elim (either_empty_from_Zip c.loop-command.command-iterator c.next.new.self _ c.in-None.is
    c.next.ensures.steps) [ inl e ↦ inl (ap command_values e) | inr e ↦ inr (ap reply_values e) ] in
    prints_end _ _ _ (string_bytes c.loop-command.text)
    (replies_lines (command_values (iter_rest (zip_first last)))
    (reply_values (iter_rest (zip_second last)))) _ (replies_lines_end _ _ none) c.loop-command.invariant
