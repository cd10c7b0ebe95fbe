use Rattle.std.proofs.Common.{◌≡◌, ◌+◌, ◌∷◌, ◌∙◌, sym, ap, drop}
use Rattle.debounce_model.specs.CommandView.{reply_value, reply_values}
use Rattle.debounce_model.specs.Play.{Paths}
use Rattle.reader_paths.specs.Played.{emitted, emitted_by, reader_paths}
use Rattle.reader_paths.proofs.ReplyLemmas.{drop_item, play_batch-first}
use Rattle.reader_paths.proofs.path_set.PathSet.play_batches.Goals as goal

pub loop-reply-preserved : goal.loop-reply-preserved
loop-reply-preserved g c =
    let i = c.loop-reply.reply-index in
    let replies = c.args.replies.now in
    let item = c.reply-item.result in
    let rest = reply_values (drop (i + 1) replies) in
    let left : reply_values (drop i replies) ≡ reply_value item ∷ rest =
    ap reply_values (drop_item replies i item c.loop-reply-test.true c.reply-item.is) in
    ap (λ (s : Paths). reader_paths s rest) c.in_ok-play_batch.ensures.ok
    ∙ sym (play_batch-first c.loop-reply.self (emitted_by (reply_value item)) (emitted rest))
    ∙ sym (ap (reader_paths c.loop-reply.self) left)
    ∙ c.loop-reply.invariant
