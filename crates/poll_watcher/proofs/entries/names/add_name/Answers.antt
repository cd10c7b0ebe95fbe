use Rattle.std.proofs.Common.{◌∙◌}
use Rattle.std.proofs.lemmas.Str.{is_utf8-from_IsUtf8}
use Rattle.std.proofs.lemmas.List.{map-append}
use Rattle.poll_watcher.proofs.EntriesLemmas.NameLemmas.{adds_text, counts_other, fails_test}
use Rattle.poll_watcher.proofs.entries.names.add_name.Goals as goal

pub returns-in_ok-push-in-Ok-clause-ok : goal.returns-in_ok-push-in-Ok-clause-ok
returns-in_ok-push-in-Ok-clause-ok g c =
    let text = is_utf8-from_IsUtf8 c.args.name.now c.in-Ok.ensures.cases.1 in
    let bytes = c.in_ok-from_str-in-Ok.ensures.ok ∙ c.in-Ok.ensures.cases.0 in
    rw (c.in_ok-push-in-Ok.ensures.items, map-append _ c.args.names.now.items _, bytes)
    (adds_text c.args.name.now _ c.args.left_out.now text)

pub returns-in-Err-clause-ok : goal.returns-in-Err-clause-ok
returns-in-Err-clause-ok g c =
    rw c.saturating_add.ensures (counts_other c.args.name.now _ c.args.left_out.now
    (fails_test c.args.name.now c.in-Err.ensures.cases.0))
