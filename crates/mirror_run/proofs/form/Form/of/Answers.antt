use Rattle.std.proofs.Common.{◌∙◌, sym}
use Rattle.std.specs.String.{string_bytes}
use Rattle.mirror_run.proofs.Forms.{form_of-many}
use Rattle.mirror_run.proofs.form.Form.of.Goals as goal

pub returns-in-len4-up : goal.returns-in-len4-up
returns-in-len4-up g c =
    rw c.as_str-in-len4-up.ensures.value at c.threads_form.ensures
    ∙ sym (form_of-many string_bytes c.args.words.now c.form-item-2.result c.in-len4-up.len_at_least
    c.form-item-2.is)
