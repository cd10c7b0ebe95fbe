use Rattle.std.proofs.Common.{◌∙◌, subst}
use Rattle.std.proofs.lemmas.Result.{on_ok_weaker}
use Rattle.debounce_model.specs.Play.{events_of}
use Rattle.program_copy.specs.After.{WaitOrAreCopied}
use Rattle.program_copy.proofs.AfterLemmas.{after_last}
use Rattle.program_copy.proofs.mirror.Mirror.take_batch.Goals as goal

pub returns : goal.returns
returns g c =
    let sees = g.C.FolderAndCopy.sees c.args.self.now.kept.copy in
    let new = c.carry_out_all.new.self in
    on_ok_weaker c.carry_out_all.result
    (λ after. after_last sees c.in_ok-events.events.items c.args.batch.items new.waiting new.kept.copied
    (subst (λ items. WaitOrAreCopied sees (events_of items) new.waiting new.kept.copied)
    (c.as_slice-2.ensures.value ∙ c.in_ok-append.ensures.items) after))
    c.carry_out_all.ensures
