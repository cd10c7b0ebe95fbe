use Rattle.std.proofs.Common.{◌++◌, ◌∙◌, ap, append_assoc, subst}
use Rattle.std.proofs.lemmas.Result.{on_ok_weaker}
use Rattle.debounce_model.specs.Play.{events_of}
use Rattle.program_copy.specs.After.{WaitOrAreCopied}
use Rattle.program_copy.proofs.AfterLemmas.{after_last}
use Rattle.program_copy.proofs.mirror.Mirror.take_moved.Goals as goal

pub returns : goal.returns
returns g c =
    let copy = c.gone_of.new.self.kept.copy in
    let sees = g.C.FolderAndCopy.sees copy in
    let new = c.take_both.new.self in
    let left = c.in_ok-events.events.items in
    on_ok_weaker c.take_both.result
    (λ after. (
      copy,
      after_last sees left (c.args.batch.items ++ c.args.added.items) new.waiting new.kept.copied
          (subst (λ items. WaitOrAreCopied sees (events_of items) new.waiting new.kept.copied)
          (ap (λ xs. xs ++ c.args.added.items) c.in_ok-append.ensures.items
          ∙ append_assoc left c.args.batch.items c.args.added.items) after),
    )) c.take_both.ensures
