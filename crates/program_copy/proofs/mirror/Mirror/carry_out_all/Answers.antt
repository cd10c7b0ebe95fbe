use Rattle.std.proofs.Common.{inl, subst}
use Rattle.std.proofs.lemmas.Result.{on_ok_weaker}
use Rattle.debounce_model.specs.Play.{events_of}
use Rattle.program_copy.specs.Looked.{AreSeen}
use Rattle.program_copy.proofs.AfterLemmas.{like_seen}
use Rattle.program_copy.proofs.mirror.Mirror.carry_out_all.Goals as goal

pub returns-then-not-branch-2 : goal.returns-then-not-branch-2
returns-then-not-branch-2 g c = on_ok_weaker c.keep_for_later-then-not-branch-2.result (λ wait p h. inl (wait p h))
    c.keep_for_later-then-not-branch-2.ensures.wait

pub returns : goal.returns
returns g c =
    let looks = c.in_ok-looks.looks in
    let seen : AreSeen (g.C.FolderAndCopy.sees c.args.self.now.kept.copy) looks.wanted.entries looks.standing.entries
    looks.others.entries =
    subst (λ kept. AreSeen (g.C.FolderAndCopy.sees kept.copy) looks.wanted.entries looks.standing.entries
    looks.others.entries) c.in_ok-has_folders.ensures.same c.in_ok-looks.ensures.seen in
    on_ok_weaker c.keep_unlike.result
    (λ like. like_seen (g.C.FolderAndCopy.sees c.args.self.now.kept.copy) (events_of c.args.batch.now)
    looks.wanted.entries looks.standing.entries looks.others.entries c.keep_unlike.new.self.waiting
    c.keep_unlike.new.self.kept.copied c.in_ok-looks.ensures.wanted c.in_ok-looks.ensures.known seen like)
    c.keep_unlike.ensures.like
