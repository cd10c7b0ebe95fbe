use Rattle.std.proofs.Common.{◌∙◌, ap, subst, sym}
use Rattle.std.proofs.lemmas.Result.{on_ok_weaker}
use Rattle.std.specs.Map.{keys_of}
use Rattle.debounce_model.specs.Play.{events_of}
use Rattle.reader_paths.specs.Plan.{look_at, stands}
use Rattle.program_logic.specs.Words.Index.{IsIndexAfter, put_wanted, without_gone}
use Rattle.program_logic.proofs.WordsLemmas.IndexLaw.{index_after, stays_exact}
use Rattle.program_logic.proofs.words.index.DocumentIndex.take_batch.Goals as goal

pub returns-clause-after : goal.returns-clause-after
returns-clause-after g c =
    let read = c.args.read.entries in
    let events = events_of c.args.batch.now in
    on_ok_weaker c.put_wanted.result
    (λ put. subst (IsIndexAfter read events c.args.self.now)
    (sym (put ∙ ap (λ index. put_wanted (keys_of c.in_ok-paths.paths.entries) index read) c.forget_gone.ensures
    ∙ ap (λ ps. put_wanted ps (without_gone (stands (look_at read)) events c.args.self.now) read)
    c.in_ok-paths.ensures))
    (index_after read c.args.self.now events c.put_wanted.ensures.ordered))
    c.put_wanted.ensures.put

pub returns-clause-exact : goal.returns-clause-exact
returns-clause-exact g c =
    on_ok_weaker c.put_wanted.result
    (stays_exact c.args.read.entries c.args.self.now c.put_wanted.new.self (events_of c.args.batch.now))
    (returns-clause-after g c)
