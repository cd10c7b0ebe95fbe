use Rattle.debounce_lock.specs.Passes.{view}
use Rattle.debounce_lock.specs.Rights.{Emits}
use Rattle.debounce_run.proofs.AccessLemmas.Gives.{told_by}
use Rattle.debounce_run.proofs.access.Access.close.Goals as goal

pub returns : goal.returns
returns g c =
    let took = c.take-guard.ensures.took in
    let keeps = rw (← c.self.view_is) at c.requires.keeps in
    record {
      told = rw (← c.self.view_is, c.end_of.ensures.0, c.end_of.ensures.1) (told_by (view c.self.inside.pass)
          (view c.take-guard.new.pass) c.take-guard.result.1 (view c.args.teller).seen keeps took
          c.compare.ensures.begins (c.compare.ensures.told Emits c.requires.tells));
    }
