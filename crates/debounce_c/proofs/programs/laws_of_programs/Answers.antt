use Rattle.debounce_c.specs.Programs.{done}
use Rattle.debounce_c.proofs.Histories.{has_made}
use Rattle.debounce_c.proofs.programs.laws_of_programs.Goals as goal

pub returns-clause-laws : goal.returns-clause-laws
returns-clause-laws c = λ timeout history s new opened answered.
    let h = has_made history s new answered in
    let calls = done history in
    let laws = c.laws_of_calls.ensures in
    record {
      t = h.t;
      replies = h.replies;
      held = h.held;
      made = h.made;
      laws = record {
        raw = laws.raw timeout calls h.replies s h.t opened h.made;
        kept = laws.kept timeout calls h.replies s h.t opened h.made;
        founded = laws.founded timeout calls h.replies s h.t opened h.made;
        flood = laws.flood timeout calls h.replies s h.t opened h.made;
        soon = laws.soon timeout calls h.replies s h.t opened h.made;
      };
      known = λ by. laws.known timeout calls h.replies s h.t opened by h.made;
    }

pub returns-clause-written : goal.returns-clause-written
returns-clause-written c = λ history s new same answered.
    let h = has_made history s new answered in
    record {
      t = h.t;
      replies = h.replies;
      held = h.held;
      made = h.made;
      written = c.laws_of_calls.ensures.written (done history) h.replies s h.t same h.made;
    }
