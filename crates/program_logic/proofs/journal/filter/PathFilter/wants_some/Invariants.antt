use Rattle.std.proofs.Common.{◌≡◌, take, false}
use Rattle.std.specs.List.{list_any}
use Rattle.program_logic.specs.Journal.Kept.{is_wanted}
use Rattle.program_logic.specs.Journal.KeptView.{filter_rule}
use Rattle.program_logic.proofs.journal.filter.PathFilter.wants_some.Given as goal

-- none of the paths so far is wanted
abbrev pub invariant-loop-path : goal.invariant-loop-path
invariant-loop-path l = record {
  none : list_any (is_wanted (filter_rule l.fn.self)) (take l.path-index l.paths) ≡ false;
  same : filter_rule l.self ≡ filter_rule l.fn.self;
}
