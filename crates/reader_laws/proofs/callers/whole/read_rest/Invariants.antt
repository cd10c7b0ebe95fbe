use Rattle.std.proofs.Common.{◌≡◌, drop}
use Rattle.reader_laws.specs.Callers.Whole.{read_on}
use Rattle.reader_laws.proofs.callers.whole.read_rest.Given as goal

-- what is left to play makes what all make of the paths
abbrev pub invariant-loop-report : goal.invariant-loop-report
invariant-loop-report g l = read_on l.paths (drop l.report-index l.reports) ≡ read_on l.fn.paths l.fn.reports
