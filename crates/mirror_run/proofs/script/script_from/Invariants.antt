use Rattle.std.proofs.Common.{◌≡◌, ◌≤◌, ◌+◌, length}
use Rattle.std.specs.Str.Lines.{lines}
use Rattle.mirror_run.specs.Script.{read_on, script_of}
use Rattle.mirror_run.specs.Script.ScriptView.{reading_value}
use Rattle.mirror_run.proofs.script.script_from.Given as goal

-- the lines that are left give what the text gives, and the lines so far are no more than their bytes
abbrev pub invariant-loop-line : goal.invariant-loop-line
invariant-loop-line g l = record {
  outcome : read_on l.number (reading_value l.reading) (lines l.rest) ≡ script_of l.fn.bytes;
  counted : l.number + length l.rest ≤ length l.fn.bytes + 1;
}

abbrev pub decreases-loop-line : goal.decreases-loop-line
decreases-loop-line g l = length l.rest
