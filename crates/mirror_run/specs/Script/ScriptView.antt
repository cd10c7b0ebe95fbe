-- What lines and scripts of the code are.
use Rattle.std.specs.Prelude.{◌≡◌, ℕ, List, map, Option, IfSome}
use denote.Ref.{Bor}
use Rattle.debounce_model.specs.CommandView.{command_value, command_values}
use Rattle.mirror_run.specs.declared.script.line.Line.{Line}
use Rattle.mirror_run.specs.declared.script.line.Line.TheVariants as line
use Rattle.mirror_run.specs.declared.script.line.Options.{Options}
use Rattle.mirror_run.specs.declared.script.Reading.{Reading}
use Rattle.mirror_run.specs.declared.script.Script.{Script}
use Rattle.mirror_run.specs.Script.{LineValue, TimeoutLine, CountsLine, StartLine, CommandLine, ScriptValue, OptionsValue, ReadingValue, Reads, Fails, said, script_of, number_of, with_tracker}

module _ {Z : Type 0} where
  -- a line of the code as a value
  abbrev pub line_value : Line Z → LineValue
  line_value (line.Timeout timeout) = TimeoutLine timeout
  line_value (line.Counts counts) = CountsLine counts
  line_value (line.Start path) = StartLine path
  line_value (line.Command command) = CommandLine (command_value command)

  -- options of the code as a value
  abbrev pub options_value : Options Z → OptionsValue
  options_value options = record { attrs = options.attrs; exists = options.exists }

  -- the options with the tracker that these digits write
  abbrev pub tracked : Options Z → List ℕ → Option OptionsValue
  tracked options digits = with_tracker (options_value options) (number_of 64 digits)

  -- a script of the code as a value
  abbrev pub script_value : Script Z → ScriptValue
  script_value script = record {
    timeout = script.timeout;
    counts = script.counts;
    start =
        script.start.items;
    commands = command_values script.commands.items;
  }

  -- a reading of the code as a value
  abbrev pub reading_value : Reading Z → ReadingValue
  reading_value reading = record { stage = reading.stage; script = script_value reading.script }

  -- what a line makes of a reading
  abbrev pub said_next : Reading Z → Line Z → Option ReadingValue
  said_next reading line = said reading.stage (script_value reading.script) (line_value line)

  -- the script is the one that these bytes are, if they are known
  abbrev pub IsScriptOf : Option (List ℕ) → Script Z → Type 0
  IsScriptOf bytes script = IfSome bytes (λ given. script_of given ≡ Reads (script_value script))

-- these bytes are a script
abbrev pub IsScript : List ℕ → Type 0
IsScript given = (script : ScriptValue) × (script_of given ≡ Reads script)

-- these bytes fail to be a script, at some line
abbrev pub IsFaulty : List ℕ → Type 0
IsFaulty given = (line : ℕ) × (script_of given ≡ Fails line)

-- the texts of borrowed fields
abbrev pub texts : List (Bor (List ℕ)) → List (List ℕ)
texts fields = map (λ field. field.now) fields
