-- What a form of the code is.
use Rattle.std.specs.Prelude.{Option, None, Some}
use Rattle.mirror_run.specs.declared.form.Form.{Form}
use Rattle.mirror_run.specs.declared.form.Form.TheVariants.{Run, Check, Watch, Threads}
use Rattle.mirror_run.specs.Usage.{FormValue, RunForm, CheckForm, WatchForm, ThreadsForm}

-- a form of the code as a value
abbrev pub form_value : Form → FormValue
form_value (Run name) = RunForm name.now
form_value (Check name) = CheckForm name.now
form_value (Watch folder ticks) = WatchForm folder.now ticks
form_value Threads = ThreadsForm

-- the same, if there is one
abbrev pub form_values : Option Form → Option FormValue
form_values None = None
form_values (Some form) = Some (form_value form)
