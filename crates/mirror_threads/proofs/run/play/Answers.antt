-- The scripts that were read are those that the readers give, and the numbers printed are theirs.
use Rattle.std.proofs.Common.{◌≡◌, ◌∙◌, ℕ, List, ap, inl, inr, map, refl, subst}
use Rattle.std.proofs.lemmas.Result.{err_from_is_err_and}
use Rattle.std.specs.Io.KnownBytes.{Appends}
use Rattle.mirror_run.specs.Script.ScriptView.{script_value}
use Rattle.mirror_threads.specs.Threads.{command_count, event_count, threads_lines, AreRead, HaveTimeout}
use Rattle.mirror_threads.proofs.run.play.Goals as goal

pub returns-in_err-timeout-clause-err : goal.returns-in_err-timeout-clause-err
returns-in_err-timeout-clause-err g c =
    let scripts = c.in_ok-scripts.scripts.items in
    let err = err_from_is_err_and c.from_residual-in_err-timeout.result
    c.from_residual-in_err-timeout.ensures.1 in
    let differ = subst (λ (l : List _). (timeout : ℕ) → HaveTimeout (map script_value l) timeout → ⊥)
    c.as_slice.ensures.value c.in_err-timeout.ensures.differ in
    rw (err.1, err.2, c.in_err-timeout.ensures.err)
    (inr ((map script_value scripts, c.in_ok-scripts.ensures.ok, differ), refl))

pub returns-in-Ok-write_lines-clause-ok : goal.returns-in-Ok-write_lines-clause-ok
returns-in-Ok-write_lines-clause-ok g c =
    let scripts = c.in_ok-scripts.scripts.items in
    let have = subst (λ (l : List _). HaveTimeout (map script_value l) c.in_ok-timeout.timeout)
    c.as_slice.ensures.value c.in_ok-timeout.ensures.ok in
    let read : AreRead (map g.R.Read.remaining c.args.readers.now) (map script_value scripts) =
    (c.in_ok-scripts.ensures.ok, (c.in_ok-timeout.timeout, have)) in
    let commands : c.counts_of-commands.result.0 ≡ command_count (map script_value scripts) =
    c.counts_of-commands.ensures.commands
    ∙ ap (λ (l : List _). command_count (map script_value l)) c.as_slice-2.ensures.value in
    let events : c.counts_of-commands.result.1 ≡ event_count (map script_value scripts) =
    c.counts_of-commands.ensures.events
    ∙ ap (λ (l : List _). event_count (map script_value l)) c.as_slice-2.ensures.value in
    (map script_value scripts, read, rw (← commands, ← events) c.in-Ok-write_lines.ensures.ok)

pub returns-in-Err-clause-err : goal.returns-in-Err-clause-err
returns-in-Err-clause-err g c =
    let scripts = c.in_ok-scripts.scripts.items in
    let have = subst (λ (l : List _). HaveTimeout (map script_value l) c.in_ok-timeout.timeout)
    c.as_slice.ensures.value c.in_ok-timeout.ensures.ok in
    let read : AreRead (map g.R.Read.remaining c.args.readers.now) (map script_value scripts) =
    (c.in_ok-scripts.ensures.ok, (c.in_ok-timeout.timeout, have)) in
    rw c.in-Err.ensures.err (inl (refl, (map script_value scripts, read)))
