use Rattle.std.proofs.Common.{◌∙◌, sym, inl, inr}
use Rattle.mirror_run.specs.declared.transcript.Report.TheVariants.{Check}
use Rattle.mirror_run.proofs.Endings.{at_0, at_6, at_4, at_1_or_3, at_3, at_0_or_6, at_any}
use Rattle.mirror_run.proofs.run.check_run.Goals as goal

pub returns-clause-prints : goal.returns-clause-prints
returns-clause-prints g c =
    λ s. at_0 Check _ _ _ c.play-run.result (c.play-run.ensures.ok, c.play-run.ensures.err)
    (sym c.end_run.ensures.status ∙ s)

pub returns-clause-begins : goal.returns-clause-begins
returns-clause-begins g c =
    λ s. at_6 Check _ _ _ c.play-run.result (c.play-run.ensures.ok, c.play-run.ensures.err)
    (sym c.end_run.ensures.status ∙ s)

pub returns-clause-stops : goal.returns-clause-stops
returns-clause-stops g c =
    λ s. at_4 Check _ _ _ c.play-run.result (c.play-run.ensures.ok, c.play-run.ensures.err)
    (sym c.end_run.ensures.status ∙ s)

pub returns-clause-untouched : goal.returns-clause-untouched
returns-clause-untouched g c =
    λ s. at_1_or_3 Check _ _ _ c.play-run.result (c.play-run.ensures.ok, c.play-run.ensures.err)
    (elim s [ inl e ↦ inl (sym c.end_run.ensures.status ∙ e) | inr e ↦ inr (sym c.end_run.ensures.status ∙ e) ])

pub returns-clause-reads : goal.returns-clause-reads
returns-clause-reads g c =
    λ s. at_0_or_6 Check _ _ _ c.play-run.result (c.play-run.ensures.ok, c.play-run.ensures.err)
    (elim s [ inl e ↦ inl (sym c.end_run.ensures.status ∙ e) | inr e ↦ inr (sym c.end_run.ensures.status ∙ e) ])

pub returns-clause-fails : goal.returns-clause-fails
returns-clause-fails g c =
    λ s. at_3 Check _ _ _ c.play-run.result (c.play-run.ensures.ok, c.play-run.ensures.err)
    (sym c.end_run.ensures.status ∙ s)

pub returns-clause-statuses : goal.returns-clause-statuses
returns-clause-statuses g c =
    rw c.end_run.ensures.status (at_any Check _ _ _ c.play-run.result (
      c.play-run.ensures.ok,
      c.play-run.ensures.err,
    ))
