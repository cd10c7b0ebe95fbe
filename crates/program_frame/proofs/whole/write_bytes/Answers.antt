use Rattle.std.proofs.Common.{◌≡◌, ◌++◌, ◌∙◌, sym, ap, take, drop, List, ℕ, Bor, take-append-drop}
use Rattle.std.proofs.lemmas.List.{take_rest}
use Rattle.program_frame.proofs.WholeLemmas.Fronts.{written_none, written_more, written_kept}
use Rattle.program_frame.proofs.whole.write_bytes.Goals as goal
use Rattle.program_frame.proofs.whole.write_bytes.Goals.{in-Ok, in-Err}

pub loop-init : goal.loop-init
loop-init g c = written_none _ _

pub loop-preserved : goal.loop-preserved
loop-preserved g c =
    let rest = c.loop.rest.now in
    elim c.match-write.branch [
      | in-Ok w ↦
          let n = w.in-Ok.count in
          let left : c.match-write.rest.now ≡ drop n rest = ap (λ (r : Bor (List ℕ)). r.now) w.rest-is
          ∙ take_rest rest n in
          written_more _ _ _ _ rest (take n rest) _ (sym (take-append-drop n rest)
          ∙ ap (λ l. take n rest ++ l) (sym left)) c.loop.invariant w.in-Ok.ensures.bytes
      | in-Err w ↦ written_kept _ _ _ _ rest _ (ap (λ (r : Bor (List ℕ)). r.now) w.rest-is)
          c.loop.invariant w.in-Err.ensures.bytes
    ]
