use Rattle.std.proofs.Common.{ap, sym, ◌∙◌, drop, take}
use Rattle.std.proofs.Math.Seq.{take-length}
use Rattle.std.proofs.lemmas.List.{length-drop}
use Rattle.debounce_core.proofs.rename.moved.other_paths.Goals as goal

pub returns-then-count-paths : goal.returns-then-count-paths
returns-then-count-paths g c =
    let xs = c.args.paths.now in
    let n = c.args.count in
    ap (λ k. take k (drop n xs)) (sym (length-drop n xs)) ∙ take-length (drop n xs)
