use Rattle.std.proofs.Common.{refl}
use Rattle.std.proofs.lemmas.List.{length-map}
use Rattle.debounce_run.proofs.threads.matches.are_merged.Goals as goal

pub returns-then-are_plain : goal.returns-then-are_plain
returns-then-are_plain g c = λ yes. record {
  plain = rw length-map (c.if-are_plain.ensures refl);
  ordered =
      c.are_ordered.ensures yes;
}
