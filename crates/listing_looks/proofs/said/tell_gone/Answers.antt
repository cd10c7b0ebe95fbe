use Rattle.std.proofs.Common.{◌∙◌, ap, subst, sym}
use Rattle.poll_listing.proofs.UpdateLemmas.{Ascends}
use Rattle.listing_looks.specs.Looks.{within}
use Rattle.listing_looks.specs.SaidUpdates.{all_gone}
use Rattle.listing_looks.proofs.WithinLemmas.{from_path-sorted, within-from}
use Rattle.listing_looks.proofs.said.tell_gone.Goals as goal

pub loop-path-init : goal.loop-path-init
loop-path-init g c =
    let top = c.args.top.now in
    let known = c.args.known.now in
    record {
      gone = ap (all_gone c.args.updates.now.entries) (ap (λ es. within es top) c.iter_from-entries.ensures.value
          ∙ within-from top known);
      sorted = subst Ascends (sym c.iter_from-entries.ensures.value)
          (from_path-sorted top known c.iter_from-entries.ensures.law.ordered);
    }
