use Rattle.std.proofs.Common.{◌≡◌, drop}
use Rattle.listing_looks.specs.SaidUpdates.{each_gone}
use Rattle.listing_looks.proofs.said.tell_each_gone.Given as goal

-- those so far, and then the rest
abbrev pub invariant-loop-top : goal.invariant-loop-top
invariant-loop-top g l = each_gone l.updates.entries l.known (drop l.top-index l.tops)
    ≡ each_gone l.initial.updates.entries l.known l.tops
