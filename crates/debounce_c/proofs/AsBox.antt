-- The seal and its parts own what a box at the same types owns.
use mir.Syntax.{impl, tnil, dnil}
use mathlib.Core.List.{[]}
use denote.Signature.{Slot, plain}
use Rattle.std.proofs.BoxSteps.Form.{Bx}
use Rattle.std.specs.contracts.alloc.Global as heap
use Rattle.std.proofs.alloc.Global.TheLaws as heap_laws
use Rattle.std.specs.contracts.impls.GlobalAllocator.TheImpl.{ghosts, dict}
use Rattle.debounce_c.specs.contracts.desk.Desk as Desk
use Rattle.debounce_c.proofs.desk.Desk.TheLaws as desk
use Rattle.debounce_c.specs.contracts.sealed.parts.Parts as Parts
use Rattle.debounce_c.specs.contracts.sealed.Sealed as Sealed

abbrev pub E : Bx
E = record {
  row = Desk.the_row;
  laws = desk.the_row_laws;
  al =
      record { row = heap.the_row; laws = heap_laws.the_row_laws; g = ghosts; d = dict; drops = impl [] tnil dnil };
}

abbrev pub FromParts : Slot 0
FromParts = plain (λ _. Parts.the_row Desk.the_row heap.the_row ghosts)

abbrev pub FromSeal : Slot 0
FromSeal = plain (λ _. Sealed.the_row)
