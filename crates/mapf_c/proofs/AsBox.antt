-- What is kept, and the parts of a box, own what a box of the same types owns.
use mir.Syntax.{impl, tnil, dnil}
use mathlib.Core.List.{[]}
use denote.Signature.{Slot, plain}
use Rattle.std_alloc.proofs.BoxSteps.Form.{Bx}
use Rattle.std_heap.specs.contracts.Global as Heap
use Rattle.std_heap.specs.contracts.GlobalAllocator.TheImpl.{ghosts, dict}
use Rattle.std_heap.proofs.Global.TheLaws as heap
use Rattle.mapf_player.specs.contracts.dispatch.Dispatch as Dispatch
use Rattle.mapf_player.proofs.dispatch.Dispatch.TheLaws as dispatch
use Rattle.mapf_c.specs.contracts.parts.Parts as Parts
use Rattle.mapf_c.specs.contracts.kept.Kept as Kept

abbrev pub E : Bx
E = record { row = Dispatch.the_row; laws = dispatch.the_row_laws; al = record { row = Heap.the_row; laws = heap.the_row_laws; g = ghosts; d = dict; drops = impl [] tnil dnil } }

abbrev pub FromParts : Slot 0
FromParts = plain (λ _. Parts.the_row Dispatch.the_row Heap.the_row ghosts)

abbrev pub FromKept : Slot 0
FromKept = plain (λ _. Kept.the_row)

abbrev pub FromHeap : Slot 0
FromHeap = plain (λ _. Heap.the_row)
