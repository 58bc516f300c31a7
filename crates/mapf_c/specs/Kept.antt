-- What the handle of a dispatcher owns. (own)
use Rattle.std.specs.Prelude.{ℕ, Option, Some, None}
use base.Fml.{Fml, ftrue}
use base.Stored.{Coded}
use denote.RawPtr.{Ptr}
use Rattle.std.specs.Box.Ownership.{box_owns}
use Rattle.std.specs.Coded.{coded_option}
use Rattle.std.specs.Global.{Global}
use Rattle.std_heap.specs.contracts.GlobalAllocator.TheImpl.{ghosts}
use Rattle.mapf_player.specs.Dispatching.{Progress}
use Rattle.mapf_player.specs.contracts.dispatch.Dispatch.{the_row}

-- the block of the dispatcher and the right to free it, or nothing
abbrev pub kept_owns : Global → Ptr → Option Progress → Fml
kept_owns alloc p None = ftrue
kept_owns alloc p (Some progress) = box_owns (ghosts.dealloc_token alloc) the_row p progress

-- the code of what a handle tells
abbrev pub kept_coded : Coded (Option Progress)
kept_coded = coded_option the_row.coded

-- 1 if there is a dispatcher, else 0
abbrev pub flag_of : Option Progress → ℕ
flag_of None = 0
flag_of (Some progress) = 1
