-- The states of devices for tests, and what they do in a call.
use Rattle.std.specs.Prelude.{ℕ, suc, zero, min, Bool, List, Option, None, Some}
use Rattle.mapf_model.specs.declared.devices.Pace.{Pace}
use Rattle.mapf_model.specs.declared.devices.Pace.TheVariants.{ByteByByte, AllAtOnce}

-- a source: the bytes that are left, how many it gives in a call, how many calls it still allows (None: any number),
-- and whether it failed
pub record FuseReads : Type 0 where
  pub remaining : List ℕ
  pub pace : Pace
  pub calls : Option ℕ
  pub has_failed : Bool

-- a sink: what was written, for how many more bytes there is room, and the same of its calls
pub record FuseWrites : Type 0 where
  pub contents : List ℕ
  pub room : ℕ
  pub pace : Pace
  pub calls : Option ℕ
  pub has_failed : Bool

-- how many of so many bytes are moved
abbrev pub moved : Pace → ℕ → ℕ
moved ByteByByte bytes = min bytes 1
moved AllAtOnce bytes = bytes

-- how many calls a device allows after one more
abbrev pub call_more : Option ℕ → Option ℕ
call_more None = None
call_more (Some zero) = Some 0
call_more (Some (suc calls)) = Some calls
