-- How far a certificate was read from its source.
use Rattle.std.specs.Prelude.{◌≡◌, ◌+◌, ◌≤◌, ◌^◌, ℕ, Bool, false, Option, Some, None, IfSome}
use Rattle.mapf_model.specs.declared.item.Claim.{Claim}
use Rattle.mapf_model.specs.Limits.{greatest_side}
use Rattle.mapf_model.specs.Grid.{GridMap}
use Rattle.mapf_certificate.specs.declared.version.Version.{Version}
use Rattle.mapf_certificate.specs.declared.cert.LinesFault.{LinesFault}
use Rattle.mapf_certificate.specs.Lines.{IsAgentCount, grid_of}
use Rattle.mapf_certificate.specs.Buffered.{Buffered, spare}
use Rattle.mapf_certificate.specs.Window.{IsNotTextMemory}

-- how far a certificate was read: the grid's sizes, what is left in the buffer, and what the header said, including the
-- version, which means nothing before the header was read
pub record Reading : Type 0 where
  pub width : ℕ
  pub height : ℕ
  pub buffer : Buffered
  pub version : Version
  pub header : Option (ℕ × Claim)
  pub fault : Option LinesFault
  pub is_whole : Bool
  pub pending : ℕ

-- what holds at any time
pub record IsReaderState (r : Reading) : Type 0 where
  pub columns : (1 ≤ r.width) × (r.width ≤ greatest_side)
  pub rows : (1 ≤ r.height) × (r.height ≤ greatest_side)
  pub agents : IfSome r.header (λ h. IsAgentCount h.0)
  pub bounded : r.pending + spare r.buffer ≤ 2 ^ 64
  pub faults : IfSome r.fault IsNotTextMemory

-- this holds, if no error was returned
abbrev pub IfUnfaulted : Reading → Type 0 → Type 0
IfUnfaulted r P = r.fault ≡ None → P

-- this holds, if the header is expected: neither it nor an error was returned
abbrev pub IfHeaderDue : Reading → Type 0 → Type 0
IfHeaderDue r P = r.fault ≡ None → r.header ≡ None → P

-- this holds, if an item or the end is expected: neither the end nor an error was returned
abbrev pub IfItemDue : Reading → Type 0 → Type 0
IfItemDue r P = r.fault ≡ None → r.is_whole ≡ false → P

-- a grid of this size; which cells are free doesn't matter
abbrev pub grid_at : Reading → GridMap
grid_at r = grid_of r.width r.height

-- the header's number of agents
abbrev pub agents_in : Option (ℕ × Claim) → ℕ
agents_in (Some (agents, claim)) = agents
agents_in None = 0

-- the number of agents in the header
abbrev pub agents_at : Reading → ℕ
agents_at r = agents_in r.header
