-- The lines of a certificate of version 1 or 2: how they are spelled, and in which ranges.
use Rattle.std.specs.Prelude.{◌≡◌, ◌≤◌, ◌<◌, ℕ, ◌^◌, List, [], ◌++◌, codes, Option, Some, None, ⊤}
use Rattle.mapf_model.specs.declared.item.Claim.{Claim}
use Rattle.mapf_model.specs.declared.item.Claim.TheVariants as claims
use Rattle.mapf_model.specs.declared.conflict.Conflict.{Conflict}
use Rattle.mapf_model.specs.declared.conflict.Conflict.TheVariants as conflicts
use Rattle.mapf_model.specs.declared.label.Label.{Label}
use Rattle.mapf_model.specs.declared.label.Label.TheVariants as labels
use Rattle.mapf_model.specs.Limits.{most_agents}
use Rattle.mapf_model.specs.Grid.{GridMap}
use Rattle.mapf_model.specs.Printed.{IsEntryInRange, IsConflictInRange, IsClaimInRange}
use Rattle.mapf_fields.specs.Numbers.{field, pair}
use Rattle.mapf_certificate.specs.declared.version.Version.{Version}
use Rattle.mapf_certificate.specs.declared.version.Version.TheVariants.{One, Two}
use Rattle.mapf_certificate.specs.declared.line.CertLine.{CertLine}
use Rattle.mapf_certificate.specs.declared.line.CertLine.TheVariants as lines
use Rattle.mapf_certificate.specs.declared.sizes.Sizes.{Sizes}
use Rattle.mapf_certificate.specs.declared.tree_line.Due.{Due}
use Rattle.mapf_certificate.specs.declared.tree_line.Due.TheVariants as dues

-- the greatest number of bytes of a line with its LF: a word, and eight fields
abbrev pub line_room : ℕ
line_room = 189

-- a blank and the label
abbrev pub label_words : Label → List ℕ
label_words (labels.Ticks ticks) = field 32 ticks
label_words labels.Never = codes " inf"

-- the first line of a certificate, without its LF
abbrev pub title_words : Version → List ℕ
title_words One = codes "mapf-cert 1"
title_words Two = codes "mapf-cert 2"

-- a blank and the number of blocks on a split; nothing if the line doesn't have it
abbrev pub count_words : Option ℕ → List ℕ
count_words None = []
count_words (Some blocks) = field 32 blocks

-- the line of a split, without its LF
abbrev pub split_words : ℕ → Conflict → Option ℕ → List ℕ
split_words width (conflicts.Vertex i j cell tick) blocks =
    codes "vertex" ++ (field 32 i ++ (field 32 j ++ (pair width cell ++ (field 32 tick ++ count_words blocks))))
split_words width (conflicts.Swap i j from to tick) blocks =
    codes "swap" ++ (field 32 i ++ (field 32 j ++ (pair width from
    ++ (pair width to ++ (field 32 tick ++ count_words blocks)))))

-- a line without its LF, on a grid of this width
abbrev pub words : ℕ → CertLine → List ℕ
words width (lines.Title version) = title_words version
words width (lines.Agents agents) = codes "agents" ++ field 32 agents
words width (lines.Claim (claims.Cost cost)) = codes "claim cost" ++ field 32 cost
words width (lines.Claim (claims.Bound bound)) = codes "claim bound" ++ field 32 bound
words width (lines.Claim claims.Impossible) = codes "claim impossible"
words width (lines.Split conflict blocks) = split_words width conflict blocks
words width (lines.Leaf blocks) = codes "leaf" ++ field 32 blocks
words width (lines.Clash i j) = codes "clash" ++ (field 32 i ++ field 32 j)
words width (lines.Agent agent entries) = codes "agent" ++ (field 32 agent ++ field 32 entries)
words width (lines.At entry) = codes "at" ++ (pair width entry.cell ++ (field 32 entry.tick ++ label_words entry.label))
words width lines.End = codes "end"

-- 1 to 200 agents
abbrev pub IsAgentCount : ℕ → Type 0
IsAgentCount agents = (1 ≤ agents) × (agents ≤ most_agents)

-- a grid of these dimensions, used only to bound cells: its list of free cells is empty
abbrev pub grid_of : ℕ → ℕ → GridMap
grid_of width height = record { width = width; height = height; free = [] }

-- a grid of the dimensions that bound a line's cells
abbrev pub grid_for : Sizes → GridMap
grid_for sizes = grid_of sizes.width sizes.height

-- what the line of a split says of its blocks: nothing in version 1, in version 2 their number, at most one for each
-- agent
abbrev pub IsCountOnSplit : Version → ℕ → Option ℕ → Type 0
IsCountOnSplit One agents blocks = blocks ≡ None
IsCountOnSplit Two agents None = ⊥
IsCountOnSplit Two agents (Some blocks) = blocks ≤ agents

-- a line of a tree, or `end`, with its numbers in their ranges
abbrev pub IsTreeLine : Version → GridMap → ℕ → CertLine → Type 0
IsTreeLine version grid agents (lines.Title v) = ⊥
IsTreeLine version grid agents (lines.Agents count) = ⊥
IsTreeLine version grid agents (lines.Claim claim) = ⊥
IsTreeLine version grid agents (lines.Split conflict blocks) =
    IsConflictInRange grid agents conflict × IsCountOnSplit version agents blocks
IsTreeLine version grid agents (lines.Leaf blocks) = blocks ≤ agents
IsTreeLine version grid agents (lines.Clash i j) = (i < agents) × (j < agents)
IsTreeLine version grid agents (lines.Agent agent entries) = (agent < agents) × (1 ≤ entries) × (entries < 2 ^ 64)
IsTreeLine version grid agents (lines.At entry) = IsEntryInRange grid entry
IsTreeLine version grid agents lines.End = ⊤

-- the first line, of version 1 or 2
abbrev pub IsTitleLine : CertLine → Type 0
IsTitleLine (lines.Title version) = ⊤
IsTitleLine _ = ⊥

-- what may be claimed in version 1 or 2: a bound in version 2 only
abbrev pub IsClaimOfVersion : Version → Claim → Type 0
IsClaimOfVersion One (claims.Cost cost) = Unit {0}
IsClaimOfVersion One (claims.Bound bound) = ⊥
IsClaimOfVersion One claims.Impossible = Unit {0}
IsClaimOfVersion Two claim = Unit {0}

-- a claim of a certificate of this version, in range
abbrev pub IsCertClaim : Version → Claim → Type 0
IsCertClaim version claim = IsClaimInRange claim × IsClaimOfVersion version claim

-- the line of such a claim
abbrev pub IsClaimLine : Version → CertLine → Type 0
IsClaimLine version (lines.Claim claim) = IsCertClaim version claim
IsClaimLine version _ = ⊥

-- the line of a number of agents in range
abbrev pub IsAgentsLine : CertLine → Type 0
IsAgentsLine (lines.Agents agents) = IsAgentCount agents
IsAgentsLine _ = ⊥

-- an expected line, with its numbers in their ranges
abbrev pub IsLine : Due → CertLine → Type 0
IsLine dues.Title line = IsTitleLine line
IsLine dues.Agents line = IsAgentsLine line
IsLine (dues.Claim version) line = IsClaimLine version line
IsLine (dues.Tree sizes) line = IsTreeLine sizes.version (grid_for sizes) sizes.agents line

-- the grid's width, by which a line's cells are written as x,y; lines without cells need none
abbrev pub width_of : Due → ℕ
width_of (dues.Tree sizes) = sizes.width
width_of _ = 1
