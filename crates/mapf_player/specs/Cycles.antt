-- Full cycles: agents that follow a plan and hold each other, for ever, as FullCyclesStay says. (Own)
use Rattle.std.specs.Prelude.{◌≡◌, ℕ, ◌<◌, List, [], ◌∷◌, ◌++◌, Some, codes, slice_get}
use Rattle.mapf_fields.specs.Numbers.{field}
use Rattle.mapf_player.specs.declared.reply.Reply.{Reply}
use Rattle.mapf_player.specs.declared.reply.Reply.TheVariants.{Hold}
use Rattle.mapf_player.specs.Dispatching.{Progress, IsReply, AreReplies}

-- the agent is held by the other one if it asks
abbrev pub IsHeldBy : Progress → ℕ → ℕ → Type 0
IsHeldBy progress agent other = IsReply progress agent (Hold other) progress

-- the agent is held by the first of the others, each of these by the next, and the last agent is the end of this chain
abbrev pub IsChain : Progress → ℕ → List ℕ → ℕ → Type 0
IsChain progress agent [] last = agent ≡ last
IsChain progress agent (next ∷ others) last = IsHeldBy progress agent next × IsChain progress next others last

-- the agent stands in a full cycle: it is held by an agent from which a chain leads back to it
abbrev pub IsInCycle : Progress → ℕ → Type 0
IsInCycle progress agent = (next : ℕ) × (others : List ℕ) × IsChain progress agent (next ∷ others) agent

-- an agent that stands in a full cycle waits for ever: whoever asks meanwhile, it stays in its visit and in a full
-- cycle, and if it asks, it is held
abbrev pub FullCyclesStay : Type 0
FullCyclesStay =
    (before after : Progress) (agents : List ℕ) (replies : List Reply) (agent : ℕ) → IsInCycle before agent →
    AreReplies before agents replies after →
    IsInCycle after agent × (slice_get after.numbers agent ≡ slice_get before.numbers agent)
    × ((reply : Reply) (next : Progress) → IsReply after agent reply next → (other : ℕ) × (reply ≡ Hold other))

-- these are the agents that stand in full cycles, each once, in rising order
pub record AreInCycles (progress : Progress) (agents : List ℕ) : Type 0 where
  pub each : (n agent : ℕ) → slice_get agents n ≡ Some agent → IsInCycle progress agent
  pub all : (agent : ℕ) → IsInCycle progress agent → (n : ℕ) × (slice_get agents n ≡ Some agent)
  pub rising : (m n a b : ℕ) → m < n → slice_get agents m ≡ Some a → slice_get agents n ≡ Some b → a < b

-- a blank and a number for each agent
abbrev pub agent_fields : List ℕ → List ℕ
agent_fields [] = []
agent_fields (agent ∷ agents) = field 32 agent ++ agent_fields agents

-- the line that names these agents
abbrev pub cycle_line : List ℕ → List ℕ
cycle_line agents = codes "cycle" ++ (agent_fields agents ++ (10 ∷ []))
