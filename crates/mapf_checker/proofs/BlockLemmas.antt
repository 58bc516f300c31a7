-- Blocks that are sound, one by one and together.
use Rattle.std.proofs.Common.{◌≡◌, ℕ, ◌<◌, List, Some, All, AllPairs, slice_get, slice_index_or, sym, ◌∙◌, subst, arith}
use Rattle.std.proofs.lemmas.Option.{same_Some, slice_get_within, get_or_from_slice_get}
use Rattle.mapf_model.specs.declared.problem.Agent.{Agent}
use Rattle.mapf_model.specs.declared.label.Entry.{Entry}
use Rattle.mapf_model.specs.Blocks.{LabelBlock}
use Rattle.mapf_model.specs.Labels.{entries_of, AreSound, IsSoundEntry}
use Rattle.mapf_model.specs.Plan.{Instance}
use Rattle.mapf_model.specs.declared.item.Claim.{Claim}
use Rattle.mapf_model.specs.Tree.{NodeContext, Leaf, ShowsFrom, StartsShow, with_blocks, AreBlocksSound, AreOfAgents, AreOfDifferentAgents}
use Rattle.mapf_checker.specs.declared.judge.AgentProblem.{AgentProblem}
use Rattle.mapf_checker.specs.AgentProblem.{bars_on}
use Rattle.mapf_checker.specs.Leaf.{IsGoalOf, IsGoodBlock}
use Rattle.mapf_checker.specs.NodeDefects.{HasUnsoundEntry, IsUnsoundAt}
use Rattle.mapf_checker.proofs.StartLemmas.{block_of-found}

-- an entry that isn't sound by itself isn't sound in its block
pub unsound_entry : (problem : Instance) (here : NodeContext) (block : LabelBlock) (own : AgentProblem) (entries : List Entry) (place : ℕ) → own.grid.now ≡ problem.grid → bars_on own ≡ here.bars block.agent → entries ≡ block.entries →
    IsGoalOf problem block.agent own.goal → IsUnsoundAt own entries place → HasUnsoundEntry problem here block
unsound_entry problem here block own entries place on under these (agent, is_agent, is_goal) bad =
    let is = subst (λ es. slice_get es place ≡ Some bad.entry) these bad.is_entry in
    record {
      agent = agent;
      is_agent = is_agent;
      entry = bad.entry;
      listed = (place, slice_get_within block.entries place bad.entry is, get_or_from_slice_get block.entries place bad.entry bad.entry is);
      unsound = λ sound. bad.unsound
          (subst (λ g. IsSoundEntry g own.goal (bars_on own) (entries_of entries) bad.entry.cell bad.entry.tick bad.entry.label) (sym on)
          (subst (λ goal. IsSoundEntry problem.grid goal (bars_on own) (entries_of entries) bad.entry.cell bad.entry.tick bad.entry.label) is_goal
          (subst (λ bars. IsSoundEntry problem.grid agent.goal bars (entries_of entries) bad.entry.cell bad.entry.tick bad.entry.label) (sym under)
          (subst (λ es. IsSoundEntry problem.grid agent.goal (here.bars block.agent) (entries_of es) bad.entry.cell bad.entry.tick bad.entry.label) (sym these) sound))));
    }

module _ (problem : Instance) (here : NodeContext) (blocks : List LabelBlock) where
  pub blocks_sound : All (IsGoodBlock problem here) blocks → AreBlocksSound problem here blocks
  blocks_sound good i agent block is_agent is_block =
      let (k, within, at, of) = block_of-found blocks i block is_block in
      let (a, is_a, sound) = subst (λ b. IsGoodBlock problem here b) (at block) (good k block within) in
      let same : a ≡ agent = same_Some a agent (sym (subst (λ j. slice_get problem.agents j ≡ Some a) of is_a) ∙ is_agent) in
      subst (λ j. AreSound problem.grid agent.goal (here.bars j) (entries_of block.entries)) of
      (subst (λ (x : Agent). AreSound problem.grid x.goal (here.bars block.agent) (entries_of block.entries)) same sound)

  pub blocks_of_agents : All (IsGoodBlock problem here) blocks → AreOfAgents problem blocks
  blocks_of_agents good k d within = let (a, is_a, sound) = good k d within in slice_get_within problem.agents (slice_index_or blocks k d).agent a is_a

  pub rising_differ : AllPairs (λ a b. a.agent < b.agent) blocks → AreOfDifferentAgents blocks
  rising_differ rising i j d order within same = let h = rising i j d order within in omega (arith, h, same)

-- a leaf shows the claim where its blocks are good and the labels of the starts show it
module _ (problem : Instance) (claim : Claim) (here : NodeContext) (blocks : List LabelBlock) (rising : AllPairs (λ a b. a.agent < b.agent) blocks) where
  pub leaf_shows : All (IsGoodBlock problem here) blocks → StartsShow problem claim (with_blocks blocks here.entries) → ShowsFrom problem claim here (Leaf blocks)
  leaf_shows good starts = record {
    proper = (rising_differ problem here blocks rising, blocks_of_agents problem here blocks good);
    nodes = (blocks_sound problem here blocks good, starts);
  }
