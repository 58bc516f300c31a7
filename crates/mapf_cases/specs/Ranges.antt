-- How large the numbers are that a leaf is judged by. (Own)
use Rattle.std.specs.Prelude.{◌≤◌, ℕ, All, Option, Some, None, length}
use Rattle.mapf_lemmas.specs.declared.leaf.Use.{Use}
use Rattle.mapf_lemmas.specs.Groups.{Group, ticks_of}
use Rattle.mapf_lemmas.specs.Statements.{Statement}
use Rattle.mapf_model.specs.Limits.{most_agents}

-- the unit of a price list, a divisor and a weight
abbrev pub greatest_unit : ℕ
greatest_unit = 1000

-- the finite bound of a lemma without a price list, in ticks
abbrev pub greatest_plain_bound : ℕ
greatest_plain_bound = 20000000000

-- what a lemma counts if it is finite, in units of a price list
abbrev pub greatest_counted : ℕ
greatest_counted = 20000000000000

-- the finite bound of a lemma with this price list or without one
abbrev pub greatest_bound : Option ℕ → ℕ
greatest_bound None = greatest_plain_bound
greatest_bound (Some number) = greatest_counted

-- a statement of at least one agent and of no more than a problem has, whose bound is small if it is finite
pub record IsStatementInRange (statement : Statement) : Type 0 where
  pub some : 1 ≤ length statement.agents
  pub few : length statement.agents ≤ most_agents
  pub small : ticks_of statement.bound ≤ greatest_bound statement.list_number

-- a weight is 1 to 1,000
pub record IsWeightInRange (used : Use) : Type 0 where
  pub some : 1 ≤ used.weight
  pub few : used.weight ≤ greatest_unit

-- a divisor is 1 to 1,000, and so are the weights
pub record IsGroupInRange (group : Group) : Type 0 where
  pub some : 1 ≤ group.divisor
  pub few : group.divisor ≤ greatest_unit
  pub weights : All IsWeightInRange group.uses
