-- Examples of the definitions on small problems. Cells of the square have the numbers 0 to 8, row by row.
use Rattle.std.specs.Prelude.{◌≡◌, ℕ, List, [], ◌∷◌, Some, None}
use Rattle.mapf_lemmas.specs.declared.constraint.PathConstraint.{PathConstraint}
use Rattle.mapf_lemmas.specs.declared.constraint.PathConstraint.TheVariants.{NotAt, Clear, Most, Least}
use Rattle.mapf_lemmas.specs.declared.joint.JointEntry.{JointEntry}
use Rattle.mapf_lemmas.specs.declared.joint.JointState.TheVariants.{Both, SecondAlone}
use Rattle.mapf_lemmas.specs.declared.price.Price.TheVariants.{Cell, Edge}
use Rattle.mapf_lemmas.specs.declared.split.Split.TheVariants.{Vertex, Cost as CostSplit, Costs}
use Rattle.mapf_lemmas.specs.Cases.{CaseTree, Branch, Leaf, left_constraints, right_constraints, IsProperSplit}
use Rattle.mapf_lemmas.specs.Constraints.{Satisfies}
use Rattle.mapf_lemmas.specs.Groups.{Group, LeafUses, Scope, Counts, LeafLabels, added, leaf_bound}
use Rattle.mapf_lemmas.specs.JointLabels.{PairTask, joint_entries_of, PairEntries, IsSoundJointEntry, AreSoundTogether}
use Rattle.mapf_lemmas.specs.Lemmas.{Lemma, One, Two, NeverArrive, ByCases, pair_of, scope_of, LemmaShows}
use Rattle.mapf_lemmas.specs.Lemmas.{CertificateShows}
use Rattle.mapf_lemmas.specs.Prices.{PriceList, no_list, paid, cell_price, edge_price, rest_price}
use Rattle.mapf_lemmas.specs.SingleLabels.{Task, IsBarred, MayRest}
use Rattle.mapf_lemmas.specs.Statements.{Statement, Meets, IsMet}
use Rattle.mapf_model.specs.declared.item.Claim.TheVariants.{Cost, Impossible}
use Rattle.mapf_model.specs.declared.label.Label.TheVariants.{Ticks, Never}
use Rattle.mapf_model.specs.Examples.{open_square, three_cells, neighbours, crossing, agent, entry}
use Rattle.mapf_model.specs.Labels.{entries_of}

-- an entry of two crossing agents at their starts
abbrev pub at_starts : ℕ → JointEntry
at_starts bound = record { state = Both 3 1; tick = 0; label = Ticks bound }

-- the lemma that two crossing agents cost 5 together: one of them has to wait, or to go around
abbrev pub crossing_lemma : Lemma
crossing_lemma = Two 0 1 [] None [] [] (at_starts 5 ∷ [])

-- a leaf that uses one lemma alone, in a group
abbrev pub one_group : ℕ → LeafUses
one_group lemma = record {
  list_number = None;
  singles = [];
  groups = record { divisor = 1; uses = record { lemma = lemma; weight = 1 } ∷ [] } ∷ [];
}

-- a certificate with one lemma of two agents shows that no plan of the crossing costs less than 5, without a split
abbrev pub ALemmaOfTwoShowsFive : Type 0
ALemmaOfTwoShowsFive = CertificateShows crossing [] (crossing_lemma ∷ []) (Leaf (one_group 0)) (Cost 5)

-- crossing agents can cost 5 together, so 6 is not a sound label of their starts
abbrev pub NoGreaterLabelIsSound : Type 0
NoGreaterLabelIsSound =
    AreSoundTogether (pair_of crossing no_list 0 1 (agent 3 5) (agent 1 7) [])
    (record { first = entries_of []; second = entries_of []; joint = joint_entries_of (at_starts 6 ∷ []) }) → ⊥

-- a price of 1 for the middle of the square at tick 1
abbrev pub middle_list : PriceList
middle_list = record { unit = 1; prices = Cell 4 1 1 ∷ [] }

-- the lemma of one agent that its path costs 3, by the price of the middle: it goes through it and pays, or it waits or
-- goes around
abbrev pub priced_lemma : ℕ → ℕ → Lemma
priced_lemma agent start = One agent [] (Some 0) (entry start 0 (Ticks 3) ∷ [])

-- a leaf that uses one lemma of each agent, by the price list
abbrev pub two_singles : LeafUses
two_singles = record { list_number = Some 0; singles = 0 ∷ 1 ∷ []; groups = [] }

-- lemmas of single agents with prices show the same: 3 + 3, less the price that only one agent pays
abbrev pub PricesShowFive : Type 0
PricesShowFive =
    CertificateShows crossing (middle_list ∷ []) (priced_lemma 0 3 ∷ priced_lemma 1 1 ∷ []) (Leaf two_singles) (Cost 5)

-- the lemma that neighbours in a corridor can't exchange their cells: they never leave their starts
abbrev pub corridor_lemma : Lemma
corridor_lemma = NeverArrive 0 1 (record { first = 0; second = 1 } ∷ [])

-- a set of one joint cell shows that no plan is valid
abbrev pub JointCellsShowImpossibility : Type 0
JointCellsShowImpossibility =
    CertificateShows neighbours [] (corridor_lemma ∷ []) (Leaf (one_group 0)) Impossible

-- the lemma of one agent that its path costs 3 if it isn't in the middle at tick 1
abbrev pub away_lemma : ℕ → ℕ → Lemma
away_lemma agent start = One agent (NotAt 4 1 ∷ []) None (entry start 0 (Ticks 3) ∷ [])

-- a leaf that uses one lemma of a single agent
abbrev pub one_single : ℕ → LeafUses
one_single lemma = record { list_number = None; singles = lemma ∷ []; groups = [] }

-- a split on the conflict of the shortest paths, with a leaf in each child that uses one lemma
abbrev pub middle_split : ℕ → ℕ → CaseTree
middle_split left right = Branch (Vertex 0 1 4 1) (Leaf (one_single left)) (Leaf (one_single right))

-- a lemma by cases: each leaf uses the lemma of the agent that isn't in the middle there
abbrev pub cases_lemma : Lemma
cases_lemma = ByCases (0 ∷ 1 ∷ []) [] (Ticks 5) (middle_split 0 1)

-- a lemma by cases shows the same, as a certificate of version 2 does by its tree
abbrev pub CasesShowFive : Type 0
CasesShowFive =
    CertificateShows crossing [] (away_lemma 0 3 ∷ away_lemma 1 1 ∷ cases_lemma ∷ []) (Leaf (one_group 2)) (Cost 5)

-- what the lemma of one agent away from the middle says
abbrev pub away_statement : ℕ → Statement
away_statement agent = record {
  agents = agent ∷ [];
  constraints = record { agent = agent; constraint = NotAt 4 1 } ∷ [];
  list_number = None;
  bound = Ticks 3;
}

-- with its leaves exchanged the lemma shows nothing: no leaf may use a lemma whose constraint isn't met there
abbrev pub UsesNeedTheirConstraints : Type 0
UsesNeedTheirConstraints =
    (statement : Statement) →
    LemmaShows crossing [] (away_statement 0 ∷ away_statement 1 ∷ [])
    (ByCases (0 ∷ 1 ∷ []) [] (Ticks 5) (middle_split 1 0)) statement → ⊥

-- the first of the crossing agents, under one constraint
abbrev pub task_under : PathConstraint → Task
task_under constraint =
    record { grid = open_square; list = no_list; agent = agent 3 5; constraints = constraint ∷ [] }

-- an agent that must not be in its goal from tick 9 on may not arrive for good at tick 2 either
abbrev pub ClearForbidsRest : Type 0
ClearForbidsRest = MayRest (task_under (Clear 5 9)) 5 2 → ⊥

-- an agent whose path must not be at the goal at tick 4 may arrive for good at tick 5, and not at tick 4 or before
abbrev pub NotForbidsRestUntilThen : Type 0
NotForbidsRestUntilThen = (MayRest (task_under (NotAt 5 4)) 5 4 → ⊥) × MayRest (task_under (NotAt 5 4)) 5 5

-- an agent whose path costs at least 3 may arrive for good at tick 3, and not at tick 2
abbrev pub LeastAllowsRestAtItsTick : Type 0
LeastAllowsRestAtItsTick = (MayRest (task_under (Least 3)) 5 2 → ⊥) × MayRest (task_under (Least 3)) 5 3

-- an agent whose path costs at most 2 is in time at its start, 2 steps from its goal; it is too late there at tick 1,
-- and in the goal itself at tick 3
abbrev pub MostBarsWhoIsLate : Type 0
MostBarsWhoIsLate =
    (IsBarred (task_under (Most 2)) 3 0 → ⊥) × IsBarred (task_under (Most 2)) 3 1 × IsBarred (task_under (Most 2)) 5 3

-- that a path costs at most 2 doesn't serve for the constraint that it isn't in the goal at tick 3: it is there at rest
abbrev pub MostMeetsNoNot : Type 0
MostMeetsNoNot =
    (IsMet (Most 2 ∷ []) (NotAt 5 3) → ⊥) × Satisfies (3 ∷ 4 ∷ 5 ∷ []) 2 (Most 2)
    × (Satisfies (3 ∷ 4 ∷ 5 ∷ []) 2 (NotAt 5 3) → ⊥)

-- each constraint meets an equal one
abbrev pub EqualMeets : Type 0
EqualMeets = (constraint : PathConstraint) → Meets constraint constraint

-- that the agent isn't in a cell from tick 3 on meets the constraint that it isn't there at tick 3, or at tick 4, or
-- from tick 4 on; a cost of at most 3 meets one of at most 4, and a cost of at least 4 meets one of at least 3
abbrev pub StricterMeets : Type 0
StricterMeets =
    Meets (Clear 5 3) (NotAt 5 3) × Meets (Clear 5 3) (NotAt 5 4) × Meets (Clear 5 3) (Clear 5 4)
    × Meets (Most 3) (Most 4) × Meets (Least 4) (Least 3)

-- that the agent isn't in a cell from tick 4 on doesn't meet the constraint that it isn't there at tick 3
abbrev pub LaterClearMeetsNoNot : Type 0
LaterClearMeetsNoNot = Meets (Clear 5 4) (NotAt 5 3) → ⊥

-- no agent has a constraint
abbrev pub unconstrained : ℕ → List PathConstraint
unconstrained agent = []

-- a split of the first agent's cost at 2: in one child it costs at most 2, and the other agent isn't in its goal from
-- tick 2 on; in the other child it costs at least 3, and the other agent has no new constraint
abbrev pub CostSplitsByTheCost : Type 0
CostSplitsByTheCost =
    (left_constraints crossing unconstrained (CostSplit 0 2) 0 ≡ Most 2 ∷ [])
    × (left_constraints crossing unconstrained (CostSplit 0 2) 1 ≡ Clear 5 2 ∷ [])
    × (right_constraints unconstrained (CostSplit 0 2) 0 ≡ Least 3 ∷ [])
    × (right_constraints unconstrained (CostSplit 0 2) 1 ≡ [])

-- what the lemma of two crossing agents says
abbrev pub crossing_statement : Statement
crossing_statement = record { agents = 0 ∷ 1 ∷ []; constraints = []; list_number = None; bound = Ticks 5 }

-- where that lemma may be named
abbrev pub crossing_scope : Scope
crossing_scope = scope_of crossing [] (crossing_statement ∷ []) (0 ∷ 1 ∷ [])

-- the split of the first agent's cost at 2 may ask 3 of the second agent, and no more, since together they cost 5
abbrev pub CostsNeedsItsLemma : Type 0
CostsNeedsItsLemma =
    IsProperSplit crossing_scope unconstrained (Costs 0 2 1 3 0)
    × (IsProperSplit crossing_scope unconstrained (Costs 0 2 1 4 0) → ⊥)

-- in the child in which the first agent costs at most 2 the second costs at least 3
abbrev pub CostsRaisesTheOther : Type 0
CostsRaisesTheOther =
    (left_constraints crossing unconstrained (Costs 0 2 1 3 0) 0 ≡ Most 2 ∷ [])
    × (left_constraints crossing unconstrained (Costs 0 2 1 3 0) 1 ≡ Least 3 ∷ Clear 5 2 ∷ [])
    × (right_constraints unconstrained (Costs 0 2 1 3 0) 1 ≡ [])

-- an agent that is at its goal for good from tick 3 on pays the price of the goal at tick 3 when it comes, and not once
-- more for its rest; one that is there from tick 2 on pays it for its rest
abbrev pub RestPaysLaterPrices : Type 0
RestPaysLaterPrices =
    (cell_price (Cell 5 3 1 ∷ []) 5 3 ≡ 1) × (rest_price (Cell 5 3 1 ∷ []) 5 3 ≡ 0)
    × (rest_price (Cell 5 3 1 ∷ []) 5 2 ≡ 1) × (paid (Cell 5 3 1 ∷ []) (3 ∷ 4 ∷ 5 ∷ []) ≡ 1)

-- the price of an edge at tick 0 is the price of a move along it at this tick in each direction, and a path pays it in
-- each; who waits doesn't pay it, and who moves at tick 1 doesn't
abbrev pub EdgesCostInBothDirections : Type 0
EdgesCostInBothDirections =
    (edge_price (Edge 3 4 0 1 ∷ []) 3 4 0 ≡ 1) × (edge_price (Edge 3 4 0 1 ∷ []) 4 3 0 ≡ 1)
    × (paid (Edge 3 4 0 1 ∷ []) (3 ∷ 4 ∷ []) ≡ 1) × (paid (Edge 3 4 0 1 ∷ []) (4 ∷ 3 ∷ []) ≡ 1)
    × (paid (Edge 3 4 0 1 ∷ []) (3 ∷ []) ≡ 0) × (paid (Edge 3 4 0 1 ∷ []) (3 ∷ 3 ∷ 4 ∷ []) ≡ 0)

-- a price of 1 for the middle of the square at tick 1, where a tick is worth 2
abbrev pub halves_list : PriceList
halves_list = record { unit = 2; prices = Cell 4 1 1 ∷ [] }

-- each of two agents costs at least the one number, and a lemma of both counts the other
abbrev pub crossing_labels : ℕ → ℕ → LeafLabels
crossing_labels floor counted =
    record { floor = λ agent. Ticks floor; agents = λ lemma. 0 ∷ 1 ∷ []; counted = λ lemma. Ticks counted }

-- a group that counts half of what its lemma adds
abbrev pub half_group : Group
half_group = record { divisor = 2; uses = record { lemma = 0; weight = 1 } ∷ [] }

-- quotients are rounded up: where a tick is worth 2, two agents that cost at least 5 each, less a price of 1, cost at
-- least 5 ticks together; and half of the 1 that a lemma of 5 adds to 2 + 2 is 1
abbrev pub BoundsRoundUp : Type 0
BoundsRoundUp =
    (leaf_bound crossing_scope two_singles halves_list (crossing_labels 5 10) ≡ 5)
    × (added (crossing_labels 2 5) half_group ≡ 1)

-- at a leaf with a list of prices, by which a tick is worth 2, a lemma without a list counts twice its bound
abbrev pub UnpricedCountsInUnits : Type 0
UnpricedCountsInUnits = Counts (Some 0) 2 crossing_statement (Ticks 10)

-- in a row of three cells the first agent's goal is the middle, and the second agent goes from the left to the right
abbrev pub row_pair : PairTask
row_pair = record {
  grid = three_cells;
  list = no_list;
  first = agent 1 1;
  second = agent 0 2;
  first_constraints = [];
  second_constraints = [];
}

-- an entry of the second agent at its start, when the first has arrived
abbrev pub alone_at_start : JointEntry
alone_at_start = record { state = SecondAlone 0; tick = 0; label = Ticks 3 }

-- labels of both agents: that entry, and no other
abbrev pub alone_entries : PairEntries
alone_entries =
    record { first = entries_of []; second = entries_of []; joint = joint_entries_of (alone_at_start ∷ []) }

-- when the first agent has arrived, the second may not go into its goal and has to wait, so 3 is a sound label of its
-- start, though the distance is 2
abbrev pub AloneAvoidsTheOthersGoal : Type 0
AloneAvoidsTheOthersGoal = AreSoundTogether row_pair alone_entries

-- when the first agent has arrived, the second is never in its goal, so even an infinite label is sound there
abbrev pub AloneIsNeverInTheOthersGoal : Type 0
AloneIsNeverInTheOthersGoal = IsSoundJointEntry row_pair alone_entries (SecondAlone 1) 0 Never
