-- The four kinds of lemmas, what shows each, and what a certificate of version 3 shows. (Own)
use Rattle.std.specs.Prelude.{◌≡◌, ◌≢◌, ℕ, ◌+◌, ◌<◌, List, [], ◌∷◌, Option, Some, None, All, AllPairs, length, map}
use Rattle.std.specs.Prelude.{take, slice_get}
use Rattle.std.specs.List.{range_with_len}
use Rattle.mapf_lemmas.specs.declared.constraint.PathConstraint.{PathConstraint}
use Rattle.mapf_lemmas.specs.declared.constraint.AgentConstraint.{AgentConstraint}
use Rattle.mapf_lemmas.specs.Constraints.{IsConstraintOn}
use Rattle.mapf_lemmas.specs.Cases.{CaseTree, TreeShows}
use Rattle.mapf_lemmas.specs.Groups.{Scope}
use Rattle.mapf_lemmas.specs.declared.joint.JointCell.{JointCell}
use Rattle.mapf_lemmas.specs.JointCells.{IsClosed}
use Rattle.mapf_lemmas.specs.declared.joint.JointEntry.{JointEntry}
use Rattle.mapf_lemmas.specs.declared.joint.JointState.TheVariants.{Both}
use Rattle.mapf_lemmas.specs.JointLabels.{PairTask, PairEntries, joint_entries_of, AreFreeCells}
use Rattle.mapf_lemmas.specs.JointLabels.{IsJointLabel, AreSoundTogether}
use Rattle.mapf_lemmas.specs.Prices.{PriceList, IsPriceOn, cell_price}
use Rattle.mapf_lemmas.specs.SingleLabels.{IsSingleLabel, AreSound}
use Rattle.mapf_lemmas.specs.Statements.{Statement, IsListOf, constraints_of}
use Rattle.mapf_model.specs.declared.item.Claim.{Claim}
use Rattle.mapf_model.specs.declared.item.Claim.TheVariants.{Cost, Bound, Impossible}
use Rattle.mapf_model.specs.declared.label.Entry.{Entry}
use Rattle.mapf_model.specs.declared.label.Label.{Label}
use Rattle.mapf_model.specs.declared.label.Label.TheVariants.{Ticks, Never}
use Rattle.mapf_model.specs.declared.problem.Agent.{Agent}
use Rattle.mapf_model.specs.Grid.{GridMap}
use Rattle.mapf_model.specs.Labels.{entries_of, label_plus}
use Rattle.mapf_model.specs.Plan.{Instance}

-- a lemma: of one agent or of two by labels, of two that can't both arrive without a conflict by joint cells, or by
-- cases
pub data Lemma : Type 0 where
  One : (agent : ℕ) → (constraints : List PathConstraint) → (list_number : Option ℕ) → (entries : List Entry) → Lemma
  Two : (i j : ℕ) → (constraints : List AgentConstraint) → (list_number : Option ℕ) → (first second : List Entry) →
      (joint : List JointEntry) → Lemma
  NeverArrive : (i j : ℕ) → (cells : List JointCell) → Lemma
  ByCases : (agents : List ℕ) → (constraints : List AgentConstraint) → (bound : Label) → (tree : CaseTree) → Lemma

-- the constraints are on the grid
abbrev pub AreConstraintsOn : GridMap → List AgentConstraint → Type 0
AreConstraintsOn grid constraints = All (λ listed. IsConstraintOn grid listed.constraint) constraints

-- the lemma of one agent shows this statement by sound labels: its bound is the sum of the label and the price of the
-- start
pub record OneShows (problem : Instance) (lists : List PriceList) (agent : ℕ) (constraints : List PathConstraint)
    (list_number : Option ℕ) (entries : List Entry) (statement : Statement) : Type 0 where
  pub list : PriceList
  pub a : Agent
  pub label : Label
  pub is_list : IsListOf lists list_number list
  pub is_agent : slice_get problem.agents agent ≡ Some a
  pub on_grid : All (IsConstraintOn problem.grid) constraints
  pub sound : AreSound (record { grid = problem.grid; list = list; agent = a; constraints = constraints })
      (entries_of entries)
  pub is_label : IsSingleLabel (record { grid = problem.grid; list = list; agent = a; constraints = constraints })
      (entries_of entries) a.start 0 label
  pub is_statement : statement ≡ record {
    agents = agent ∷ [];
    constraints = map (λ one. record { agent = agent; constraint = one }) constraints;
    list_number = list_number;
    bound = label_plus (Ticks (cell_price list.prices a.start 0)) label;
  }

-- the task of two agents of the problem under the listed constraints
abbrev pub pair_of : Instance → PriceList → (i j : ℕ) → (a b : Agent) → List AgentConstraint → PairTask
pair_of problem list i j a b constraints = record {
  grid = problem.grid;
  list = list;
  first = a;
  second = b;
  first_constraints = constraints_of constraints i;
  second_constraints = constraints_of constraints j;
}

-- the lemma of two agents shows this statement by sound labels: its bound is the sum of the label and the prices of the
-- starts
pub record TwoShow (problem : Instance) (lists : List PriceList) (i j : ℕ) (constraints : List AgentConstraint)
    (list_number : Option ℕ) (entries : PairEntries) (statement : Statement) : Type 0 where
  pub list : PriceList
  pub a : Agent
  pub b : Agent
  pub label : Label
  pub differ : i ≢ j
  pub is_list : IsListOf lists list_number list
  pub is_first : slice_get problem.agents i ≡ Some a
  pub is_second : slice_get problem.agents j ≡ Some b
  pub on_grid : AreConstraintsOn problem.grid constraints
  pub sound : AreSoundTogether (pair_of problem list i j a b constraints) entries
  pub is_label : IsJointLabel (pair_of problem list i j a b constraints) entries (Both a.start b.start) 0 label
  pub is_statement : statement ≡ record {
    agents = i ∷ j ∷ [];
    constraints = constraints;
    list_number = list_number;
    bound = label_plus (Ticks (cell_price list.prices a.start 0 + cell_price list.prices b.start 0)) label;
  }

-- the lemma of two agents that can't both arrive without a conflict shows this statement: no plan is valid
pub record NeverShows (problem : Instance) (i j : ℕ) (cells : List JointCell) (statement : Statement) : Type 0 where
  pub a : Agent
  pub b : Agent
  pub differ : i ≢ j
  pub is_first : slice_get problem.agents i ≡ Some a
  pub is_second : slice_get problem.agents j ≡ Some b
  pub closed : IsClosed problem.grid a b cells
  pub is_statement : statement ≡ record { agents = i ∷ j ∷ []; constraints = []; list_number = None; bound = Never }

-- the scope of a tree: what may be named in it, and of which agents it speaks
abbrev pub scope_of : Instance → List PriceList → List Statement → List ℕ → Scope
scope_of problem lists known agents =
    record { problem = problem; lists = lists; known = known; agents = agents }

-- different agents of the problem
abbrev pub AreDifferentAgents : Instance → List ℕ → Type 0
AreDifferentAgents problem agents = AllPairs (λ i j. i ≢ j) agents × All (λ i. i < length problem.agents) agents

-- the lemma by cases shows this statement: what its tree shows
pub record CasesShow (problem : Instance) (lists : List PriceList) (known : List Statement) (agents : List ℕ)
    (constraints : List AgentConstraint) (target : Label) (tree : CaseTree) (statement : Statement) : Type 0 where
  pub are_agents : AreDifferentAgents problem agents
  pub on_grid : AreConstraintsOn problem.grid constraints
  pub shows : TreeShows (scope_of problem lists known agents) target (constraints_of constraints) tree
  pub is_statement : statement
      ≡ record { agents = agents; constraints = constraints; list_number = None; bound = target }

-- the lemma shows the statement, where these statements may be named
abbrev pub LemmaShows : Instance → List PriceList → List Statement → Lemma → Statement → Type 0
LemmaShows problem lists known (One agent constraints list entries) statement =
    OneShows problem lists agent constraints list entries statement
LemmaShows problem lists known (Two i j constraints list first second joint) statement =
    All (λ entry. AreFreeCells problem.grid entry.state) joint
    × TwoShow problem lists i j constraints list
    (record { first = entries_of first; second = entries_of second; joint = joint_entries_of joint }) statement
LemmaShows problem lists known (NeverArrive i j cells) statement = NeverShows problem i j cells statement
LemmaShows problem lists known (ByCases agents constraints target tree) statement =
    CasesShow problem lists known agents constraints target tree statement

-- each lemma shows its statement, where those before it may be named
pub record LemmasShow (problem : Instance) (lists : List PriceList) (lemmas : List Lemma)
    (statements : List Statement) : Type 0 where
  pub count : length statements ≡ length lemmas
  pub each : (n : ℕ) (lemma : Lemma) (statement : Statement) → slice_get lemmas n ≡ Some lemma →
      slice_get statements n ≡ Some statement → LemmaShows problem lists (take n statements) lemma statement

-- what all agents have to cost at least, for the claim
abbrev pub target_of : Claim → Label
target_of (Cost cost) = Ticks cost
target_of (Bound bound) = Ticks bound
target_of Impossible = Never

-- all agents
abbrev pub all_agents : Instance → List ℕ
all_agents problem = range_with_len 0 (length problem.agents)

-- a certificate of version 3 shows its claim: its prices are on the grid, its lemmas show their statements, and its
-- tree, in which all may be named, shows the claim of all agents without constraints
pub record CertificateShows (problem : Instance) (lists : List PriceList) (lemmas : List Lemma) (tree : CaseTree)
    (claim : Claim) : Type 0 where
  pub proper_lists : All (λ list. All (IsPriceOn problem.grid) list.prices) lists
  pub statements : List Statement
  pub each : LemmasShow problem lists lemmas statements
  pub shows : TreeShows (scope_of problem lists statements (all_agents problem)) (target_of claim) (λ agent. []) tree
