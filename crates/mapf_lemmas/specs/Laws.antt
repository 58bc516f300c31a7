-- The laws of lemmas.
use Rattle.std.specs.Prelude.{◌≡◌, ◌↔◌, ◌⊎◌, ℕ, ◌+◌, ◌*◌, ◌≤◌, List, All, sum_by, slice_index}
use Rattle.mapf_lemmas.specs.Constraints.{SatisfiesAll}
use Rattle.mapf_lemmas.specs.Statements.{Statement, IsCosted, AllSatisfy, StatementHolds, priced_cost_of}
use Rattle.mapf_lemmas.specs.Lemmas.{Lemma, LemmaShows, LemmasShow, CertificateShows, AreDifferentAgents}
use Rattle.mapf_lemmas.specs.Groups.{Scope, LeafUses, LeafLabels, IsProperLeaf, IsInfinite, leaf_bound, LeafShows}
use Rattle.mapf_lemmas.specs.Cases.{CaseTree, left_constraints, right_constraints, IsProperSplit, TreeShows}
use Rattle.mapf_lemmas.specs.Prices.{PriceList, total_price, cell_price, priced_cost}
use Rattle.mapf_lemmas.specs.declared.constraint.PathConstraint.{PathConstraint}
use Rattle.mapf_lemmas.specs.declared.split.Split.{Split}
use Rattle.mapf_lemmas.specs.declared.joint.JointState.TheVariants.{Both}
use Rattle.mapf_lemmas.specs.declared.joint.JointState.{JointState}
use Rattle.mapf_lemmas.specs.JointLabels.{PairTask, PairEntries, IsJointLabel, AreSoundTogether}
use Rattle.mapf_lemmas.specs.declared.joint.JointCell.{JointCell}
use Rattle.mapf_lemmas.specs.JointCells.{IsClosed}
use Rattle.mapf_lemmas.specs.SingleLabels.{Task, IsSingleLabel, AreSound}
use Rattle.mapf_model.specs.declared.item.Claim.{Claim}
use Rattle.mapf_model.specs.declared.label.Label.{Label}
use Rattle.mapf_model.specs.declared.label.Label.TheVariants.{Ticks}
use Rattle.mapf_model.specs.declared.problem.Agent.{Agent}
use Rattle.mapf_model.specs.Grid.{GridMap}
use Rattle.mapf_model.specs.Plan.{Instance, ConflictAt}
use Rattle.mapf_model.specs.Tree.{Holds}
use Rattle.mapf_model.specs.Labels.{Entries, IsAtMost, label_plus}
use Rattle.mapf_model.specs.Path.{IsLawful, IsCost}

-- under sound labels each path that satisfies the constraints has at least the priced cost that the label of its start
-- and the price of its start give
abbrev pub SingleLabelBound : Type 0
SingleLabelBound =
    (task : Task) (entries : Entries) (path : List ℕ) (cost : ℕ) (label : Label) → AreSound task entries →
    IsSingleLabel task entries task.agent.start 0 label → IsLawful task.grid task.agent path →
    IsCost task.agent.goal path cost → SatisfiesAll path cost task.constraints →
    IsAtMost (label_plus (Ticks (cell_price task.list.prices task.agent.start 0)) label)
    (Ticks (priced_cost task.list path cost))

-- no conflict of the two paths at any tick
abbrev pub DoNotConflict : List ℕ → List ℕ → Type 0
DoNotConflict p q = (tick : ℕ) → ConflictAt p q tick → ⊥

-- under sound labels of two agents every two paths without a conflict that satisfy the constraints have together at
-- least the priced costs that the label of their starts and the prices of their starts give
abbrev pub JointLabelBound : Type 0
JointLabelBound =
    (pair : PairTask) (entries : PairEntries) (p q : List ℕ) (c d : ℕ) (label : Label) →
    AreSoundTogether pair entries → IsJointLabel pair entries (Both pair.first.start pair.second.start) 0 label →
    IsLawful pair.grid pair.first p → IsCost pair.first.goal p c → SatisfiesAll p c pair.first_constraints →
    IsLawful pair.grid pair.second q → IsCost pair.second.goal q d → SatisfiesAll q d pair.second_constraints →
    DoNotConflict p q →
    IsAtMost (label_plus
    (Ticks (cell_price pair.list.prices pair.first.start 0 + cell_price pair.list.prices pair.second.start 0)) label)
    (Ticks (priced_cost pair.list p c + priced_cost pair.list q d))

-- if two agents never leave a set of joint cells without a conflict, and the pair of their goals isn't in it, every two
-- paths conflict
abbrev pub ClosedMeansNone : Type 0
ClosedMeansNone =
    (grid : GridMap) (first second : Agent) (cells : List JointCell) (p q : List ℕ) →
    IsClosed grid first second cells → IsLawful grid first p → IsLawful grid second q → DoNotConflict p q → ⊥

-- different agents of a valid plan pay together at most the sum of all prices
abbrev pub PricesBound : Type 0
PricesBound =
    (problem : Instance) (list : PriceList) (plan : List (List ℕ)) (costs agents : List ℕ) →
    IsCosted problem plan costs → AreDifferentAgents problem agents →
    sum_by (priced_cost_of list plan costs) agents
    ≤ list.unit * sum_by (slice_index costs) agents + total_price list.prices

-- if the lemmas that may be named are true, a valid plan that satisfies the constraints of a proper split's node
-- satisfies those of one of its children
abbrev pub SplitsLoseNoPlan : Type 0
SplitsLoseNoPlan =
    (scope : Scope) (constraints : ℕ → List PathConstraint) (split : Split) (plan : List (List ℕ)) (costs : List ℕ) →
    All (StatementHolds scope.problem scope.lists) scope.known → IsProperSplit scope constraints split →
    IsCosted scope.problem plan costs → AllSatisfy plan costs constraints →
    AllSatisfy plan costs (left_constraints scope.problem constraints split)
    ⊎ AllSatisfy plan costs (right_constraints constraints split)

-- what a tree shows is true, if the lemmas that it may name are
abbrev pub TreesShowTruth : Type 0
TreesShowTruth =
    (scope : Scope) (target : Label) (constraints : ℕ → List PathConstraint) (tree : CaseTree) (plan : List (List ℕ))
    (costs : List ℕ) → AreDifferentAgents scope.problem scope.agents →
    All (StatementHolds scope.problem scope.lists) scope.known → TreeShows scope target constraints tree →
    IsCosted scope.problem plan costs → AllSatisfy plan costs constraints →
    IsAtMost target (Ticks (sum_by (slice_index costs) scope.agents))

-- if every lemma of a list shows its statement, all statements are true
abbrev pub LemmasAreTrue : Type 0
LemmasAreTrue =
    (problem : Instance) (lists : List PriceList) (lemmas : List Lemma) (statements : List Statement) →
    LemmasShow problem lists lemmas statements → All (StatementHolds problem lists) statements

-- what a certificate shows is true: no valid plan costs less than its claim, or none is valid
abbrev pub CertificatesShowTruth : Type 0
CertificatesShowTruth =
    (problem : Instance) (lists : List PriceList) (lemmas : List Lemma) (tree : CaseTree) (claim : Claim) →
    CertificateShows problem lists lemmas tree claim → Holds problem claim

-- a state has one label
abbrev pub SingleLabelIsUnique : Type 0
SingleLabelIsUnique =
    (task : Task) (entries : Entries) (cell tick : ℕ) (a b : Label) → IsSingleLabel task entries cell tick a →
    IsSingleLabel task entries cell tick b → a ≡ b

-- a joint state has one label
abbrev pub JointLabelIsUnique : Type 0
JointLabelIsUnique =
    (pair : PairTask) (entries : PairEntries) (state : JointState) (tick : ℕ) (a b : Label) →
    IsJointLabel pair entries state tick a → IsJointLabel pair entries state tick b → a ≡ b

-- a lemma has one statement
abbrev pub StatementIsUnique : Type 0
StatementIsUnique =
    (problem : Instance) (lists : List PriceList) (known : List Statement) (lemma : Lemma) (one other : Statement) →
    LemmaShows problem lists known lemma one → LemmaShows problem lists known lemma other → one ≡ other

-- what a proper leaf counts decides what it shows
abbrev pub LeafLabelsDecide : Type 0
LeafLabelsDecide =
    (scope : Scope) (constraints : ℕ → List PathConstraint) (leaf : LeafUses) (list : PriceList) (labels : LeafLabels)
    (target : Label) → IsProperLeaf scope constraints leaf list labels →
    LeafShows scope constraints leaf target
    ↔ (IsInfinite scope leaf labels ⊎ IsAtMost target (Ticks (leaf_bound scope leaf list labels)))
