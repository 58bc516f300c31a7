-- Scenario texts: bytes spell one problem at most, and bytes that spell one have no error.
use Rattle.std.proofs.Common.{◌≡◌, ℕ, ◌<◌, All, List, [], ◌∷◌, length, get_or, take, refl, sym, ap, subst, ◌∙◌, zero, suc, arith, inl, inr}
use Rattle.std.proofs.lemmas.List.{get_or-take, length-take-le}
use Rattle.mapf_model.specs.Grid.{GridMap, IsFree}
use Rattle.mapf_model.specs.Plan.{Instance}
use Rattle.mapf_model.specs.declared.problem.Agent.{Agent}
use Rattle.mapf_text.specs.Words.{words_of}
use Rattle.mapf_text.specs.AgentRows.{IsNumber, HasNumbers, IsCellAt, HasFreeCells, SpellsAgent, IsFirstNoNumber, HasRowFault, numbered}
use Rattle.mapf_text.specs.Scenarios.{filled_lines, AfterVersion, SpellAgents, HasAgents, SpellsScenario, HasRowsFault, HasScenarioFault}
use Rattle.mapf_text.specs.declared.agent_row.Numbers.{Numbers}
use Rattle.mapf_text.specs.declared.scenario_fault.ScenFault.{ScenFault}
use Rattle.mapf_text.specs.declared.scenario_fault.ScenFault.TheVariants.{S1, S2, S3, S4, S5, S6, S7, Memory}
use Rattle.mapf_text.proofs.NumberLemmas.{number-unique}

version-unique : (lines a b : List (List ℕ)) → AfterVersion lines a → AfterVersion lines b → a ≡ b
version-unique lines a b p q = let e = p.first in let f = q.first in cc

unique : (word : List ℕ) (m n : ℕ) → IsNumber word m → IsNumber word n → m ≡ n
unique word m n p q = number-unique word m n p.0 q.0

numbers-unique : (words : List (List ℕ)) (a b : Numbers) → HasNumbers words a → HasNumbers words b → a ≡ b
numbers-unique words a b p q = λ i. record {
  width = unique _ a.width b.width p.width q.width i;
  height = unique _ a.height b.height p.height q.height i;
  start_x = unique _ a.start_x b.start_x p.start_x q.start_x i;
  start_y = unique _ a.start_y b.start_y p.start_y q.start_y i;
  goal_x = unique _ a.goal_x b.goal_x p.goal_x q.goal_x i;
  goal_y = unique _ a.goal_y b.goal_y p.goal_y q.goal_y i;
}

cell-unique : (grid : GridMap) (x y m n : ℕ) → IsCellAt grid x y m → IsCellAt grid x y n → m ≡ n
cell-unique grid x y m n p q = p.number ∙ sym q.number

cells-unique : (grid : GridMap) (words : List (List ℕ)) (a b : Agent) → HasFreeCells grid words a → HasFreeCells grid words b → a ≡ b
cells-unique grid words a b p q =
    let same = numbers-unique words p.numbers q.numbers p.size.has_numbers q.size.has_numbers in
    let start = cell-unique grid _ _ a.start b.start (subst (λ (n : Numbers). IsCellAt grid n.start_x n.start_y a.start) same p.start) q.start in
    let goal = cell-unique grid _ _ a.goal b.goal (subst (λ (n : Numbers). IsCellAt grid n.goal_x n.goal_y a.goal) same p.goal) q.goal in
    λ i. record { start = start i; goal = goal i }

SpellAgents-unique : (grid : GridMap) (rows : List (List ℕ)) (a b : List Agent) → SpellAgents grid rows a → SpellAgents grid rows b → a ≡ b
SpellAgents-unique grid [] [] [] p q = refl
SpellAgents-unique grid [] [] (y ∷ b) p q = absurd q
SpellAgents-unique grid [] (x ∷ a) b p q = absurd p
SpellAgents-unique grid (row ∷ rows) [] b p q = absurd p
SpellAgents-unique grid (row ∷ rows) (x ∷ a) [] p q = absurd q
SpellAgents-unique grid (row ∷ rows) (x ∷ a) (y ∷ b) (first, p) (other, q) =
    let head = cells-unique grid (words_of row) x y first.cells other.cells in
    let tail = SpellAgents-unique grid rows a b p q in
    cc

-- as many agents as rows
pub SpellAgents-length : (grid : GridMap) (rows : List (List ℕ)) (agents : List Agent) → SpellAgents grid rows agents → length agents ≡ length rows
SpellAgents-length grid [] [] p = refl
SpellAgents-length grid [] (x ∷ agents) p = absurd p
SpellAgents-length grid (row ∷ rows) [] p = absurd p
SpellAgents-length grid (row ∷ rows) (x ∷ agents) (first, p) = ap (λ n. suc n) (SpellAgents-length grid rows agents p)

-- their starts and goals are free
pub SpellAgents-free : (grid : GridMap) (rows : List (List ℕ)) (agents : List Agent) → SpellAgents grid rows agents → All (λ agent. IsFree grid agent.start × IsFree grid agent.goal) agents
SpellAgents-free grid [] [] p k d below = absurd (omega arith)
SpellAgents-free grid [] (x ∷ agents) p k d below = absurd p
SpellAgents-free grid (row ∷ rows) [] p k d below = absurd p
SpellAgents-free grid (row ∷ rows) (x ∷ agents) (first, p) zero d below = (first.cells.start.free, first.cells.goal.free)
SpellAgents-free grid (row ∷ rows) (x ∷ agents) (first, p) (suc k) d below = SpellAgents-free grid rows agents p k d (omega arith)

agent_at : (grid : GridMap) (rows : List (List ℕ)) (agents : List Agent) (y : ℕ) → SpellAgents grid rows agents → y < length rows → (agent : Agent) × SpellsAgent grid (words_of (get_or rows y [])) agent
agent_at grid [] agents y p below = absurd (omega arith)
agent_at grid (row ∷ rows) [] y p below = absurd p
agent_at grid (row ∷ rows) (x ∷ agents) zero (first, p) below = (x, first)
agent_at grid (row ∷ rows) (x ∷ agents) (suc y) (first, p) below = agent_at grid rows agents y p (omega arith)

-- all the words are numbers
abbrev AreNumbers : List (ℕ × List ℕ) → Type 0
AreNumbers [] = Unit {0}
AreNumbers (p ∷ more) = ((n : ℕ) × IsNumber p.1 n) × AreNumbers more

no_first : (words : List (ℕ × List ℕ)) (place : ℕ) → AreNumbers words → IsFirstNoNumber words place → ⊥
no_first [] place are h = h
no_first (p ∷ more) place (is, are) (inl (at, none)) = none is.0 is.1
no_first (p ∷ more) place (is, are) (inr (other, h)) = no_first more place are h

are_numbers : (words : List (List ℕ)) (numbers : Numbers) → HasNumbers words numbers → AreNumbers (numbered words)
are_numbers words n has = (has.bucket, ((n.width, has.width), ((n.height, has.height), ((n.start_x, has.start_x), ((n.start_y, has.start_y), ((n.goal_x, has.goal_x), ((n.goal_y, has.goal_y), tt)))))))

no_row_fault : (grid : GridMap) (words : List (List ℕ)) (agent : Agent) (row : ℕ) → SpellsAgent grid words agent → (fault : ScenFault) → HasRowFault grid words row fault → ⊥
no_row_fault grid words agent row spells S1 h = h
no_row_fault grid words agent row spells (S2 at) (same, wrong) = wrong spells.cells.size.has_numbers.nine
no_row_fault grid words agent row spells (S3 at place) (same, nine, first) = no_first (numbered words) place (are_numbers words _ spells.cells.size.has_numbers) first
no_row_fault grid words agent row spells (S4 at) (same, (numbers, has, inl wrong)) =
    let size = spells.cells.size in
    let one = numbers-unique words numbers _ has size.has_numbers in
    wrong (ap (λ (n : Numbers). n.width) one ∙ size.width)
no_row_fault grid words agent row spells (S4 at) (same, (numbers, has, inr wrong)) =
    let size = spells.cells.size in
    let one = numbers-unique words numbers _ has size.has_numbers in
    wrong (ap (λ (n : Numbers). n.height) one ∙ size.height)
no_row_fault grid words agent row spells (S5 at) (same, (numbers, size, inl none)) =
    let one = numbers-unique words spells.cells.numbers numbers spells.cells.size.has_numbers size.has_numbers in
    none agent.start (subst (λ (n : Numbers). IsCellAt grid n.start_x n.start_y agent.start) one spells.cells.start)
no_row_fault grid words agent row spells (S5 at) (same, (numbers, size, inr none)) =
    let one = numbers-unique words spells.cells.numbers numbers spells.cells.size.has_numbers size.has_numbers in
    none agent.goal (subst (λ (n : Numbers). IsCellAt grid n.goal_x n.goal_y agent.goal) one spells.cells.goal)
no_row_fault grid words agent row spells (S6 at) (same, (other, cells, wrong)) = wrong spells.length_text
no_row_fault grid words agent row spells (S7 rows) h = h
no_row_fault grid words agent row spells Memory h = h

row_at : (grid : GridMap) (rows : List (List ℕ)) (k : ℕ) (agents : List Agent) (y : ℕ) → HasAgents grid rows k agents → y < k → (agent : Agent) × SpellsAgent grid (words_of (get_or rows y [])) agent
row_at grid rows k agents y has below =
    let same : get_or (take k rows) y [] ≡ get_or rows y [] = get_or-take k rows y [] below in
    let many : length (take k rows) ≡ k = length-take-le k rows has.enough in
    subst (λ (row : List ℕ). (agent : Agent) × SpellsAgent grid (words_of row) agent) same (agent_at grid (take k rows) agents y has.spelled (omega arith))

in_row : (grid : GridMap) (rows : List (List ℕ)) (k : ℕ) (agents : List Agent) → HasAgents grid rows k agents → (fault : ScenFault)
    → (row : ℕ) × (row < k) × (row < length rows) × ((before : List Agent) × HasAgents grid rows row before) × HasRowFault grid (words_of (get_or rows row [])) row fault → fault ≡ Memory
in_row grid rows k agents has fault (row, below, within, before, h) =
    let (agent, spells) = row_at grid rows k agents row has below in
    absurd (no_row_fault grid _ agent row spells fault h)

no_rows_fault : (grid : GridMap) (rows : List (List ℕ)) (k : ℕ) (agents : List Agent) → HasAgents grid rows k agents → (fault : ScenFault) → HasRowsFault grid rows k fault → fault ≡ Memory
no_rows_fault grid rows k agents has S1 h = absurd h
no_rows_fault grid rows k agents has (S2 row) h = in_row grid rows k agents has (S2 row) h
no_rows_fault grid rows k agents has (S3 row place) h = in_row grid rows k agents has (S3 row place) h
no_rows_fault grid rows k agents has (S4 row) h = in_row grid rows k agents has (S4 row) h
no_rows_fault grid rows k agents has (S5 row) h = in_row grid rows k agents has (S5 row) h
no_rows_fault grid rows k agents has (S6 row) h = in_row grid rows k agents has (S6 row) h
no_rows_fault grid rows k agents has (S7 count) (below, few, before) = let enough = has.enough in absurd (omega arith)
no_rows_fault grid rows k agents has Memory h = refl

-- bytes that spell a problem have no error
pub scenario_faultless : (bytes : List ℕ) (grid : GridMap) (k : ℕ) (problem : Instance) → SpellsScenario bytes grid k problem → (fault : ScenFault) → HasScenarioFault grid (filled_lines bytes) k fault → fault ≡ Memory
scenario_faultless bytes grid k problem spells fault h = by fault h
  where
    in_rows : (fault : ScenFault) → (rows : List (List ℕ)) × AfterVersion (filled_lines bytes) rows × HasRowsFault grid rows k fault → fault ≡ Memory
    in_rows fault (rows, version, h) =
        let same = version-unique _ rows spells.rows version spells.version in
        no_rows_fault grid spells.rows k problem.agents spells.agents fault (subst (λ (l : List (List ℕ)). HasRowsFault grid l k fault) same h)

    by : (fault : ScenFault) → HasScenarioFault grid (filled_lines bytes) k fault → fault ≡ Memory
    by S1 none = absurd (none spells.rows spells.version)
    by (S2 row) h = in_rows (S2 row) h
    by (S3 row place) h = in_rows (S3 row place) h
    by (S4 row) h = in_rows (S4 row) h
    by (S5 row) h = in_rows (S5 row) h
    by (S6 row) h = in_rows (S6 row) h
    by (S7 rows) h = in_rows (S7 rows) h
    by Memory h = refl

-- bytes spell one problem at most
pub scenario_unique : (bytes : List ℕ) (grid : GridMap) (k : ℕ) (p q : Instance) → SpellsScenario bytes grid k p → SpellsScenario bytes grid k q → p ≡ q
scenario_unique bytes grid k p q a b =
    let rows = version-unique _ a.rows b.rows a.version b.version in
    let there : SpellAgents grid (take k b.rows) p.agents = subst (λ (l : List (List ℕ)). SpellAgents grid (take k l) p.agents) rows a.agents.spelled in
    let agents = SpellAgents-unique grid _ p.agents q.agents there b.agents.spelled in
    let grids : p.grid ≡ q.grid = a.on_grid ∙ sym b.on_grid in
    λ i. record { grid = grids i; agents = agents i }
