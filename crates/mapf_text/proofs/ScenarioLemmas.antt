-- Scenarios: the lines that aren't blank, and one row more.
use Rattle.std.proofs.Common.{◌≡◌, ℕ, ◌<◌, ◌+◌, true, false, not, List, [], ◌∷◌, ◌++◌, get_or, take, drop, sym, ap, subst, arith}
use Rattle.std.specs.List.{filter}
use Rattle.mapf_model.specs.Grid.{GridMap}
use Rattle.mapf_model.specs.declared.problem.Agent.{Agent}
use Rattle.mapf_text.specs.Lines.{lines_of}
use Rattle.mapf_text.specs.Words.{is_blank_line, words_of}
use Rattle.mapf_text.specs.AgentRows.{SpellsAgent, HasRowFault}
use Rattle.mapf_text.specs.Scenarios.{filled_lines, SpellAgents, HasAgents, HasRowsFault}
use Rattle.mapf_text.specs.declared.scenario_fault.ScenFault.{ScenFault}
use Rattle.mapf_text.specs.declared.scenario_fault.ScenFault.TheVariants.{S1, S2, S3, S4, S5, S6, S7, Memory}
use Rattle.mapf_text.proofs.RowLemmas.{IsLineAt, no_line_at}

filled : List (List ℕ) → List (List ℕ)
filled lines = filter (λ line. not (is_blank_line line)) lines

pub filled-none : (text : List ℕ) → lines_of text ≡ [] → filled_lines text ≡ []
unfolding filled_lines filled
filled-none text none = ap filled none

pub filled-line : (text more line : List ℕ) → lines_of text ≡ line ∷ lines_of more → is_blank_line line ≡ false → filled_lines text ≡ line ∷ filled_lines more
unfolding filled_lines filled
filled-line text more line e is = let all = ap filled e in rw is at all

pub filled-blank : (text more line : List ℕ) → lines_of text ≡ line ∷ lines_of more → is_blank_line line ≡ true → filled_lines text ≡ filled_lines more
unfolding filled_lines filled
filled-blank text more line e is = let all = ap filled e in rw is at all

SpellAgents-push : (grid : GridMap) (rows : List (List ℕ)) (agents : List Agent) (row : List ℕ) (agent : Agent) → SpellAgents grid rows agents → SpellsAgent grid (words_of row) agent → SpellAgents grid (rows ++ (row ∷ [])) (agents ++ (agent ∷ []))
SpellAgents-push grid [] [] row agent spelled last = (last, tt)
SpellAgents-push grid [] (a ∷ agents) row agent spelled last = absurd spelled
SpellAgents-push grid (r ∷ rows) [] row agent spelled last = absurd spelled
SpellAgents-push grid (r ∷ rows) (a ∷ agents) row agent (first, spelled) last = (first, SpellAgents-push grid rows agents row agent spelled last)

-- one agent more
pub agents-push : (grid : GridMap) (rows : List (List ℕ)) (k : ℕ) (agents : List Agent) (row : List ℕ) (rest : List (List ℕ)) (agent : Agent) → HasAgents grid rows k agents → IsLineAt rows k row rest
    → SpellsAgent grid (words_of row) agent → HasAgents grid rows (k + 1) (agents ++ (agent ∷ []))
agents-push grid rows k agents row rest agent has line spelled = record {
  enough = omega (arith, line.within);
  spelled = subst (λ (l : List (List ℕ)). SpellAgents grid l (agents ++ (agent ∷ []))) (sym line.front) (SpellAgents-push grid (take k rows) agents row agent has.spelled spelled);
}

-- the text ends after so many rows
pub few_rows : (grid : GridMap) (rows : List (List ℕ)) (count k : ℕ) (agents : List Agent) → count < k → HasAgents grid rows count agents → drop count rows ≡ [] → HasRowsFault grid rows k (S7 count)
few_rows grid rows count k agents below has none =
    let at_most = no_line_at rows count none in
    let enough = has.enough in
    (below, omega arith, (agents, has))

-- an error of a row is one of the rows
pub fault_at : (grid : GridMap) (rows : List (List ℕ)) (at k : ℕ) (agents : List Agent) (row : List ℕ) (rest : List (List ℕ)) (fault : ScenFault) → at < k → HasAgents grid rows at agents → IsLineAt rows at row rest
    → HasRowFault grid (words_of row) at fault → HasRowsFault grid rows k fault
fault_at grid rows at k agents row rest fault below has line is = by fault (subst (λ (r : List ℕ). HasRowFault grid (words_of r) at fault) (sym line.at) is)
  where
    by : (fault : ScenFault) → HasRowFault grid (words_of (get_or rows at [])) at fault → HasRowsFault grid rows k fault
    by S1 is = is
    by (S2 n) is = (at, below, line.within, (agents, has), is)
    by (S3 n field) is = (at, below, line.within, (agents, has), is)
    by (S4 n) is = (at, below, line.within, (agents, has), is)
    by (S5 n) is = (at, below, line.within, (agents, has), is)
    by (S6 n) is = (at, below, line.within, (agents, has), is)
    by (S7 n) is = absurd is
    by Memory is = absurd is
