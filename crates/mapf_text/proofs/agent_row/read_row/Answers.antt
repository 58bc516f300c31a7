use Rattle.std.proofs.Common.{◌≡◌, ℕ, true, false, List, IsTrue, refl, sym, subst, rules}
use Rattle.mapf_model.specs.Grid.{GridMap}
use Rattle.mapf_model.specs.declared.problem.Agent.{Agent}
use Rattle.mapf_text.specs.Decimals.{IsDecimal}
use Rattle.mapf_text.specs.AgentRows.{HasNumbers, HasFreeCells, IsCellAt, field}
use Rattle.mapf_text.specs.declared.agent_row.Numbers.{Numbers}
use Rattle.mapf_text.proofs.agent_row.read_row.Goals as goal

cells : (grid : GridMap) (words listed : List (List ℕ)) (numbers : Numbers) (agent : Agent) → words ≡ listed → HasNumbers listed numbers → numbers.width ≡ grid.width → numbers.height ≡ grid.height
    → IsCellAt grid numbers.start_x numbers.start_y agent.start → IsCellAt grid numbers.goal_x numbers.goal_y agent.goal → HasFreeCells grid words agent
cells grid words listed numbers agent same has width height start goal =
    let there : HasNumbers words numbers = subst (λ (l : List (List ℕ)). HasNumbers l numbers) (sym same) has in
    record { numbers = numbers; size = record { has_numbers = there; width = width; height = height }; start = start; goal = goal }

no_decimal : (words listed : List (List ℕ)) → words ≡ listed → (IsDecimal (field listed 9) → IsTrue false) → IsDecimal (field words 9) → ⊥
no_decimal words listed same never is = let yes : false ≡ true = never (subst (λ (l : List (List ℕ)). IsDecimal (field l 9)) same is) in cc

pub returns-then-not-is_decimal : goal.returns-then-not-is_decimal
returns-then-not-is_decimal c =
    let agent : Agent = record { start = c.in-Some-free_cell.start; goal = c.in-Some-free_cell-2.goal } in
    let width : c.in-Ok.numbers.width ≡ c.args.grid.now.width = search rules in
    let height : c.in-Ok.numbers.height ≡ c.args.grid.now.height = search rules in
    let here = cells _ _ _ c.in-Ok.numbers agent c.in-Some.ensures c.in-Ok.ensures width height c.in-Some-free_cell.ensures c.in-Some-free_cell-2.ensures in
    (refl, (agent, here, no_decimal _ _ c.in-Some.ensures c.if-not-is_decimal.ensures.1))
