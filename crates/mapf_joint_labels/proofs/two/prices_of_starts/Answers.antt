use Rattle.std.proofs.Common.{◌≡◌, ◌∙◌, ◌+◌, ap}
use Rattle.mapf_lemmas.specs.Prices.{PriceList, cell_price}
use Rattle.mapf_model.specs.declared.problem.Agent.{Agent}
use Rattle.mapf_joint_labels.proofs.two.prices_of_starts.Goals as goal

pub returns-clause-value : goal.returns-clause-value
returns-clause-value c =
    let one = c.args.pair.now.first_task.now in
    let other = c.args.pair.now.second_task.now in
    let first : c.cell-first.result ≡ cell_price one.list.prices one.agent.start 0 =
    c.cell-first.ensures.value ∙ ap (λ (l : PriceList). cell_price l.prices c.agent.result.start 0) c.prices.ensures ∙ ap (λ (a : Agent). cell_price one.list.prices a.start 0) c.agent.ensures in
    let second : c.cell.result ≡ cell_price one.list.prices other.agent.start 0 =
    c.cell.ensures.value ∙ ap (λ (l : PriceList). cell_price l.prices c.agent-2.result.start 0) (c.prices-2.ensures ∙ c.requires.list) ∙ ap (λ (a : Agent). cell_price one.list.prices a.start 0) c.agent-2.ensures in
    ap (λ n. n + c.cell.result) first ∙ ap (λ n. cell_price one.list.prices one.agent.start 0 + n) second
