use Rattle.std.proofs.Common.{◌≡◌, ◌*◌, ◌-◌, sum_by, sym, ap, ◌∙◌}
use Rattle.mapf_cases.specs.Floors.{counted_by, floor_at}
use Rattle.mapf_cases.proofs.WeightLemmas.{units_none, units_some, use_worth_is, use_worth_never}
use Rattle.mapf_lemmas.specs.Groups.{ticks_of}
use Rattle.mapf_model.specs.declared.label.Label.TheVariants.{Ticks, Never}
use Rattle.mapf_cases.proofs.groups.worth_of_use.Goals as goal

pub returns-in-Some-clause-worth : goal.returns-in-Some-clause-worth
returns-in-Some-clause-worth c known used named weight =
    let unit = c.args.counting.now.list.unit in
    let amounts = c.args.counting.now.floors.now.amounts.items in
    let statement = c.args.statement.now in
    let units = c.in-Some.units in
    let is : counted_by unit statement ≡ Ticks units = sym c.counted.ensures.counted ∙ units_some c.counted.result units c.in-Some.ensures in
    let agents : c.deref.result.now ≡ statement.agents = c.deref.ensures.value ∙ ap (λ s. s.agents) c.statement.view_is in
    let least : c.finite_total-least.result ≡ sum_by (λ agent. ticks_of (floor_at amounts agent)) statement.agents = c.finite_total-least.ensures ∙ ap (sum_by (λ agent. ticks_of (floor_at amounts agent))) agents in
    let value : c.args.weight * c.saturating_sub.result ≡ used.weight * (units - sum_by (λ agent. ticks_of (floor_at amounts agent)) statement.agents) =
    ap (λ n. c.args.weight * n) (c.saturating_sub.ensures ∙ ap (λ n. units - n) least) ∙ ap (λ w. w * (units - sum_by (λ agent. ticks_of (floor_at amounts agent)) statement.agents)) (sym weight) in
    c.of.ensures ∙ ap Ticks value ∙ sym (use_worth_is known unit amounts used statement named units is)

pub returns-in-None-clause-worth : goal.returns-in-None-clause-worth
returns-in-None-clause-worth c known used named weight =
    let unit = c.args.counting.now.list.unit in
    let amounts = c.args.counting.now.floors.now.amounts.items in
    let statement = c.args.statement.now in
    let is : counted_by unit statement ≡ Never = sym c.counted.ensures.counted ∙ units_none c.counted.result c.in-None.ensures in
    c.infinite.ensures ∙ sym (use_worth_never known unit amounts used statement named is)
