use Rattle.std.proofs.Common.{◌≡◌, ℕ, ◌<◌, Option, Some, None, eqb, Contains, Decides, refl, sym, ap, subst, ◌∙◌, arith}
use Rattle.std.proofs.lemmas.Bool.{eqb-true, eq-eqb}
use Rattle.std.proofs.lemmas.List.Elements.{contains_decides, Decides-contains}
use Rattle.std.proofs.lemmas.Option.{same_Some}
use Rattle.std.specs.Option.{option_eq}
use Rattle.mapf_model.specs.Neighbours.{neighbourhood}
use Rattle.mapf_model.proofs.StepLemmas.{neighbour_step, step_neighbour}
use Rattle.mapf_model.proofs.grid.Grid.is_step.Goals as goal

Decides-option_eq : (a b : Option ℕ) → Decides (option_eq eqb a b) (a ≡ b)
Decides-option_eq None None = (λ e. refl, λ e. refl)
Decides-option_eq None (Some y) = (λ e. absurd cc, λ e. absurd cc)
Decides-option_eq (Some x) None = (λ e. absurd cc, λ e. absurd cc)
Decides-option_eq (Some x) (Some y) = (λ e. ap Some (eqb-true x y e), λ e. eq-eqb x y (same_Some x y e))

pub returns-then-is_free : goal.returns-then-is_free
returns-then-is_free c =
    let grid = c.args.self.now in
    let from = c.args.from in
    let to = c.args.to in
    let wide : 0 < grid.width = omega (arith, c.width.ensures.width, c.width.ensures.positive) in
    let free = c.is_free.ensures.0 c.if-not-is_free.false in
    let held = Decides-contains c.neighbourhood.result (Some to) c.contains.result (contains_decides (option_eq eqb) Decides-option_eq c.neighbourhood.result (Some to) c.contains.result c.contains.ensures.cases) in
    let places = c.neighbourhood.ensures ∙ ap (λ w. neighbourhood w from) c.width.ensures.width in (
      λ is. neighbour_step grid from wide free to (subst (λ list. Contains list (Some to)) places (held.0 is)) (c.is_free-2.ensures.0 c.if-is_free.true),
      λ step. held.1 (subst (λ list. Contains list (Some to)) (sym places) (step_neighbour grid from wide free to step)),
    )
