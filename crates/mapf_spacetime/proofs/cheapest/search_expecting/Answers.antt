use Rattle.std.proofs.Common.{◌≡◌, ◌∷◌, ◌-◌, [], None, refl, sym, subst, ap, length, arith}
use Rattle.mapf_model.specs.Bars.{Satisfies}
use Rattle.mapf_model.specs.Distance.{IsUnreachable}
use Rattle.mapf_model.specs.Path.{IsCost}
use Rattle.mapf_spacetime.specs.Task.{IsValue, state_at}
use Rattle.mapf_spacetime.specs.Listed.{AreEntriesOf}
use Rattle.mapf_spacetime.specs.Answer.{IsArrival}
use Rattle.mapf_spacetime.specs.Listing.{ListsReached}
use Rattle.mapf_spacetime.specs.declared.found.Found.TheVariants.{Arrives}
use Rattle.mapf_spacetime.proofs.ListLemmas.{barred_listed, none_listed, unreachable_listed}
use Rattle.mapf_spacetime.proofs.AnswerLemmas.{barred_shows, unreachable_shows, shortest_arrives}
use Rattle.mapf_spacetime.proofs.cheapest.search_expecting.Goals as goal

pub dead-requires-clause-none : goal.dead-requires-clause-none
dead-requires-clause-none g c entries a =
    let task = c.args.task.now in
    unreachable_shows task (subst (IsUnreachable task.grid task.goal) c.start.ensures.start c.in_default.ensures.none) entries a

pub dead-requires-then-not-allows_start-clause-none : goal.dead-requires-then-not-allows_start-clause-none
dead-requires-then-not-allows_start-clause-none g c entries a =
    let task = c.args.task.now in
    let start = ap (λ cell. state_at cell 0) c.start.ensures.start in
    barred_shows task c.in-Some.distance (subst (λ s. IsValue task s c.in-Some.distance) start c.in-Some.ensures.some) (c.if-not-allows_start.ensures.no refl) entries (subst (λ s. AreEntriesOf (s ∷ []) None entries) start a)

pub descend-requires : goal.descend-requires
descend-requires g c =
    let task = c.args.task.now in
    let value = subst (λ cell. IsValue task (state_at cell 0) c.in-Some.distance) c.start.ensures.start c.in-Some.ensures.some in
    (value.distance, value.is.walk)

pub returns-then-horizon-eq0-clause-answer : goal.returns-then-horizon-eq0-clause-answer
returns-then-horizon-eq0-clause-answer g c =
    let task = c.args.task.now in
    let path = c.in_ok-descend.field-0 in
    let value = subst (λ cell. IsValue task (state_at cell 0) c.in-Some.distance) c.start.ensures.start c.in-Some.ensures.some in
    let none : c.horizon.result ≡ 0 = search in
    let satisfies : Satisfies task.bars path = λ bar held violates. absurd (omega (arith, c.horizon.ensures.above bar held, none)) in
    let found = c.in_ok-descend.ensures in
    subst (IsArrival task path) (sym c.none.ensures)
    (shortest_arrives task c.in-Some.distance path value found.path found.start found.goal found.shortest found.cost found.tight found.least satisfies)

pub dead-requires-clause-all : goal.dead-requires-clause-all
dead-requires-clause-all g c entries a =
    let task = c.args.task.now in
    unreachable_listed task entries (subst (IsUnreachable task.grid task.goal) c.start.ensures.start c.in_default.ensures.none) a

pub dead-requires-then-not-allows_start-clause-all : goal.dead-requires-then-not-allows_start-clause-all
dead-requires-then-not-allows_start-clause-all g c entries a =
    let task = c.args.task.now in
    let start = ap (λ cell. state_at cell 0) c.start.ensures.start in
    barred_listed task c.in-Some.distance entries (subst (λ s. IsValue task s c.in-Some.distance) start c.in-Some.ensures.some) (c.if-not-allows_start.ensures.no refl) (subst (λ s. AreEntriesOf (s ∷ []) None entries) start a)

pub returns-then-horizon-eq0-clause-listed : goal.returns-then-horizon-eq0-clause-listed
returns-then-horizon-eq0-clause-listed g c =
    let task = c.args.task.now in
    let path = c.in_ok-descend.field-0 in
    let value : IsValue task (state_at task.start 0) c.in-Some.distance = subst (λ cell. IsValue task (state_at cell 0) c.in-Some.distance) c.start.ensures.start c.in-Some.ensures.some in
    let distance = c.in_ok-descend.ensures.shortest in
    let short = value.is.least (length path - 1) distance.walk in
    let long = distance.least value.distance value.is.walk in
    let sum = value.sum in
    let cost : length path - 1 ≡ c.in-Some.distance = omega arith in
    subst (λ l. ListsReached task (Arrives path l)) (sym c.none.ensures) (
      c.in-Some.distance,
      subst (IsCost task.goal path) cost c.in_ok-descend.ensures.cost,
      none_listed task c.in-Some.distance value,
    )
