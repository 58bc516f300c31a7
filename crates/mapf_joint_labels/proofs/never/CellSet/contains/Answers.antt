use Rattle.std.proofs.Common.{◌≡◌, ℕ, ◌<◌, ◌∙◌, Contains, length, slice_index_or, ap, sym, subst, arith}
use Rattle.std.proofs.lemmas.Bool.{eq-eqb}
use Rattle.std.proofs.lemmas.Bool.Decides.{nat_tests}
use Rattle.mapf_lemmas.specs.declared.joint.JointCell.{JointCell}
use Rattle.mapf_model.specs.Grid.{IsFree}
use Rattle.mapf_model.proofs.StepLemmas.{free_within}
use Rattle.mapf_joint_labels.specs.declared.never.CellSet.{CellSet}
use Rattle.mapf_joint_labels.specs.declared.runs.Run.{Run}
use Rattle.mapf_joint_labels.specs.Never.{IsIndexed}
use Rattle.mapf_joint_labels.specs.Runs.{IsRunFor, run_of}
use Rattle.mapf_joint_labels.proofs.RunLemmas.{pair_is, placed}
use Rattle.mapf_joint_labels.proofs.never.CellSet.contains.Goals as goal

-- where the pair stands, if it is one of the joint cells
at_place : (set : CellSet) (first second place : ℕ) (run : Run) → IsIndexed set → IsFree set.grid.now first → run ≡ run_of set.runs.now first
    → ((k other : ℕ) → IsRunFor set.cells.now run k (record { first = other; second = second }) → place ≡ k) → Contains set.cells.now (record { first = first; second = second })
    → (place < length set.cells.now) × ((d : JointCell) → slice_index_or set.cells.now place d ≡ record { first = first; second = second })
at_place set first second place run indexed free run_is found held =
    let cover = indexed.cover in
    let inside = free_within set.grid.now first free in
    placed set.cells.now set.runs.now first second place indexed.rising indexed.runs (omega (arith, cover, inside))
    (λ k other is. found k other (subst (λ (r : Run). IsRunFor set.cells.now r k (record { first = other; second = second })) (sym run_is) is)) held

pub returns-then-eq : goal.returns-then-eq
returns-then-eq c =
    let cells = c.args.self.now.cells.now in
    let lookup = c.in-Some.ensures.lookup in
    let found = c.in-Some.found.now in
    let place = c.place_in-place.result in
    let first : found.first ≡ c.args.first = let e = c.eq.ensures in let t = c.if-eq.true in grind (arith, nat_tests) in (
      λ yes. let second : found.second ≡ c.args.second = let e = c.eq-then-eq.ensures in grind (arith, nat_tests) in
          let pair : JointCell = record { first = c.args.first; second = c.args.second } in
          (place, lookup.3.0, sym (lookup.3.1 pair) ∙ pair_is found c.args.first c.args.second first second),
      λ held. let at = at_place c.args.self.now c.args.first c.args.second place c.get.result c.requires.indexed c.requires.free c.get.ensures c.place_in-place.ensures held in
          let second : found.second ≡ c.args.second = ap (λ (p : JointCell). p.second) (lookup.3.1 found ∙ at.1 found) in
          c.eq-then-eq.ensures ∙ eq-eqb found.second c.args.second second,
    )

pub returns-else-eq : goal.returns-else-eq
returns-else-eq c =
    let lookup = c.in-Some.ensures.lookup in
    let found = c.in-Some.found.now in (
      λ yes. let no = c.if-eq.false in absurd cc,
      λ held. let at = at_place c.args.self.now c.args.first c.args.second c.place_in-place.result c.get.result c.requires.indexed c.requires.free c.get.ensures c.place_in-place.ensures held in
          let first : found.first ≡ c.args.first = ap (λ (p : JointCell). p.first) (lookup.3.1 found ∙ at.1 found) in
          c.eq.ensures ∙ eq-eqb found.first c.args.first first,
    )

pub returns-in-None : goal.returns-in-None
returns-in-None c =
    let none = c.in-None.ensures.lookup.3 in (
      λ yes. absurd cc,
      λ held. let at = at_place c.args.self.now c.args.first c.args.second c.place_in-place.result c.get.result c.requires.indexed c.requires.free c.get.ensures c.place_in-place.ensures held in
          absurd (let within = at.0 in omega (arith, none, within)),
    )
