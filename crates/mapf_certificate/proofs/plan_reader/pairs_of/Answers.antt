use Rattle.std.proofs.Common.{◌≡◌, ◌≢◌, ◌++◌, ◌∷◌, [], List, ℕ, Ok, Err, Some, None, Result, Option, All, ap, sym, subst, ◌∙◌, inl, refl}
use Rattle.std.proofs.lemmas.Bool.{false≢true}
use Rattle.mapf_model.specs.Printed.{IsOnGrid}
use Rattle.mapf_fields.specs.declared.fault.LineFault.{LineFault}
use Rattle.mapf_fields.proofs.Binds.{ok_pair_parts, pushed}
use Rattle.mapf_certificate.specs.declared.sizes.Sizes.{Sizes}
use Rattle.mapf_certificate.specs.Lines.{grid_for}
use Rattle.mapf_certificate.specs.Plans.{GoesOn, HasCells}
use Rattle.mapf_certificate.specs.PlanReading.{read_pair_cell}
use Rattle.mapf_certificate.proofs.PathLaws.{goes_on_step, goes_on_end, has_cells_step, pair_cell_shorter, not_empty, is_empty}
use Rattle.mapf_certificate.proofs.plan_reader.pairs_of.Goals as goal
use Rattle.std.proofs.lemmas.Option.{same_Some}

-- a path that goes on is read on
refused : (sizes : Sizes) (path cells rest : List ℕ) (f : LineFault) → All (IsOnGrid (grid_for sizes)) path → GoesOn sizes.width path cells rest → rest ≢ [] → read_pair_cell sizes rest ≡ Err f → ⊥
refused sizes path cells rest f all on some e =
    let step = goes_on_step sizes path cells rest all on some in
    let wrong : ◌≡◌ {A = Result (Option ℕ × List ℕ) LineFault} (Err f) (Ok (Some step.0, step.1)) = sym e ∙ step.2 in cc

read_on : (sizes : Sizes) (path cells rest after : List ℕ) (v : Option ℕ) → All (IsOnGrid (grid_for sizes)) path → GoesOn sizes.width path cells rest → rest ≢ [] → read_pair_cell sizes rest ≡ Ok (v, after)
    → (cell : ℕ) × (v ≡ Some cell) × GoesOn sizes.width path (cells ++ (cell ∷ [])) after
read_on sizes path cells rest after v all on some e =
    let step = goes_on_step sizes path cells rest all on some in
    let (value, rests) = ok_pair_parts v (Some step.0) after step.1 (sym e ∙ step.2) in
    (step.0, value, subst (GoesOn sizes.width path (cells ++ (step.0 ∷ []))) (sym rests) step.3)

pub returns-in-Err-clause-only : goal.returns-in-Err-clause-only
returns-in-Err-clause-only c path all e =
    let on = (c.loop-rest.invariant.only path all e).1 in
    absurd (refused c.args.sizes.now path c.loop-rest.cells.items c.loop-rest.rest.now c.in-Err.fault all on (not_empty _ _ c.is_empty.ensures c.loop-rest-test.true) c.in-Err.ensures)

pub loop-rest-smaller-else-is_err : goal.loop-rest-smaller-else-is_err
loop-rest-smaller-else-is_err c = pair_cell_shorter c.args.sizes.now c.loop-rest.rest.now c.in-Ok.parts.1.now c.in-Ok.parts.0 c.in-Ok.ensures

pub loop-rest-smaller-else-are_cells : goal.loop-rest-smaller-else-are_cells
loop-rest-smaller-else-are_cells c = pair_cell_shorter c.args.sizes.now c.loop-rest.rest.now c.in-Ok.parts.1.now c.in-Ok.parts.0 c.in-Ok.ensures

pub loop-rest-smaller : goal.loop-rest-smaller
loop-rest-smaller c = pair_cell_shorter c.args.sizes.now c.loop-rest.rest.now c.in-Ok.parts.1.now c.in-Ok.parts.0 c.in-Ok.ensures

keeps_on : (sizes : Sizes) (path cells rest after new : List ℕ) (v : Option ℕ) (cell : ℕ) → All (IsOnGrid (grid_for sizes)) path → GoesOn sizes.width path cells rest → rest ≢ [] → read_pair_cell sizes rest ≡ Ok (v, after)
    → v ≡ Some cell → new ≡ cells ++ (cell ∷ []) → GoesOn sizes.width path new after
keeps_on sizes path cells rest after new v cell all on some e is grown =
    let step = read_on sizes path cells rest after v all on some e in
    let same = same_Some step.0 cell (sym step.1 ∙ is) in
    subst (λ (l : List ℕ). GoesOn sizes.width path l after) (ap (λ n. cells ++ (n ∷ [])) same ∙ sym grown) step.2

pub loop-rest-preserved-else-is_err : goal.loop-rest-preserved-else-is_err
loop-rest-preserved-else-is_err c =
    let sizes = c.args.sizes.now in
    let rest = c.loop-rest.rest.now in
    let after = c.in-Ok.parts.1.now in
    let cells = c.loop-rest.cells.items in
    let grown = pushed c.push.result cells c.push.new.self.items c.in-Some.cell c.push.ensures.items c.if-is_err.ensures.value in
    let read : read_pair_cell sizes rest ≡ Ok (Some c.in-Some.cell, after) = c.in-Ok.ensures ∙ ap (λ v. Ok (v, after)) c.in-Some.is in
    record {
      found = λ are. subst (λ (l : List ℕ). HasCells (grid_for sizes) c.args.bytes.now l after) (sym grown) (has_cells_step sizes c.args.bytes.now cells rest after c.in-Some.cell (c.loop-rest.invariant.found are) read);
      only = λ path all e.
          let (are, on) = c.loop-rest.invariant.only path all e in
          (are, keeps_on sizes path cells rest after c.push.new.self.items (Some c.in-Some.cell) c.in-Some.cell all on (not_empty _ _ c.is_empty.ensures c.loop-rest-test.true) read refl grown);
    }

pub loop-rest-preserved : goal.loop-rest-preserved
loop-rest-preserved c = record {
  found = λ are. absurd (false≢true are);
  only = λ path all e.
      let (are, on) = c.loop-rest.invariant.only path all e in
      let step = read_on c.args.sizes.now path c.loop-rest.cells.items c.loop-rest.rest.now c.in-Ok.parts.1.now c.in-Ok.parts.0 all on (not_empty _ _ c.is_empty.ensures c.loop-rest-test.true) c.in-Ok.ensures in
      let wrong : ◌≡◌ {A = Option ℕ} None (Some step.0) = sym c.in-None.is ∙ step.1 in
      cc;
}

pub returns-clause-only : goal.returns-clause-only
returns-clause-only c path all e =
    let (are, on) = c.loop-rest.invariant.only path all e in
    let none = is_empty c.loop-rest.rest.now _ c.is_empty.ensures c.loop-rest-test.false in
    inl (are, sym (goes_on_end c.args.sizes.now.width path c.loop-rest.cells.items (subst (GoesOn c.args.sizes.now.width path c.loop-rest.cells.items) none on)))
