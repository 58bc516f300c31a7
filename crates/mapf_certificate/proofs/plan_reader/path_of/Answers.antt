use Rattle.std.proofs.Common.{◌≡◌, ◌<◌, ◌≤◌, ◌^◌, ◌-◌, ℕ, List, Ok, Err, Some, Option, Bool, true, length, ap, sym, subst, ◌∙◌, inl, inr, arith, codes, ◌++◌, All, refl}
use Rattle.std.proofs.lemmas.Bool.{false≢true}
use Rattle.std.proofs.lemmas.Result.{err_from_is_err_and}
use Rattle.mapf_model.specs.Printed.{IsOnGrid, IsPathInRange}
use Rattle.mapf_model.specs.Path.{IsTight}
use Rattle.mapf_fields.specs.Numbers.{field}
use Rattle.mapf_fields.proofs.Binds.{same_err, ok_triple_parts, passed_on}
use Rattle.mapf_certificate.specs.declared.plan_text.PlanTextFault.TheVariants.{Memory}
use Rattle.mapf_certificate.specs.declared.sizes.Sizes.{Sizes}
use Rattle.mapf_certificate.specs.Lines.{grid_for}
use Rattle.mapf_certificate.specs.Plans.{path_words, cells_text, ticks_of, IsPathOf}
use Rattle.mapf_certificate.specs.PlanReading.{read_path_front}
use Rattle.mapf_certificate.proofs.PathLaws.{front_read}
use Rattle.mapf_certificate.proofs.PlanParts.{path_front_takes}
use Rattle.mapf_certificate.proofs.plan_reader.path_of.Goals as goal

-- what the beginning of a path's line is read as
front : (sizes : Sizes) (due : ℕ) (line path : List ℕ) → IsPathInRange (grid_for sizes) path → due < sizes.agents → line ≡ path_words sizes.width due path
    → read_path_front line ≡ Ok (Some due, Some (ticks_of path), cells_text sizes.width path)
front sizes due line path is less e =
    let fits : due < 2 ^ 64 = omega (arith, sizes.few.1) in
    ap read_path_front e ∙ front_read sizes.width due path is.some is.short fits

pub returns-in-Err-clause-only : goal.returns-in-Err-clause-only
returns-in-Err-clause-only c path is less e =
    let read = front c.args.sizes.now c.args.due c.args.line.now path is less e in
    let failed : read_path_front c.args.line.now ≡ Err c.in-Err.fault = c.in-Err.ensures in
    cc

parts : (sizes : Sizes) (due : ℕ) (line path : List ℕ) (agent cost : Option ℕ) (rest : List ℕ) → IsPathInRange (grid_for sizes) path → due < sizes.agents → line ≡ path_words sizes.width due path
    → read_path_front line ≡ Ok (agent, cost, rest) → (agent ≡ Some due) × (cost ≡ Some (ticks_of path)) × (rest ≡ cells_text sizes.width path)
parts sizes due line path agent cost rest is less e read = ok_triple_parts agent (Some due) cost (Some (ticks_of path)) rest (cells_text sizes.width path) (sym read ∙ front sizes due line path is less e)

pub returns-in_err-pairs-clause-only : goal.returns-in_err-pairs-clause-only
returns-in_err-pairs-clause-only c path is less e =
    let (agent, cost, rest) = parts c.args.sizes.now c.args.due c.args.line.now path c.in-Ok.parts.0 c.in-Ok.parts.1 c.in-Ok.parts.2.now is less e c.in-Ok.ensures in
    elim (c.in_err-pairs.ensures.only path is.on_grid rest) [ inl wrong ↦ absurd wrong | inr memory ↦ inr (passed_on c.from_residual.result c.in_err-pairs.field-0.0 Memory (err_from_is_err_and c.from_residual.result c.from_residual.ensures.1) (same_err _ Memory memory)) ]

together : (sizes : Sizes) (due : ℕ) (agent cost : Option ℕ) (are : Bool) (path cells : List ℕ) → IsPathInRange (grid_for sizes) path → due < sizes.agents → agent ≡ Some due → cost ≡ Some (ticks_of path) → are ≡ true → cells ≡ path
    → IsPathOf sizes.agents agent cost due are (length cells)
together sizes due agent cost are path cells is less agent-is cost-is all same =
    let count : length cells ≡ length path = ap length same in
    record { agent_is = agent-is; agent_in_range = less; cells = all; some = omega (arith, is.some); few = omega (arith, is.short); cost_is = cost-is ∙ ap (λ n. Some (n - 1)) (sym count) }

pub returns-in-Err-judge_path-clause-only : goal.returns-in-Err-judge_path-clause-only
returns-in-Err-judge_path-clause-only c path is less e =
    let (agent, cost, rest) = parts c.args.sizes.now c.args.due c.args.line.now path c.in-Ok.parts.0 c.in-Ok.parts.1 c.in-Ok.parts.2.now is less e c.in-Ok.ensures in
    elim (c.in_ok-pairs.ensures.only path is.on_grid rest) [
      | inl (are, cells) ↦ absurd (false≢true (c.in-Err-judge_path.ensures.1 (together c.args.sizes.now c.args.due c.in-Ok.parts.0 c.in-Ok.parts.1 c.in_ok-pairs.pairs.are_cells path c.in_ok-pairs.pairs.cells.items is less agent cost are cells)))
      | inr memory ↦ cc
    ]

as_path : (path cells : List ℕ) (sizes : Sizes) → IsPathInRange (grid_for sizes) path → cells ≡ path → (1 ≤ length cells) × (length cells ≤ 10000000) × IsTight cells
as_path path cells sizes is same =
    let P : List ℕ → Type 0 = λ l. (1 ≤ length l) × (length l ≤ 10000000) × IsTight l in
    subst P (sym same) (is.some, is.short, is.tight)

-- numbers and pairs that go together are a path's line
concluded : (sizes : Sizes) (due : ℕ) (line rest cells path : List ℕ) (agent cost : Option ℕ) (are : Bool) → read_path_front line ≡ Ok (agent, cost, rest) → IsPathOf sizes.agents agent cost due are (length cells)
    → (are ≡ true → All (IsOnGrid (grid_for sizes)) cells × (rest ≡ cells_text sizes.width cells)) → IsTight cells → path ≡ cells
    → IsPathInRange (grid_for sizes) path × (line ≡ path_words sizes.width due path)
concluded sizes due line rest cells path agent cost are read of pairs tight same =
    let (inside, text) = pairs of.cells in
    let front = path_front_takes line due (ticks_of cells) rest (read ∙ ap (λ a. Ok (a, cost, rest)) of.agent_is ∙ ap (λ k. Ok (Some due, k, rest)) of.cost_is) in
    let all : line ≡ path_words sizes.width due cells = front ∙ ap (λ r. codes "path" ++ (field 32 due ++ (field 32 (ticks_of cells) ++ r))) text in
    let P : List ℕ → Type 0 = λ p. IsPathInRange (grid_for sizes) p × (line ≡ path_words sizes.width due p) in
    subst P (sym same) (record { some = of.some; short = of.few; on_grid = inside; tight = tight }, all)

pub returns-in-Some-clause-found : goal.returns-in-Some-clause-found
returns-in-Some-clause-found c =
    concluded c.args.sizes.now c.args.due c.args.line.now c.in-Ok.parts.2.now c.in_ok-pairs.pairs.cells.items c.in-Some.path c.in-Ok.parts.0 c.in-Ok.parts.1 c.in_ok-pairs.pairs.are_cells
    c.in-Ok.ensures (c.in-Ok-judge_path.ensures.0 refl) c.in_ok-pairs.ensures.found (c.in-Some.ensures.tight.0 refl).2 c.in-Some.ensures.value

pub returns-in-Some-clause-only : goal.returns-in-Some-clause-only
returns-in-Some-clause-only c path is less e =
    let (agent, cost, rest) = parts c.args.sizes.now c.args.due c.args.line.now path c.in-Ok.parts.0 c.in-Ok.parts.1 c.in-Ok.parts.2.now is less e c.in-Ok.ensures in
    elim (c.in_ok-pairs.ensures.only path is.on_grid rest) [
      | inl (are, cells) ↦ inl (ap Ok (c.in-Some.ensures.value ∙ cells))
      | inr memory ↦ cc
    ]

pub returns-in-None-clause-only : goal.returns-in-None-clause-only
returns-in-None-clause-only c path is less e =
    let (agent, cost, rest) = parts c.args.sizes.now c.args.due c.args.line.now path c.in-Ok.parts.0 c.in-Ok.parts.1 c.in-Ok.parts.2.now is less e c.in-Ok.ensures in
    elim (c.in_ok-pairs.ensures.only path is.on_grid rest) [
      | inl (are, cells) ↦ absurd (false≢true (c.in-None.ensures.tight.1 (as_path path c.in_ok-pairs.pairs.cells.items c.args.sizes.now is cells)))
      | inr memory ↦ cc
    ]
