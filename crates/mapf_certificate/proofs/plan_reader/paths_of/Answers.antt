use Rattle.std.proofs.Common.{◌≡◌, ◌+◌, ◌-◌, ◌++◌, ◌∷◌, [], ℕ, List, Ok, Err, length, ap, sym, subst, ◌∙◌, inl, inr, arith}
use Rattle.std.proofs.lemmas.Result.{err_from_is_err_and}
use Rattle.mapf_fields.proofs.Binds.{same_ok, ok_pair_parts, same_err, passed_on, pushed}
use Rattle.mapf_certificate.specs.declared.plan_text.PlanTextFault.{PlanTextFault}
use Rattle.mapf_certificate.specs.declared.plan_text.PlanTextFault.TheVariants.{Memory}
use Rattle.mapf_certificate.specs.declared.sizes.Sizes.{Sizes}
use Rattle.mapf_certificate.specs.Lines.{grid_for}
use Rattle.mapf_certificate.specs.Plans.{path_words, ArePaths, PathsGoOn}
use Rattle.mapf_certificate.specs.PlanReading.{next_line}
use Rattle.mapf_certificate.proofs.PathsLaws.{GoesOnWith, paths_go_on_step, are_paths_step}
use Rattle.mapf_certificate.proofs.plan_reader.paths_of.Goals as goal

pub returns-in_err-line-clause-only : goal.returns-in_err-line-clause-only
returns-in_err-line-clause-only c plan rest whole all e =
    let on = c.loop-due.invariant.only plan rest whole all e in
    let step = paths_go_on_step c.args.sizes.now c.loop-due.due plan c.loop-due.paths.items rest c.loop-due.rest.now whole c.loop-due.invariant.found.count c.loop-due-test.true all on in
    let read = step.read (4 + c.loop-due.due) in
    let failed : next_line (4 + c.loop-due.due) c.loop-due.rest.now ≡ Err c.in_err-line.field-0.0 = c.in_err-line.ensures in
    cc

-- the line that is read is that of the next path
lined : (sizes : Sizes) (due n : ℕ) (plan paths : List (List ℕ)) (rest left line after : List ℕ) (step : GoesOnWith sizes due plan paths rest left) → next_line n left ≡ Ok (line, after) → (line ≡ path_words sizes.width due step.path) × (after ≡ step.after)
lined sizes due n plan paths rest left line after step e = ok_pair_parts line (path_words sizes.width due step.path) after step.after (sym e ∙ step.read n)

pub returns-in_err-path-clause-only : goal.returns-in_err-path-clause-only
returns-in_err-path-clause-only c plan rest whole all e =
    let on = c.loop-due.invariant.only plan rest whole all e in
    let step = paths_go_on_step c.args.sizes.now c.loop-due.due plan c.loop-due.paths.items rest c.loop-due.rest.now whole c.loop-due.invariant.found.count c.loop-due-test.true all on in
    let (words, after) = lined c.args.sizes.now c.loop-due.due (4 + c.loop-due.due) plan c.loop-due.paths.items rest c.loop-due.rest.now c.in_ok-line.line.now c.in_ok-line.after.now step c.in_ok-line.ensures in
    elim (c.in_err-path.ensures.only step.path step.in_range c.loop-due-test.true words) [
      | inl wrong ↦ cc
      | inr memory ↦ inr (passed_on c.from_residual-in_err-path.result c.in_err-path.field-0.0 Memory (err_from_is_err_and c.from_residual-in_err-path.result c.from_residual-in_err-path.ensures.1) (same_err _ Memory memory))
    ]

keeps_on : (sizes : Sizes) (due : ℕ) (plan paths new : List (List ℕ)) (rest left path after : List ℕ) (step : GoesOnWith sizes due plan paths rest left) → path ≡ step.path → after ≡ step.after → new ≡ paths ++ (path ∷ []) → PathsGoOn sizes.width (due + 1) plan new rest after
keeps_on sizes due plan paths new rest left path after step same end grown =
    let P : List (List ℕ) → Type 0 = λ l. PathsGoOn sizes.width (due + 1) plan l rest step.after in
    let grown' : paths ++ (step.path ∷ []) ≡ new = ap (λ p. paths ++ (p ∷ [])) (sym same) ∙ sym grown in
    subst (λ (a : List ℕ). PathsGoOn sizes.width (due + 1) plan new rest a) (sym end) (subst P grown' step.then)

pub loop-due-preserved : goal.loop-due-preserved
loop-due-preserved c =
    let sizes = c.args.sizes.now in
    let due = c.loop-due.due in
    let grown = pushed c.push.result c.loop-due.paths.items c.push.new.self.items c.in_ok-path.path c.push.ensures.items c.if-is_err.ensures.value in
    let (is, words) = c.in_ok-path.ensures.found in
    let stepped = are_paths_step sizes due c.loop-due.sum (4 + due) c.args.bytes.now c.loop-due.rest.now c.in_ok-line.line.now c.in_ok-line.after.now c.in_ok-path.path c.loop-due.paths.items c.push.new.self.items c.loop-due.invariant.found c.in_ok-line.ensures is words grown in
    record {
      found = subst (λ (n : ℕ). ArePaths (grid_for sizes) (due + 1) c.args.bytes.now c.push.new.self.items (c.loop-due.sum + (n - 1)) c.in_ok-line.after.now) (ap length (sym c.cells.ensures.value)) stepped;
      only = λ plan rest whole all e.
          let on = c.loop-due.invariant.only plan rest whole all e in
          let step = paths_go_on_step sizes due plan c.loop-due.paths.items rest c.loop-due.rest.now whole c.loop-due.invariant.found.count c.loop-due-test.true all on in
          let (line, after) = lined sizes due (4 + due) plan c.loop-due.paths.items rest c.loop-due.rest.now c.in_ok-line.line.now c.in_ok-line.after.now step c.in_ok-line.ensures in
          elim (c.in_ok-path.ensures.only step.path step.in_range c.loop-due-test.true line) [
            | inl same ↦ keeps_on sizes due plan c.loop-due.paths.items c.push.new.self.items rest c.loop-due.rest.now c.in_ok-path.path c.in_ok-line.after.now step (same_ok {E = PlanTextFault} c.in_ok-path.path step.path same) after grown
            | inr memory ↦ cc
          ];
      few = omega (arith, c.loop-due.invariant.few, c.cells.ensures.few);
    }
