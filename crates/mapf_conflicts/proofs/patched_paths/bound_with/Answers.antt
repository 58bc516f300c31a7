use Rattle.std.proofs.Common.{◌≤◌, All, length, refl, subst, arith}
use Rattle.std.proofs.lemmas.Grind.{common_steps}
use Rattle.std.proofs.lemmas.List.{take_all}
use Rattle.std.proofs.lemmas.List.Elements.{All-weaker}
use Rattle.std.proofs.lemmas.Option.{slice_get_read}
use Rattle.mapf_conflicts.specs.Replacements.{with_replacements}
use Rattle.mapf_conflicts.proofs.ReplacementLemmas.{all_next}
use Rattle.mapf_conflicts.proofs.patched_paths.bound_with.Goals as goal

pub loop-replacement-preserved : goal.loop-replacement-preserved
loop-replacement-preserved c =
    let all = c.args.replacements.now in
    let i = c.loop-replacement.replacement-index in
    let one = c.replacement-item.result in
    let is = slice_get_read all (length all) i one refl (omega arith) c.replacement-item.is in
    let old : c.loop-replacement.longest ≤ c.max-longest.result = grind (arith, common_steps, c.max-longest.ensures) in
    let new : length one.path.now ≤ c.max-longest.result = grind (arith, common_steps, c.max-longest.ensures, c.cells.ensures.value) in
    let before = All-weaker (λ path. length path ≤ c.loop-replacement.longest) (λ path. length path ≤ c.max-longest.result) (λ path short. omega (arith, short, old)) _ c.loop-replacement.invariant.longest in
    record {
      longest = all_next (λ path. length path ≤ c.max-longest.result) c.args.base.now all i one is new before;
      positive = let positive = c.loop-replacement.invariant.positive in omega (arith, positive, old);
      bounded = grind (arith, common_steps, c.max-longest.ensures, c.loop-replacement.invariant.bounded, c.cells.ensures.few);
    }

pub returns-clause-longest : goal.returns-clause-longest
returns-clause-longest c =
    let all = c.args.replacements.now in
    let whole = take_all c.loop-replacement.replacement-index all (omega arith) in
    subst (λ rs. All (λ path. length path ≤ c.loop-replacement.longest) (with_replacements c.args.base.now rs)) whole c.loop-replacement.invariant.longest
