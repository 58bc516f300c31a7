use Rattle.std.proofs.Common.{◌≡◌, ◌≢◌, ◌<◌, ◌≤◌, ◌++◌, ◌∷◌, List, Option, ℕ, Some, None, [], length, slice_get, slice_set, refl, sym, ◌∙◌, ap, subst, ⊎_elim, arith}
use Rattle.std.proofs.lemmas.Bool.{cases_eq}
use Rattle.std.proofs.lemmas.List.Elements.{All-push, All-set}
use Rattle.std.proofs.lemmas.Option.{slice_get_read, slice_get_within, same_Some}
use Rattle.mapf_model.proofs.PlaceLemmas.{slice_get-set_same, slice_get-set_other}
use Rattle.mapf_model.proofs.DecidedLemmas.{same_list}
use Rattle.mapf_conflicts.specs.Replacements.{with_replacements}
use Rattle.mapf_conflicts.specs.declared.patched_paths.Replacement.{Replacement}
use Rattle.mapf_conflicts.proofs.ReplacementLemmas.{replaced_count, replaced_last}
use Rattle.mapf_cbs.proofs.OwnerLemmas.{path_by_owner}
use Rattle.mapf_cbs.proofs.replacements.replacements_at.Goals as goal
use Rattle.mapf_cbs.proofs.replacements.replacements_at.Goals.{in-Some+in_ok-push, in_default}

no_owner : (owner : Option ℕ) → ((k : ℕ) → owner ≡ Some k → ⊥) → owner ≡ None
no_owner None none = refl
no_owner (Some k) none = absurd (none k refl)

pub path_at-path-requires-clause-inside : goal.path_at-path-requires-clause-inside
path_at-path-requires-clause-inside c =
    let nearest = c.args.owners.now.nearest.items in
    let owner = c.requires.owners c.loop-agent.agent c.index.result.now (slice_get_read nearest (length nearest) c.loop-agent.agent c.index.result.now refl (omega arith) c.index.ensures) in
    (rw c.in-Some.is at owner).inside

pub loop-agent-preserved : goal.loop-agent-preserved
loop-agent-preserved c =
    let nodes = c.args.nodes.now in
    let root = c.args.root.now in
    let agent = c.loop-agent.agent in
    let nearest = c.args.owners.now.nearest.items in
    let old = c.loop-agent.replacements.items in
    let count = c.requires.count in
    let owner = c.requires.owners agent c.index.result.now (slice_get_read nearest (length nearest) agent c.index.result.now refl (omega arith) c.index.ensures) in
    elim c.match-index.branch [
      | in-Some+in_ok-push w ↦
          let one : Replacement = record { agent = agent; path = w.path_at-path.result } in
          let path = w.path_at-path.result.now in
          let pushed : c.match-index.replacements.items ≡ old ++ one ∷ [] = ap (λ v. v.items) w.replacements-is ∙ w.in_ok-push.ensures.items in
          let set : with_replacements root c.match-index.replacements.items ≡ slice_set (with_replacements root old) agent path = ap (with_replacements root) pushed ∙ replaced_last root old one in
          let inside : agent < length (with_replacements root old) = let size = replaced_count root old in omega (arith, size, count) in
          record {
            known = rw pushed (All-push (λ (r : Replacement). r.agent < length root) old one c.loop-agent.invariant.known (omega (arith, count)));
            same = λ views view are is i below. ⊎_elim
                (λ (here : i ≡ agent).
                rw set (rw here (slice_get-set_same (with_replacements root old) agent path inside ∙ sym (path_by_owner nodes c.args.owners.now.node agent w.in-Some.owner (rw w.in-Some.is at owner) path w.path_at-path.ensures views view are is))))
                (λ (other : i ≢ agent).
                rw set (slice_get-set_other (with_replacements root old) agent i path other ∙ c.loop-agent.invariant.same views view are is i (omega (arith, below, other))))
                (cases_eq i agent);
            later = λ i from.
                let other : i ≢ agent = λ e. omega (arith, from, e) in
                rw set (slice_get-set_other (with_replacements root old) agent i path other ∙ c.loop-agent.invariant.later i (omega (arith, from)));
            short = rw set (All-set (λ (p : List ℕ). length p ≤ 10000000) (with_replacements root old) agent path (subst (λ cells. length cells ≤ 10000000) w.cells-cells.ensures.value w.cells-cells.ensures.few) c.loop-agent.invariant.short);
          }
      | in_default w ↦
          let kept : c.match-index.replacements.items ≡ old = ap (λ v. v.items) w.replacements-is in
          record {
            known = rw kept c.loop-agent.invariant.known;
            same = λ views view are is i below. rw kept (⊎_elim
                (λ (here : i ≡ agent).
                let other = (rw (no_owner c.index.result.now w.in_default.not-Some) at owner).same views view are is in
                rw here (c.loop-agent.invariant.later agent (omega arith) ∙ ap (λ paths. slice_get paths agent) (sym (c.requires.root views other.0 are other.1)) ∙ sym other.2.0))
                (λ (other : i ≢ agent). c.loop-agent.invariant.same views view are is i (omega (arith, below, other)))
                (cases_eq i agent));
            later = λ i from. rw kept (c.loop-agent.invariant.later i (omega (arith, from)));
            short = rw kept c.loop-agent.invariant.short;
          }
    ]

pub returns-clause-paths : goal.returns-clause-paths
returns-clause-paths c views view are is size =
    let root = c.args.root.now in
    let all = c.loop-agent.replacements.items in
    let count = replaced_count root all ∙ c.requires.count in
    same_list (with_replacements root all) view.paths (count ∙ sym size) (λ i x y x_is y_is.
    let within : i < length (with_replacements root all) = slice_get_within (with_replacements root all) i x x_is in
    same_Some x y (sym x_is ∙ c.loop-agent.invariant.same views view are is i (omega (arith, within, count)) ∙ y_is))
