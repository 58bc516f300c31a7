use Rattle.std.proofs.Common.{List, ℕ, ◌≤◌, ◌≡◌, ◌≢◌, ◌<◌, ◌++◌, ◌∷◌, Some, [], length, length-append, slice_get, sym, ◌∙◌, ap, subst, ⊎_elim, arith}
use Rattle.std.proofs.lemmas.Bool.{cases_eq}
use Rattle.std.proofs.lemmas.List.{map-append, length-map}
use Rattle.std.proofs.lemmas.List.Elements.{All-push}
use Rattle.std.proofs.lemmas.Option.{slice_get_within, same_Some}
use Rattle.mapf_model.proofs.DecidedLemmas.{same_list}
use Rattle.mapf_model.proofs.PlaceLemmas.{slice_get-front, slice_get-here}
use Rattle.mapf_conflicts.specs.Pairs.{paths_behind}
use Rattle.mapf_cbs.proofs.OwnerLemmas.{path_by_owner}
use Rattle.mapf_cbs.proofs.ancestors.paths_at.Goals as goal

pub loop-agent-preserved : goal.loop-agent-preserved
loop-agent-preserved c =
    let so_many = c.loop-agent.invariant.count in
    let paths = c.loop-agent.paths.items in
    let behind = paths_behind paths in
    let path = c.path_at-path.result.now in
    let pushed : c.push.new.self.items ≡ paths ++ c.path_at-path.result ∷ [] = c.in_ok-push.ensures.items in
    let split : paths_behind c.push.new.self.items ≡ behind ++ path ∷ [] = ap paths_behind pushed ∙ map-append (λ one. one.now) paths (c.path_at-path.result ∷ []) in
    let longer = length-append paths (c.path_at-path.result ∷ []) in
    let all : length behind ≡ c.loop-agent.agent = length-map paths (λ one. one.now) ∙ so_many in
    record {
      count = rw pushed (omega (arith, so_many, longer));
      same = λ views view are is i below. ⊎_elim
          (λ (here : i ≡ c.loop-agent.agent).
          let path_is = path_by_owner c.args.nodes.now c.args.owners.now.node c.loop-agent.agent c.of.result (c.of.ensures c.args.nodes.now c.requires.owners) path c.path_at-path.ensures views view are is in
          let last : slice_get (behind ++ path ∷ []) c.loop-agent.agent ≡ Some path = subst (λ n. slice_get (behind ++ path ∷ []) n ≡ Some path) all (slice_get-here behind [] path) in
          rw split (rw here (last ∙ sym path_is)))
          (λ (other : i ≢ c.loop-agent.agent).
          rw split (slice_get-front behind (path ∷ []) i (omega (arith, below, other, all)) ∙ c.loop-agent.invariant.same views view are is i (omega (arith, below, other))))
          (cases_eq i c.loop-agent.agent);
      short = rw split (All-push (λ (path : List ℕ). length path ≤ 10000000) behind path c.loop-agent.invariant.short (subst (λ cells. length cells ≤ 10000000) c.cells-cells.ensures.value c.cells-cells.ensures.few));
    }

pub returns-clause-paths : goal.returns-clause-paths
returns-clause-paths c views view are is size =
    let behind = paths_behind c.loop-agent.paths.items in
    let count : length behind ≡ c.loop-agent.agent = length-map c.loop-agent.paths.items (λ one. one.now) ∙ c.loop-agent.invariant.count in
    let past = c.loop-agent-test.false in
    same_list behind view.paths (let e = c.loop-agent.auto.agent-end in omega (arith, count, past, size, e)) (λ i x y x_is y_is.
    let within : i < length behind = slice_get_within behind i x x_is in
    same_Some x y (sym x_is ∙ c.loop-agent.invariant.same views view are is i (omega (arith, within, count)) ∙ y_is))
