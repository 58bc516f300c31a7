use Rattle.std.proofs.Common.{◌≡◌, ◌++◌, ◌∷◌, [], Bor, List, ℕ, ◌+◌, suc, ◌<◌, ◌≤◌, false, true, length, take, get_or, sym, ◌∙◌, ap, subst, arith}
use Rattle.std.proofs.Math.Seq.{take-suc}
use Rattle.std.proofs.lemmas.List.{map-append, length-map, take_all}
use Rattle.std.proofs.lemmas.List.Elements.{All-push}
use Rattle.mapf_conflicts.specs.Pairs.{paths_behind}
use Rattle.mapf_cbs.proofs.ancestors.plan_of.Goals as goal

-- one more of the paths
more_behind : (paths : List (Bor (List ℕ))) (i : ℕ) (path : Bor (List ℕ)) → i < length paths → path ≡ get_or paths i path
    → paths_behind (take (i + 1) paths) ≡ paths_behind (take i paths) ++ path.now ∷ []
more_behind paths i path within is =
    let next : suc i ≡ i + 1 = omega arith in
    let one : take (i + 1) paths ≡ take i paths ++ path ∷ [] = subst (λ n. take n paths ≡ take i paths ++ get_or paths i path ∷ []) next (take-suc paths i path within) ∙ ap (λ p. take i paths ++ p ∷ []) (sym is) in
    ap paths_behind one ∙ map-append (λ p. p.now) (take i paths) (path ∷ [])

pub loop-path-preserved : goal.loop-path-preserved
loop-path-preserved c =
    let i = c.loop-path.path-index in
    let pushed : c.push.new.self.items ≡ c.loop-path.copies.items ++ c.in_ok-copied.field-0 ∷ [] = c.in_ok-push.ensures.items in
    record {
      same = pushed ∙ ap (λ ps. ps ++ c.in_ok-copied.field-0 ∷ []) c.loop-path.invariant.same ∙ ap (λ p. paths_behind (take i c.args.paths.now) ++ p ∷ []) c.in_ok-copied.ensures.same ∙ sym (more_behind c.args.paths.now i c.path-item.result c.loop-path-test.true c.path-item.is);
      short = rw pushed (All-push (λ (path : List ℕ). length path ≤ 10000000) c.loop-path.copies.items c.in_ok-copied.field-0 c.loop-path.invariant.short c.in_ok-copied.ensures.short);
    }

pub unreachable-requires : goal.unreachable-requires
unreachable-requires c =
    let count : length c.loop-path.copies.items ≡ length c.args.paths.now = ap length c.loop-path.invariant.same ∙ length-map (take c.loop-path.path-index c.args.paths.now) (λ p. p.now) ∙ ap length (take_all c.loop-path.path-index c.args.paths.now c.loop-path-test.false) in
    let e : false ≡ true = c.in-None.ensures.size.1 (let f = c.requires.few in omega (arith, f, count)) in cc

pub returns-clause-same : goal.returns-clause-same
returns-clause-same c = c.in-Some.ensures.value ∙ c.loop-path.invariant.same ∙ ap paths_behind (take_all c.loop-path.path-index c.args.paths.now c.loop-path-test.false)
