use Rattle.std.proofs.Common.{◌≡◌, ◌+◌, ◌++◌, ◌∷◌, [], suc, take, length, arith, refl, sym, subst}
use Rattle.std.proofs.lemmas.Option.{slice_get_read}
use Rattle.mapf_player.specs.Visits.{AreVisitsOfAll}
use Rattle.mapf_player.proofs.VisitLemmas.{all_more}
use Rattle.mapf_player.proofs.dispatch.visits_of.Goals as goal

pub loop-path-preserved : goal.loop-path-preserved
loop-path-preserved c =
    let paths = c.paths-path-items.result.now in
    let n = c.loop-path.path-index in
    let is = slice_get_read paths (length paths) n c.path-item.result refl c.loop-path-test.true c.path-item.is in
    let more : suc n ≡ n + 1 = omega arith in
    subst (λ vs. AreVisitsOfAll (take (n + 1) paths) vs) (sym c.in_ok-push.ensures.items)
    (subst (λ k. AreVisitsOfAll (take k paths) (c.loop-path.visits.items ++ c.in_ok-of.field-0 ∷ [])) more
    (all_more paths c.loop-path.visits.items n c.path-item.result c.in_ok-of.field-0 c.loop-path.invariant is c.in_ok-of.ensures))
