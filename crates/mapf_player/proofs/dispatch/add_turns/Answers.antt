use Rattle.std.proofs.Common.{◌≡◌, ◌+◌, ◌++◌, ◌∷◌, [], suc, take, length, arith, refl, ap, ◌∙◌}
use Rattle.std.proofs.lemmas.Option.{slice_get_read}
use Rattle.mapf_player.specs.Turns.{own_turns}
use Rattle.mapf_player.proofs.TurnLemmas.{own_turns-next}
use Rattle.mapf_player.proofs.dispatch.add_turns.Goals as goal

pub loop-number-preserved : goal.loop-number-preserved
loop-number-preserved c =
    let visits = c.as_slice-visits.result.now in
    let number = c.loop-number.number in
    let is = slice_get_read visits (length visits) number c.index-visits-number.result refl c.loop-number-test.true c.index-visits-number.is in
    let next = own_turns-next c.args.turns.now.items c.loop-number.turns.items c.args.agent number visits c.index-visits-number.result c.loop-number.invariant is in
    let more : suc number ≡ number + 1 = omega arith in
    c.in_ok-push.ensures.items ∙ ap (λ key. c.loop-number.turns.items ++ record { key = key; agent = c.args.agent; number = number } ∷ []) c.key_of.ensures ∙ next
    ∙ ap (λ n. c.args.turns.now.items ++ own_turns c.args.agent 0 (take n visits)) more
