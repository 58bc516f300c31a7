use Rattle.std.proofs.Common.{◌≡◌, ◌≤◌, ◌+◌, suc, rules, take, length, arith, refl, sym, ap, subst, ◌∙◌}
use Rattle.std.proofs.lemmas.List.Sorted.{IsNonDecreasingBy-from_sort_by_key}
use Rattle.std.proofs.lemmas.Option.{slice_get_read}
use Rattle.std.proofs.Math.Seq.{take-length}
use Rattle.mapf_player.specs.Turns.{AreTurns}
use Rattle.mapf_player.proofs.TurnLemmas.{all_turns-next, all_turns, are_turns, permuted, AreEarly, early_more}
use Rattle.mapf_player.proofs.dispatch.turns_of.Goals as goal

pub overflow_cast-agent : goal.overflow_cast-agent
overflow_cast-agent c = omega (arith, c.requires, c.loop-agent-test.true)

pub loop-agent-preserved : goal.loop-agent-preserved
loop-agent-preserved c =
    let is = slice_get_read c.args.visits.now (length c.args.visits.now) c.loop-agent.agent c.index-visits-agent.result refl c.loop-agent-test.true c.index-visits-agent.is in
    let next = all_turns-next c.loop-agent.turns.items c.loop-agent.agent c.args.visits.now c.index-visits-agent.result c.loop-agent.invariant.same is in
    let more : suc c.loop-agent.agent ≡ c.loop-agent.agent + 1 = omega arith in
    record {
      same = c.in_ok-add_turns.ensures.turns ∙ next ∙ ap (λ n. all_turns 0 (take n c.args.visits.now)) more;
      early = subst (λ n. AreEarly (take n c.args.visits.now)) more (early_more c.args.visits.now c.loop-agent.agent c.index-visits-agent.result c.loop-agent.invariant.early is c.add_turns.ensures.early);
    }

pub returns : goal.returns
returns c =
    let low : c.loop-agent.agent ≤ length c.args.visits.now = c.loop-agent.auto.agent-end in
    let high : length c.args.visits.now ≤ c.loop-agent.agent = c.loop-agent-test.false in
    let end : c.loop-agent.agent ≡ length c.args.visits.now = omega arith in
    let early = subst (λ vs. AreEarly vs) (ap (λ n. take n c.args.visits.now) end ∙ take-length c.args.visits.now) c.loop-agent.invariant.early in
    let turns = c.loop-agent.invariant.same ∙ ap (λ n. all_turns 0 (take n c.args.visits.now)) end ∙ ap (all_turns 0) (take-length c.args.visits.now) in
    record {
      complete = permuted c.args.visits.now c.loop-agent.turns.items c.sort_unstable_by_key.new.self.items (subst (λ ts. AreTurns c.args.visits.now ts) (sym turns) (are_turns c.args.visits.now early)) c.sort_unstable_by_key.ensures.permutation;
      sorted = IsNonDecreasingBy-from_sort_by_key (λ turn. turn.key) _ c.sort_unstable_by_key.ensures.sorted (λ a r q k. search rules);
    }
