use Rattle.std.proofs.Common.{ℕ, ◌+◌, ◌*◌, ◌≤◌, ◌<◌, length, take, get_or, refl, subst, inl, inr, ⊎_elim, arith}
use Rattle.std.proofs.lemmas.List.{take_all}
use Rattle.std.proofs.lemmas.List.Elements.{Contains-get_or}
use Rattle.mapf_lemmas.specs.Groups.{occurrences}
use Rattle.mapf_cases.specs.Loads.{AreLoads, HaveLoads}
use Rattle.mapf_cases.proofs.LoadLemmas.{loads_more, once, occurrences_more, refused, same_loads, weight_within}
use Rattle.mapf_cases.proofs.loads.Loads.add.Goals as goal

pub returns-then-not-add_agent-clause-over : goal.returns-then-not-add_agent-clause-over
returns-then-not-add_agent-clause-over c is_false scope earlier present are inside =
    let agents = c.args.agents.now in
    let i = c.loop-agent.agent-index in
    let weight = c.args.weight in
    let divisor = c.args.divisor in
    let b : ℕ = get_or agents i 0 in
    let lt : i < length agents = c.loop-agent-test.true in
    let now = c.loop-agent.invariant.loads scope earlier present are in
    let why = refused scope earlier c.args.group (λ a. present a + weight * occurrences a (take i agents)) divisor c.loop-agent.self now b weight (inside i 0 lt) (c.add_agent.ensures.over c.if-not-add_agent.true) in
    let all = weight_within (present b) weight b agents i lt refl in (
      b,
      Contains-get_or agents i 0 lt,
      ⊎_elim
          (λ (taken : (k : ℕ) × (k < c.args.group) × (1 ≤ earlier k b)). inl taken)
          (λ (over : divisor < (present b + weight * occurrences b (take i agents)) + weight). inr (omega (arith, over, all)))
          why,
    )

pub loop-agent-preserved : goal.loop-agent-preserved
loop-agent-preserved c =
    let agents = c.args.agents.now in
    let i = c.loop-agent.agent-index in
    let weight = c.args.weight in
    let divisor = c.args.divisor in
    let group = c.args.group in
    let old = c.loop-agent.self in
    let new = c.add_agent.new.self in
    let b : ℕ = get_or agents i 0 in
    let lt : i < length agents = c.loop-agent-test.true in
    let have = c.loop-agent.invariant.have in
    let in_range : b < length c.args.self.now.marks.items = c.requires.agents i 0 lt in
    let marks = have.marks in
    let weights = have.weights in
    record {
      have = subst (λ n. HaveLoads n new) marks c.add_agent.ensures.loads;
      loads = λ scope earlier present are.
          same_loads scope earlier group (λ a. (present a + weight * occurrences a (take i agents)) + weight * once b a) (λ a. present a + weight * occurrences a (take (i + 1) agents)) divisor new
          (λ a. occurrences_more (present a) weight a agents i lt)
          (loads_more scope earlier group (λ a. present a + weight * occurrences a (take i agents)) divisor old (c.loop-agent.invariant.loads scope earlier present are) new b weight
          (c.add_agent.ensures.added c.if-not-add_agent.false) c.requires.some (omega (arith, in_range, marks)) (omega (arith, in_range, weights)));
    }

pub returns-clause-added : goal.returns-clause-added
returns-clause-added c is_true scope earlier present are inside =
    subst (λ l. AreLoads scope earlier c.args.group (λ a. present a + c.args.weight * occurrences a l) c.args.divisor c.loop-agent.self) (take_all c.loop-agent.agent-index c.args.agents.now c.loop-agent-test.false)
    (c.loop-agent.invariant.loads scope earlier present are)
