use Rattle.std.proofs.Common.{◌≡◌, ◌<◌, ◌++◌, ◌∷◌, [], All, codes, length, length-append, arith, sym, ap, subst, ◌∙◌, inl, ⊎_elim}
use Rattle.std.proofs.lemmas.List.Elements.{All-push}
use Rattle.std.specs.Cmp.Lexicographic.{other_text, same_text}
use Rattle.mapf_fields.proofs.Binds.{pushed, same_ok}
use Rattle.mapf_player.proofs.EventLemmas.{agent_fault, agent_or_end, end_fault, fault_passed, no_fault, rest_at, lines_end_somewhere, finish_read, finish_left, step_read, step_left, shorter}
use Rattle.mapf_player.specs.Events.{HasEventFault, asked_lines}
use Rattle.mapf_player.proofs.events.agents_of.Goals as goal

is_end : (c : goal.Then-eq) → c.in_ok-line.line.now ≡ codes "end"
is_end c = same_text c.in_ok-line.line.now c.as_slice.result.now c.if-eq.ensures ∙ c.as_slice.ensures

pub returns-then-eq-clause-found : goal.returns-then-eq-clause-found
returns-then-eq-clause-found c =
    (c.loop-events.invariant.low, finish_read c.args.bytes.now c.loop-events.rest.now c.in_ok-line.line.now c.in_ok-line.after.now c.loop-events.events.items c.loop-events.invariant.read c.in_ok-line.ensures.found (is_end c))

pub returns-then-eq-clause-only : goal.returns-then-eq-clause-only
returns-then-eq-clause-only c = λ events rest low spelled.
    let (others, split, still) = c.loop-events.invariant.left events rest low spelled in
    inl (finish_left c.args.agents (omega (arith, c.ranges.agents.fits)) c.loop-events.events.items c.loop-events.rest.now c.in_ok-line.line.now c.in_ok-line.after.now events rest others low split still c.in_ok-line.ensures.found (is_end c))

pub returns-in_err-line-clause-only : goal.returns-in_err-line-clause-only
returns-in_err-line-clause-only c = λ events rest low spelled.
    let (others, split, still) = c.loop-events.invariant.left events rest low spelled in
    let is_ok = c.line_at.ensures.only (lines_end_somewhere c.loop-events.rest.now others rest still) in
    absurd (no_fault c.line_at.result c.in_err-line.field-0.0 c.in_err-line.was is_ok)

pub returns-in_err-agent_of-clause-only : goal.returns-in_err-agent_of-clause-only
returns-in_err-agent_of-clause-only c = λ events rest low spelled.
    let (others, split, still) = c.loop-events.invariant.left events rest low spelled in
    ⊎_elim
    (λ (is_end : c.in_ok-line.line.now ≡ codes "end"). absurd (other_text c.in_ok-line.line.now c.as_slice.result.now c.if-eq.ensures (is_end ∙ sym c.as_slice.ensures)))
    (λ asks. let (agent, small, line_is) = asks in let this = c.agent_of.ensures.only agent small line_is in let was = c.in_err-agent_of.was in absurd cc)
    (agent_or_end c.args.agents (omega (arith, c.ranges.agents.fits)) c.loop-events.events.items c.loop-events.rest.now c.in_ok-line.line.now c.in_ok-line.after.now events rest others low split still c.in_ok-line.ensures.found)

pub loop-events-preserved : goal.loop-events-preserved
loop-events-preserved c =
    let found = c.in_ok-line.ensures.found in
    let asked = c.in_ok-agent_of.ensures.found in
    let grown = pushed c.push.result c.loop-events.events.items c.push.new.self.items c.in_ok-agent_of.field-0 c.push.ensures.items c.if-is_err.ensures.value in
    record {
      low = subst (λ xs. All (λ agent. agent < c.args.agents) xs) (sym grown) (All-push (λ agent. agent < c.args.agents) c.loop-events.events.items c.in_ok-agent_of.field-0 c.loop-events.invariant.low asked.1);
      read = step_read c.args.bytes.now c.loop-events.rest.now c.in_ok-line.line.now c.in_ok-line.after.now c.loop-events.events.items c.in_ok-agent_of.field-0 c.loop-events.invariant.read found asked.0
          ∙ ap (λ xs. asked_lines xs ++ c.in_ok-line.after.now) (sym grown);
      left = λ events rest low spelled.
          let (others, split, still) = c.loop-events.invariant.left events rest low spelled in
          let (tail, more, after_is) = step_left c.args.agents (omega (arith, c.ranges.agents.fits)) c.loop-events.events.items c.loop-events.rest.now c.in_ok-line.line.now c.in_ok-line.after.now events rest others low split still found c.in_ok-agent_of.field-0 asked.0 asked.1
          (λ agent small line_is. let this = c.in_ok-agent_of.ensures.only agent small line_is in same_ok c.in_ok-agent_of.field-0 agent this) in
          (tail, more ∙ ap (λ xs. xs ++ tail) (sym grown), after_is);
      number = let number = c.loop-events.invariant.number in omega (arith, ap length grown, length-append c.loop-events.events.items (c.in_ok-agent_of.field-0 ∷ []));
      lines = let less = shorter c.loop-events.rest.now c.in_ok-line.line.now c.in_ok-line.after.now found in let lines = c.loop-events.invariant.lines in omega arith;
    }

pub returns-in_err-line-clause-fault : goal.returns-in_err-line-clause-fault
returns-in_err-line-clause-fault c =
    let text = codes "mapf-events 1\n" ++ c.args.bytes.now in
    let has = rest_at c.args.bytes.now c.loop-events.rest.now c.loop-events.events.items c.args.agents c.loop-events.number c.loop-events.invariant.low c.loop-events.invariant.read c.loop-events.invariant.number in
    fault_passed (HasEventFault text c.args.agents) c.from_residual.result c.in_err-line.field-0.0 c.from_residual.ensures.1
    (end_fault text c.loop-events.rest.now c.args.agents c.loop-events.number c.in_err-line.field-0.0 has c.in_err-line.ensures.fault)

pub returns-in_err-agent_of-clause-fault : goal.returns-in_err-agent_of-clause-fault
returns-in_err-agent_of-clause-fault c =
    let text = codes "mapf-events 1\n" ++ c.args.bytes.now in
    let has = rest_at c.args.bytes.now c.loop-events.rest.now c.loop-events.events.items c.args.agents c.loop-events.number c.loop-events.invariant.low c.loop-events.invariant.read c.loop-events.invariant.number in
    fault_passed (HasEventFault text c.args.agents) c.from_residual-in_err-agent_of.result c.in_err-agent_of.field-0.0 c.from_residual-in_err-agent_of.ensures.1
    (agent_fault text c.loop-events.rest.now c.in_ok-line.line.now c.in_ok-line.after.now c.args.agents c.loop-events.number c.in_err-agent_of.field-0.0 has c.in_ok-line.ensures.found
    (λ is_end. other_text c.in_ok-line.line.now c.as_slice.result.now c.if-eq.ensures (is_end ∙ sym c.as_slice.ensures)) c.in_err-agent_of.ensures.fault)
