use Rattle.std.proofs.Common.{arith}
use Rattle.std.proofs.lemmas.Bool.Decides.{nat_tests}
use Rattle.std.proofs.lemmas.Option.{slice_get_within}
use Rattle.mapf_cases.proofs.scope_agents.ScopeAgents.has.Goals as goal

pub returns-else-agent-len : goal.returns-else-agent-len
returns-else-agent-len c = rw (← c.self.view_is) (
  λ less. absurd (grind (arith, nat_tests)),
  λ held. absurd (omega (arith, slice_get_within c.self.inside.marks.items c.args.agent _ ((c.self.invariant c.args.agent).1 held), c.len.ensures)),
)
