use Rattle.std.proofs.Common.{Contains, take, sym, ◌∙◌, ⊎_elim}
use Rattle.std.proofs.lemmas.List.Elements.{Contains-append_cases, Contains-append_right}
use Rattle.mapf_spacetime.specs.States.{same_state}
use Rattle.indexmap.proofs.CallerLemmas.{Contains-list_any}
use Rattle.mapf_spacetime.proofs.SetLemmas.{Contains-any, same_state-exact}
use Rattle.mapf_spacetime.proofs.state_set.StateSet.holds.Goals as goal

pub returns-then-self-eq-FEW : goal.returns-then-self-eq-FEW
returns-then-self-eq-FEW c =
    let few = take c.self.inside.count c.self.inside.few in
    let more = c.self.inside.more.keys in
    let state = c.args.state.now in
    rw (← c.self.view_is) (
      (λ yes. Contains-append_right few more state (Contains-list_any same_state same_state-exact more state (sym c.contains.ensures ∙ yes))),
      (λ held. ⊎_elim
          (λ (first : Contains few state). let yes = c.is_among.ensures.1 first in let no = c.if-is_among.false in absurd cc)
          (λ (later : Contains more state). c.contains.ensures ∙ Contains-any more state later)
          (Contains-append_cases few more state held)),
    )
