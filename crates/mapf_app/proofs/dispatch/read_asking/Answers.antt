use Rattle.std.proofs.Common.{⊎_elim, sym, subst}
use Rattle.mapf_app.proofs.DispatchLemmas.{events_fault_told, memory_is_input, only_memory}
use Rattle.mapf_app.proofs.InputLemmas.{read_as, text_is}
use Rattle.mapf_app.specs.Faults.{IsOfInput, IsReadingEvents}
use Rattle.mapf_player.specs.Events.{SpellsEvents}
use Rattle.mapf_app.proofs.dispatch.read_asking.Goals as goal

pub returns-in-Ok-clause-only : goal.returns-in-Ok-clause-only
returns-in-Ok-clause-only g c = λ text agents told spells.
    let events = g.E.Source.remaining c.args.events.now in
    let same = text_is events c.as_slice.result.now text (read_as events c.as_slice.ensures.value c.in_ok-text.ensures.whole) told in
    (⊎_elim (λ read. read) (λ e. cc) (c.in-Ok.ensures.only agents (subst (λ bytes. SpellsEvents bytes c.args.k agents) (sym same) spells)), tt)

pub returns-clause-only : goal.returns-clause-only
returns-clause-only g c = λ text agents told spells.
    let events = g.E.Source.remaining c.args.events.now in
    let same = text_is events c.as_slice.result.now text (read_as events c.as_slice.ensures.value c.in_ok-text.ensures.whole) told in
    let memory = only_memory c.in-Err.fault (c.in-Err.ensures.only agents (subst (λ bytes. SpellsEvents bytes c.args.k agents) (sym same) spells)) in
    (tt, subst IsOfInput (sym c.fault_of_events.ensures) (memory_is_input c.in-Err.fault memory))

pub returns-clause-fault : goal.returns-clause-fault
returns-clause-fault g c =
    let events = g.E.Source.remaining c.args.events.now in
    let same = read_as events c.as_slice.ensures.value c.in_ok-text.ensures.whole in
    subst (IsReadingEvents events c.args.k) (sym c.fault_of_events.ensures)
    (events_fault_told events c.args.k c.as_slice.result.now same c.in-Err.fault (λ agents spells. only_memory c.in-Err.fault (c.in-Err.ensures.only agents spells)) c.in-Err.ensures.fault)
