use Rattle.std.proofs.Common.{◌↔◌, IsTrue, map, reverse, refl, sym, subst}
use Rattle.mapf_lemmas.specs.Statements.{IsMet}
use Rattle.mapf_cases.specs.Layers.{addition_of}
use Rattle.mapf_cases.specs.Standing.{singles_after, clearings_of}
use Rattle.mapf_cases.proofs.StandingLemmas.{ClearsFor, ClearsFor-other, met_by_single, met_by_clear}
use Rattle.mapf_cases.proofs.standing.Standing.meets.Goals as goal

pub returns-then-meets : goal.returns-then-meets
returns-then-meets c =
    let layers = reverse c.self.inside.layers.items in
    let found = subst (λ k. IsTrue c.meets.result ↔ IsMet (singles_after (map addition_of layers) c.args.agent) k) c.of.ensures (c.meets.ensures (singles_after (map addition_of layers)) c.self.invariant.indexed) in
    rw (← c.self.view_is) (λ _. met_by_single layers c.self.inside.rules c.self.inside.clears c.args.agent c.args.needed.now (found.0 c.if-meets.true), λ _. refl)

pub returns-in-NotAt : goal.returns-in-NotAt
returns-in-NotAt c =
    let layers = reverse c.self.inside.layers.items in
    let found = subst (λ k. IsTrue c.meets.result ↔ IsMet (singles_after (map addition_of layers) c.args.agent) k) c.of.ensures (c.meets.ensures (singles_after (map addition_of layers)) c.self.invariant.indexed) in
    let met = met_by_clear layers c.self.inside.rules c.self.inside.clears c.args.agent c.args.needed.now c.meets.result found c.if-meets.false in
    let clear = subst (λ k. IsTrue c.is_clear.result ↔ ClearsFor (clearings_of (map addition_of layers)) c.args.agent k) (sym c.in-NotAt.is) (c.is_clear.ensures (clearings_of (map addition_of layers)) c.self.invariant.kept) in
    rw (← c.self.view_is) (λ is. met.0 (clear.0 is), λ stands. clear.1 (met.1 stands))

pub returns-in-Clear : goal.returns-in-Clear
returns-in-Clear c =
    let layers = reverse c.self.inside.layers.items in
    let found = subst (λ k. IsTrue c.meets.result ↔ IsMet (singles_after (map addition_of layers) c.args.agent) k) c.of.ensures (c.meets.ensures (singles_after (map addition_of layers)) c.self.invariant.indexed) in
    let met = met_by_clear layers c.self.inside.rules c.self.inside.clears c.args.agent c.args.needed.now c.meets.result found c.if-meets.false in
    let clear = subst (λ k. IsTrue c.is_clear-in-Clear.result ↔ ClearsFor (clearings_of (map addition_of layers)) c.args.agent k) (sym c.in-Clear.is) (c.is_clear-in-Clear.ensures (clearings_of (map addition_of layers)) c.self.invariant.kept) in
    rw (← c.self.view_is) (λ is. met.0 (clear.0 is), λ stands. clear.1 (met.1 stands))

pub returns-in_default : goal.returns-in_default
returns-in_default c =
    let layers = reverse c.self.inside.layers.items in
    let found = subst (λ k. IsTrue c.meets.result ↔ IsMet (singles_after (map addition_of layers) c.args.agent) k) c.of.ensures (c.meets.ensures (singles_after (map addition_of layers)) c.self.invariant.indexed) in
    let met = met_by_clear layers c.self.inside.rules c.self.inside.clears c.args.agent c.args.needed.now c.meets.result found c.if-meets.false in
    rw (← c.self.view_is) (λ none. absurd cc, λ stands. absurd (ClearsFor-other _ c.args.agent c.args.needed.now c.in_default.not-NotAt c.in_default.not-Clear (met.1 stands)))
