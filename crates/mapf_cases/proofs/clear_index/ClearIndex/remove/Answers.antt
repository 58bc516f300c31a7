use Rattle.std.proofs.Common.{IsSome, refl, sym, subst}
use Rattle.std.specs.BTreeMap.{UpdatesBy}
use Rattle.mapf_cases.proofs.ClearLemmas.{cell_cmp, removed, something_kept}
use Rattle.mapf_cases.proofs.clear_index.ClearIndex.remove.Goals as goal

pub returns-in-Some-get_mut : goal.returns-in-Some-get_mut
returns-in-Some-get_mut c clears keeps entry =
    let updates = (c.get_mut.follows.holds c.in-Some.earliest).3 (subst (λ o. IsSome o) c.in-Some-get_mut.ensures.value refl) in
    removed clears c.args.agent c.args.cell c.args.tick c.args.self.now (record { earliest = c.get_mut.follows.lender c.in-Some.earliest }) c.args.before keeps entry
    (subst (λ o. UpdatesBy cell_cmp (cell_cmp c.args.cell) c.args.self.now.earliest (c.get_mut.follows.lender c.in-Some.earliest) o) (sym c.in-Some.is) updates)

pub returns-in_default : goal.returns-in_default
returns-in_default c clears keeps entry =
    absurd (something_kept clears c.args.agent c.args.cell c.args.tick c.args.self.now keeps (sym c.in_default.ensures.value))

pub returns-in-None : goal.returns-in-None
returns-in-None c clears keeps entry =
    removed clears c.args.agent c.args.cell c.args.tick c.args.self.now (record { earliest = c.remove.new.self }) c.args.before keeps entry
    (subst (λ o. UpdatesBy cell_cmp (cell_cmp c.args.cell) c.args.self.now.earliest c.remove.new.self o) (sym c.in-None.is) c.remove.ensures.updates)
