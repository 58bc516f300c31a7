use Rattle.std.proofs.Common.{refl, sym, subst, ◌∙◌}
use Rattle.std.proofs.lemmas.Bool.{iff_false}
use Rattle.std.proofs.lemmas.Option.{same_Some, slice_get_read}
use Rattle.mapf_cases.specs.Places.{IsUsable, place_of}
use Rattle.mapf_cases.proofs.FloorLemmas.{any_scope}
use Rattle.mapf_cases.proofs.known.usable.Goals as goal
use Rattle.mapf_cases.proofs.known.usable.Goals.{else-fits_list-via-then-fits_list+else-may_be_used, else-fits_list-via-else-fits_list}

pub returns-then-may_be_used-clause-some : goal.returns-then-may_be_used-clause-some
returns-then-may_be_used-clause-some c =
    let leaf = c.args.leaf.now in
    let found = c.in_ok-statement.ensures.lookup in
    let may = (c.may_be_used.ensures (any_scope leaf.known.now leaf.agents.now) refl).0 c.if-may_be_used.true in
    record {
      named = slice_get_read leaf.known.now _ c.args.lemma c.in_ok-statement.statement.now refl found.3.0 found.1;
      inside = may.inside;
      met = may.met;
      fits = c.fits_list.ensures.0 c.if-fits_list.true;
    }

pub returns-else-fits_list-clause-none : goal.returns-else-fits_list-clause-none
returns-else-fits_list-clause-none c (statement, is) =
    let leaf = c.args.leaf.now in
    let found = c.in_ok-statement.ensures.lookup in
    let named = slice_get_read leaf.known.now _ c.args.lemma c.in_ok-statement.statement.now refl found.3.0 found.1 in
    let same = same_Some statement c.in_ok-statement.statement.now (sym is.named ∙ named) in
    let usable = subst (IsUsable (place_of leaf) c.args.list_number c.args.lemma) same is in
    elim c.else-fits_list.branch [
      | else-fits_list-via-then-fits_list+else-may_be_used w ↦ iff_false (w.may_be_used.ensures (any_scope leaf.known.now leaf.agents.now) refl) w.if-may_be_used.false (record { inside = usable.inside; met = usable.met })
      | else-fits_list-via-else-fits_list w ↦ iff_false c.fits_list.ensures w.if-fits_list.false usable.fits
    ]
