use Rattle.std.proofs.Common.{None, sym, ◌∙◌, arith, rules}
use Rattle.std.proofs.lemmas.List.{get_or-replicate}
use Rattle.std.proofs.lemmas.Option.{slice_get_within, get_or_from_slice_get}
use Rattle.mapf_checker.proofs.starts.Starts.new.Goals as goal

pub returns-clause-none : goal.returns-clause-none
returns-clause-none c agent entry is cell tick =
    let all = c.in_ok-vec.ensures.items_if_clones_equal (λ y h. search rules) in
    let within = slice_get_within c.in_ok-vec.field-0.items agent entry is in
    let none = get_or-replicate c.args.agents agent None None (omega (arith, c.in_ok-vec.ensures.len)) in
    sym none ∙ (rw all at (get_or_from_slice_get c.in_ok-vec.field-0.items agent entry None is))
