use Rattle.std.proofs.Common.{◌≡◌, Contains, sym, ap, subst, ◌∙◌}
use Rattle.std.proofs.lemmas.Bool.{iff_false}
use Rattle.mapf_cases.specs.Floors.{AreFloors, floor_at, labels_of}
use Rattle.mapf_cases.specs.Leaves.{IsFirstBadIn, IsLeafList, divided_label, group_worth, label_less}
use Rattle.mapf_cases.specs.Places.{AreGroups, AreSingles, IsFirstBadSingle, place_of, weight_at}
use Rattle.mapf_cases.specs.Totals.{label_total}
use Rattle.mapf_cases.proofs.LeafLemmas.{bad_in_refuted, bad_single_refuted, leaf_decided, number_is, unit_range}
use Rattle.mapf_model.specs.Labels.{label_plus}
use Rattle.mapf_cases.proofs.leaf_judge.judge_with.Goals as goal

pub judge_singles-requires-clause-floors : goal.judge_singles-requires-clause-floors
judge_singles-requires-clause-floors c = λ agent held. c.begin.ensures.floors c.args.leaf.now.known.now agent (subst (λ l. Contains l agent) (sym c.list-agents.ensures) held)

pub returns-in-Err-clause-err : goal.returns-in-Err-clause-err
returns-in-Err-clause-err c scope is shows =
    let leaf = c.args.leaf.now in
    let uses = c.args.uses.now in
    let list = c.list_of-list.result in
    let singles_same : c.deref.result.now ≡ uses.singles = c.deref.ensures.value ∙ ap (λ u. u.singles) c.uses.view_is in
    let is_list = subst (λ n. IsLeafList leaf.list_totals.now n list) (ap (λ u. u.list_number) c.uses.view_is) c.list_of-list.ensures in
    let bad = subst (λ l. IsFirstBadSingle (place_of leaf) list.list_number l c.in-Err.index) singles_same c.in-Err.ensures.bad in
    bad_single_refuted leaf scope is uses c.args.target c.in-Err.index
    (subst (λ n. IsFirstBadSingle (place_of leaf) n uses.singles c.in-Err.index) (number_is leaf.list_totals.now uses.list_number list is_list) bad) shows

pub judge_groups-requires-clause-unit : goal.judge_groups-requires-clause-unit
judge_groups-requires-clause-unit c = (unit_range c.args.leaf.now.list_totals.now c.uses.inside.list_number c.list_of-list.result c.requires.leaf.units c.list_of-list.ensures).1

pub judge_groups-requires-clause-loads : goal.judge_groups-requires-clause-loads
judge_groups-requires-clause-loads c = λ agent held.
    c.begin-2.ensures.none (weight_at c.args.leaf.now.known.now c.deref-2.result.now) 0 agent (subst (λ l. Contains l agent) (sym c.list-agents.ensures) held)

pub bound_of-bound-requires-clause-positive : goal.bound_of-bound-requires-clause-positive
bound_of-bound-requires-clause-positive c = (unit_range c.args.leaf.now.list_totals.now c.uses.inside.list_number c.list_of-list.result c.requires.leaf.units c.list_of-list.ensures).0

pub returns-then-is_at_most-clause-ok : goal.returns-then-is_at_most-clause-ok
returns-then-is_at_most-clause-ok c scope is =
    let leaf = c.args.leaf.now in
    let uses = c.args.uses.now in
    let list = c.list_of-list.result in
    let floors = c.judge_singles.new.floors in
    let amounts = floors.amounts.items in
    let singles_same : c.deref.result.now ≡ uses.singles = c.deref.ensures.value ∙ ap (λ u. u.singles) c.uses.view_is in
    let groups_same : c.deref-2.result.now ≡ uses.groups = c.deref-2.ensures.value ∙ ap (λ u. u.groups) c.uses.view_is in
    let is_list = subst (λ n. IsLeafList leaf.list_totals.now n list) (ap (λ u. u.list_number) c.uses.view_is) c.list_of-list.ensures in
    let number = number_is leaf.list_totals.now uses.list_number list is_list in
    let singles = subst (λ n. AreSingles (place_of leaf) n uses.singles) number (subst (AreSingles (place_of leaf) list.list_number) singles_same c.in_default.ensures.singles) in
    let groups = subst (λ n. AreGroups (place_of leaf) n uses.groups) number (subst (AreGroups (place_of leaf) list.list_number) groups_same c.in-Ok.ensures.ok) in
    let are_floors = subst (λ l. AreFloors leaf.known.now list.unit leaf.start_distances.now l leaf.agents.now floors) singles_same c.in_default.ensures.floors in
    let total : c.total.result ≡ label_total (floor_at amounts) leaf.agents.now = c.total.ensures.sum ∙ ap (label_total (floor_at amounts)) c.list-agents.ensures in
    let added : c.in-Ok.added ≡ label_total (group_worth (labels_of leaf.known.now list.unit amounts)) uses.groups = c.in-Ok.ensures.worth ∙ ap (label_total (group_worth (labels_of leaf.known.now list.unit amounts))) groups_same in
    let sum = c.plus.ensures ∙ ap (λ f. label_plus f c.in-Ok.added) total ∙ ap (label_plus (label_total (floor_at amounts) leaf.agents.now)) added in
    let bound = c.bound_of-bound.ensures ∙ ap (λ s. divided_label (label_less s list.total) list.unit) sum in
    (leaf_decided leaf scope is uses c.lemmas_are_decided.ensures.leaf list floors c.args.target c.bound_of-bound.result is_list c.requires.leaf.units c.requires.uses.groups c.requires.leaf.agents singles groups are_floors bound).0
    (c.is_at_most.ensures.0 c.if-is_at_most.true)

pub returns-else-is_at_most-clause-err : goal.returns-else-is_at_most-clause-err
returns-else-is_at_most-clause-err c scope is shows =
    let leaf = c.args.leaf.now in
    let uses = c.args.uses.now in
    let list = c.list_of-list.result in
    let floors = c.judge_singles.new.floors in
    let amounts = floors.amounts.items in
    let singles_same : c.deref.result.now ≡ uses.singles = c.deref.ensures.value ∙ ap (λ u. u.singles) c.uses.view_is in
    let groups_same : c.deref-2.result.now ≡ uses.groups = c.deref-2.ensures.value ∙ ap (λ u. u.groups) c.uses.view_is in
    let is_list = subst (λ n. IsLeafList leaf.list_totals.now n list) (ap (λ u. u.list_number) c.uses.view_is) c.list_of-list.ensures in
    let number = number_is leaf.list_totals.now uses.list_number list is_list in
    let singles = subst (λ n. AreSingles (place_of leaf) n uses.singles) number (subst (AreSingles (place_of leaf) list.list_number) singles_same c.in_default.ensures.singles) in
    let groups = subst (λ n. AreGroups (place_of leaf) n uses.groups) number (subst (AreGroups (place_of leaf) list.list_number) groups_same c.in-Ok.ensures.ok) in
    let are_floors = subst (λ l. AreFloors leaf.known.now list.unit leaf.start_distances.now l leaf.agents.now floors) singles_same c.in_default.ensures.floors in
    let total : c.total.result ≡ label_total (floor_at amounts) leaf.agents.now = c.total.ensures.sum ∙ ap (label_total (floor_at amounts)) c.list-agents.ensures in
    let added : c.in-Ok.added ≡ label_total (group_worth (labels_of leaf.known.now list.unit amounts)) uses.groups = c.in-Ok.ensures.worth ∙ ap (label_total (group_worth (labels_of leaf.known.now list.unit amounts))) groups_same in
    let sum = c.plus.ensures ∙ ap (λ f. label_plus f c.in-Ok.added) total ∙ ap (label_plus (label_total (floor_at amounts) leaf.agents.now)) added in
    let bound = c.bound_of-bound.ensures ∙ ap (λ s. divided_label (label_less s list.total) list.unit) sum in
    iff_false c.is_at_most.ensures c.if-is_at_most.false
    ((leaf_decided leaf scope is uses c.lemmas_are_decided.ensures.leaf list floors c.args.target c.bound_of-bound.result is_list c.requires.leaf.units c.requires.uses.groups c.requires.leaf.agents singles groups are_floors bound).1 shows)

pub returns-in-Err-judge_groups-clause-err : goal.returns-in-Err-judge_groups-clause-err
returns-in-Err-judge_groups-clause-err c scope is shows =
    let leaf = c.args.leaf.now in
    let uses = c.args.uses.now in
    let list = c.list_of-list.result in
    let place = c.in-Err-judge_groups.place in
    let groups_same : c.deref-2.result.now ≡ uses.groups = c.deref-2.ensures.value ∙ ap (λ u. u.groups) c.uses.view_is in
    let is_list = subst (λ n. IsLeafList leaf.list_totals.now n list) (ap (λ u. u.list_number) c.uses.view_is) c.list_of-list.ensures in
    let bad = subst (λ l. IsFirstBadIn (place_of leaf) list.list_number l place) groups_same c.in-Err-judge_groups.ensures.bad in
    bad_in_refuted leaf scope is uses c.args.target place
    (subst (λ n. IsFirstBadIn (place_of leaf) n uses.groups place) (number_is leaf.list_totals.now uses.list_number list is_list) bad) shows
