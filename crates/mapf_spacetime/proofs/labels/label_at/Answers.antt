use Rattle.std.proofs.Common.{sym, ap, option_map}
use Rattle.mapf_model.specs.declared.label.Entry.{Entry}
use Rattle.mapf_spacetime.proofs.LabelLemmas.{listed_label, distance_label, never_label}
use Rattle.mapf_spacetime.proofs.labels.label_at.Goals as goal

pub returns-in-Some : goal.returns-in-Some
returns-in-Some c =
    let found = rw c.entries.ensures at c.in-Some.ensures in
    listed_label c.args.distances.now.grid c.args.distances.now.goal c.args.labels.now c.args.cell c.args.tick c.in-Some.entry.label (ap (option_map (λ (entry : Entry). entry.label)) (sym found))

pub returns-in-Some-get : goal.returns-in-Some-get
returns-in-Some-get c =
    let found = rw c.entries.ensures at c.in-None.ensures in
    distance_label c.args.distances.now.grid c.args.distances.now.goal c.args.labels.now c.args.cell c.args.tick c.in-Some-get.distance (ap (option_map (λ (entry : Entry). entry.label)) (sym found)) c.in-Some-get.ensures.some

pub returns-in-None-get : goal.returns-in-None-get
returns-in-None-get c =
    let found = rw c.entries.ensures at c.in-None.ensures in
    never_label c.args.distances.now.grid c.args.distances.now.goal c.args.labels.now c.args.cell c.args.tick (ap (option_map (λ (entry : Entry). entry.label)) (sym found)) c.in-None-get.ensures.none
