use Rattle.std.proofs.Common.{length}
use Rattle.mapf_model.specs.declared.label.Label.TheVariants.{Never}
use Rattle.mapf_model.proofs.LabelLemmas.{lawful_bound, lawful_rests}
use Rattle.mapf_model.proofs.laws.label_bound.Goals as goal

pub returns-clause-bound : goal.returns-clause-bound
returns-clause-bound c grid agent bars entries path cost label sound is lawful obeys costs =
    lawful_bound grid agent bars entries path cost sound lawful obeys costs.rests label is

pub returns-clause-none : goal.returns-clause-none
returns-clause-none c grid agent bars entries path sound is lawful obeys =
    lawful_bound grid agent bars entries path (length path) sound lawful obeys (lawful_rests grid agent path lawful) Never is
