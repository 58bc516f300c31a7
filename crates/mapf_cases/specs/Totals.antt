-- Sums of labels over a list.
use Rattle.std.specs.Prelude.{List, fold}
use Rattle.mapf_model.specs.declared.label.Label.{Label}
use Rattle.mapf_model.specs.declared.label.Label.TheVariants.{Ticks}
use Rattle.mapf_model.specs.Labels.{label_plus}

-- the sum of the labels of the elements, infinite exactly if one of them is
abbrev pub label_total : {X : Type 0} → (X → Label) → List X → Label
label_total label xs = fold (λ total x. label_plus total (label x)) (Ticks 0) xs
