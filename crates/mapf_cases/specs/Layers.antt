-- How what was added is taken away again.
use Rattle.std.specs.Prelude.{List, [], ◌∷◌, map}
use Rattle.mapf_cases.specs.declared.addition.Addition.{Addition}
use Rattle.mapf_cases.specs.declared.addition.Addition.TheVariants.{One as one, Others as others}
use Rattle.mapf_cases.specs.declared.clear_index.ClearIndex.{ClearIndex}
use Rattle.mapf_cases.specs.declared.rule_index.RuleIndex.{RuleIndex}
use Rattle.mapf_cases.specs.declared.standing.Layer.{Layer}
use Rattle.mapf_cases.specs.declared.standing.Layer.TheVariants.{One, Others}
use Rattle.mapf_cases.specs.Clears.{IsEntryOf, Keeps}
use Rattle.mapf_cases.specs.Rules.{CanRemove, Indexes}
use Rattle.mapf_cases.specs.Standing.{singles_after, clearings_of}

-- what the layer added
abbrev pub addition_of : Layer → Addition
addition_of (One own is_new) = one own
addition_of (Others agent cell tick before) = others agent cell tick

-- the layer, above what was added before it, can be taken away
abbrev pub CanTakeAway : List Addition → Layer → Type 0
CanTakeAway before (One own is_new) = CanRemove (singles_after before) own.agent own.constraint is_new
CanTakeAway before (Others agent cell tick kept) = IsEntryOf (clearings_of before) cell kept

-- each layer, the last one first, can be taken away
abbrev pub CanTakeAwayAll : List Layer → Type 0
CanTakeAwayAll [] = Unit {0}
CanTakeAwayAll (layer ∷ layers) = CanTakeAway (map addition_of layers) layer × CanTakeAwayAll layers

-- the indexes have what the layers added, and each layer can be taken away
pub record AreLayers (layers : List Layer) (rules : RuleIndex) (clears : ClearIndex) : Type 0 where
  pub indexed : Indexes (singles_after (map addition_of layers)) rules
  pub kept : Keeps (clearings_of (map addition_of layers)) clears
  pub undone : CanTakeAwayAll layers
