use Rattle.std.proofs.Common.{refl, []}
use Rattle.mapf_model.proofs.ItemLemmas.{from_whole, to_whole, none_missing, none_unowed, from_split, to_split, from_leaf, to_leaf, from_clash, to_clash}
use Rattle.mapf_model.proofs.laws.items_are_judged_by_front.Goals as goal

pub returns : goal.returns
returns c problem claim = record {
  whole = λ items. (from_whole problem claim items, to_whole problem claim items);
  over = ([], refl, tt);
  missing = none_missing problem claim;
  unowed = none_unowed problem claim;
  at_split = λ context pending conflict blocks items. (from_split problem claim context pending conflict blocks items, to_split problem claim context pending conflict blocks items);
  at_leaf = λ constraints pending blocks items. (from_leaf problem claim constraints pending blocks items, to_leaf problem claim constraints pending blocks items);
  at_clash = λ constraints pending i j items. (from_clash problem claim constraints pending i j items, to_clash problem claim constraints pending i j items);
}
