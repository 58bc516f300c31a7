use Rattle.std.proofs.Common.{All, take}
use Rattle.mapf_lemmas.specs.Prices.{IsPriceOn}
use Rattle.mapf_lemma_checker.proofs.price_lists.judge_prices.Given as goal

abbrev pub invariant-loop-k : goal.invariant-loop-k
invariant-loop-k l = All (IsPriceOn l.grid) (take l.k l.prices)
