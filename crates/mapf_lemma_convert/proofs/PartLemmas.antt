-- Parts in range list few values.
use Rattle.std.proofs.Common.{arith}
use Rattle.mapf_lemma_texts.specs.declared.part.Part.{Part}
use Rattle.mapf_lemma_texts.specs.declared.part.Part.TheVariants as parts
use Rattle.mapf_lemma_texts.specs.declared.sizes.LineSizes.{LineSizes}
use Rattle.mapf_lemma_texts.specs.Parts.{IsPart}
use Rattle.mapf_lemma_texts.specs.PartWriting.{HasFewValues}
use Rattle.mapf_lemma_convert.specs.NodeWalk.{PartFits}

pub part_fits : (sizes : LineSizes) (part : Part) → IsPart sizes part → PartFits part
part_fits sizes (parts.One lemma) range = (range.0.1, range.0.2)
part_fits sizes (parts.Prices count) range = tt
part_fits sizes (parts.List list) range = tt
part_fits sizes (parts.Lemmas count) range = tt
part_fits sizes (parts.Two lemma) range = tt
part_fits sizes (parts.Never lemma) range = tt
part_fits sizes (parts.Cases lemma) range = tt
part_fits sizes (parts.Vertex i j cell tick) range = tt
part_fits sizes (parts.Swap i j from to tick) range = tt
part_fits sizes (parts.Cost i ticks) range = tt
part_fits sizes (parts.Costs i ticks j least lemma) range = tt
part_fits sizes (parts.Leaf leaf) range = tt
part_fits sizes (parts.Clash i j) range = tt

pub part_few : (sizes : LineSizes) (part : Part) → IsPart sizes part → HasFewValues part
part_few sizes (parts.One lemma) range = let count = range.0.1 in omega (arith, count)
part_few sizes (parts.Prices count) range = tt
part_few sizes (parts.List list) range = tt
part_few sizes (parts.Lemmas count) range = tt
part_few sizes (parts.Two lemma) range = let count = range.0.2 in omega (arith, count)
part_few sizes (parts.Never lemma) range = tt
part_few sizes (parts.Cases lemma) range =
    let agents = range.0.0.1 in let count = range.0.1 in let few = sizes.few.1 in
    (omega (arith, agents, few), omega (arith, count))
part_few sizes (parts.Vertex i j cell tick) range = tt
part_few sizes (parts.Swap i j from to tick) range = tt
part_few sizes (parts.Cost i ticks) range = tt
part_few sizes (parts.Costs i ticks j least lemma) range = tt
part_few sizes (parts.Leaf leaf) range =
    let uses = range.0.0 in let groups = range.0.1 in let few = sizes.few.1 in
    (omega (arith, uses, few), omega (arith, groups, few), λ k d inside. let weighted = (range.1.1 k d inside).0.0.1 in omega (arith, weighted))
part_few sizes (parts.Clash i j) range = tt
