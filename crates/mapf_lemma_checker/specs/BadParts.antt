-- Certificates of version 3 with a part that doesn't show what it has to show.
use Rattle.std.specs.Prelude.{◌≡◌, ℕ, List, [], ◌∷◌, ◌++◌, Some, length}
use Rattle.mapf_lemmas.specs.Lemmas.{target_of}
use Rattle.mapf_lemma_checker.specs.Answers.{FitsAnswer}
use Rattle.mapf_lemma_checker.specs.States.{JudgeState, ShowsPart, first_state}
use Rattle.mapf_lemma_texts.specs.Due.{Admits, due_after}
use Rattle.mapf_lemma_texts.specs.PartReading.{AreFirstSizes, AreSizesAfter, PartReading, header_text}
use Rattle.mapf_lemma_texts.specs.Parts.{IsPart, first_line, part_text}
use Rattle.mapf_lemma_texts.specs.Ranges.{IsOneTo}
use Rattle.mapf_lemma_texts.specs.declared.due.Due.{Due}
use Rattle.mapf_lemma_texts.specs.declared.due.Due.TheVariants as dues
use Rattle.mapf_lemma_texts.specs.declared.part.Part.{Part}
use Rattle.mapf_lemma_texts.specs.declared.sizes.LineSizes.{LineSizes}
use Rattle.mapf_model.specs.declared.item.Claim.{Claim}
use Rattle.mapf_model.specs.declared.label.Label.{Label}
use Rattle.mapf_model.specs.Limits.{most_agents}
use Rattle.mapf_model.specs.Plan.{Instance}
use Rattle.mapf_model.specs.Printed.{IsClaimInRange}

-- the bytes begin with a header of version 3 whose numbers are in their ranges
pub record BeginsWithLemmaHeader (problem : Instance) (bytes : List ℕ) (agents : ℕ) (claim : Claim) : Type 0 where
  pub agents_in_range : IsOneTo most_agents agents
  pub claim_in_range : IsClaimInRange claim
  pub rest : List ℕ
  pub spelled : bytes ≡ header_text problem.grid.width agents claim ++ rest

-- where this part is due after this state, the bytes begin with these parts, which show what they have to show, and one
-- more, which doesn't: each in its place, with its numbers in their ranges and its lists in their orders
abbrev pub BeginBadly : Instance → Label → LineSizes → Due → JudgeState → List Part → Part → List ℕ → Type 0
BeginBadly problem target sizes due state [] bad bytes =
    IsPart sizes bad × Admits due (first_line bad) × ((next : JudgeState) → ShowsPart problem target state bad next → ⊥)
    × (rest : List ℕ) × (bytes ≡ part_text sizes.width bad ++ rest)
BeginBadly problem target sizes due state (part ∷ parts) bad bytes =
    IsPart sizes part × Admits due (first_line part) × (later : LineSizes) × AreSizesAfter sizes part later
    × (next : JudgeState) × ShowsPart problem target state part next
    × (after : List ℕ) × (bytes ≡ part_text sizes.width part ++ after)
    × BeginBadly problem target later (due_after due part) next parts bad after

-- the bytes from the reader's place on begin with parts of which the last doesn't show what it has to show after this
-- state
pub record HasBadPart (problem : Instance) (target : Label) (reading : PartReading) (state : JudgeState)
    (bytes : List ℕ) : Type 0 where
  pub sizes : LineSizes
  pub claim : Claim
  pub header : reading.header ≡ Some (sizes, claim)
  pub parts : List Part
  pub bad : Part
  pub begin : BeginBadly problem target sizes reading.due state parts bad bytes

-- the bytes begin with a header for the problem, whose claim fits the answer, and with parts of which the last doesn't
-- show what it has to show
pub record HasBadPartInCert (problem : Instance) (answer : Claim) (bytes : List ℕ) : Type 0 where
  pub claim : Claim
  pub fits : FitsAnswer answer claim
  pub header : BeginsWithLemmaHeader problem bytes (length problem.agents) claim
  pub sizes : LineSizes
  pub first_sizes : AreFirstSizes problem.grid.width problem.grid.height (length problem.agents) sizes
  pub parts : List Part
  pub bad : Part
  pub begin : BeginBadly problem (target_of claim) sizes dues.Prices first_state parts bad header.rest
