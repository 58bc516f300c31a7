-- The list of all agents.
use native.Mathlib.Omega.{arith}
use Rattle.std.proofs.Common.{◌≡◌, ◌∙◌, ◌+◌, ◌≤◌, ◌++◌, ◌∷◌, [], ℕ, zero, suc, length, ap, get_or}
use Rattle.std.proofs.lemmas.List.FromFn.{get_or-range_with_len, length-range_with_len}
use Rattle.std.specs.List.{range_with_len}
use Rattle.mapf_lemmas.specs.Lemmas.{all_agents}
use Rattle.mapf_lemma_checker.specs.Judges.{AreSpokenOf}
use Rattle.mapf_model.specs.Limits.{most_agents}
use Rattle.mapf_model.specs.Plan.{Instance}

-- one more number after the others
range_on : (a n last : ℕ) → a + n ≡ last → range_with_len a (suc n) ≡ range_with_len a n ++ last ∷ []
range_on a zero last is = ap (λ x. x ∷ []) (omega arith)
range_on a (suc n) last is = ap (λ xs. a ∷ xs) (range_on (a + 1) n last (omega arith))

-- one more agent
pub range_more : (n : ℕ) → range_with_len 0 (n + 1) ≡ range_with_len 0 n ++ n ∷ []
range_more n =
    let on : n + 1 ≡ suc n = omega arith in
    ap (range_with_len 0) on ∙ range_on 0 n n (omega arith)

-- a tree may speak of all agents
pub all_spoken_of : (problem : Instance) → length problem.agents ≤ most_agents → AreSpokenOf problem (all_agents problem)
all_spoken_of problem few =
    let count : length (all_agents problem) ≡ length problem.agents = length-range_with_len 0 (length problem.agents) in (
      λ k d within.
          let is : get_or (all_agents problem) k d ≡ 0 + k = get_or-range_with_len 0 (length problem.agents) k d (omega arith) in
          omega arith,
      omega arith,
    )
