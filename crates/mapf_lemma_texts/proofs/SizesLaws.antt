-- Sizes with the same numbers are the same.
use Rattle.std.proofs.Common.{◌≡◌, ℕ, ◌≤◌, ap, subst, ◌∙◌}
use Rattle.std.proofs.Math.Bridge.{le_prop}
use Rattle.mapf_lemma_texts.specs.declared.sizes.LineSizes.{LineSizes}
use Rattle.mapf_lemma_texts.specs.Ranges.{most_listed}

abbrev sizes_of : (w h a l : ℕ) → (1 ≤ w) × (w ≤ 2048) → (1 ≤ h) × (h ≤ 2048) → (1 ≤ a) × (a ≤ 200) → l ≤ most_listed → LineSizes
sizes_of w h a l p q r s = record { width = w; height = h; agents = a; lists = l; narrow = p; low = q; few = r; listed = s }

few_one : (n : ℕ) (most : ℕ) → IsProp ((1 ≤ n) × (n ≤ most))
few_one n most = hlevel (le_prop)

most_one : (l most : ℕ) → IsProp (l ≤ most)
most_one l most = le_prop

pub same_sizes : (a b : LineSizes) → a.width ≡ b.width → a.height ≡ b.height → a.agents ≡ b.agents → a.lists ≡ b.lists → a ≡ b
same_sizes a b e f g i =
    subst (λ (w : ℕ). (p : (1 ≤ w) × (w ≤ 2048)) → a ≡ sizes_of w b.height b.agents b.lists p b.low b.few b.listed) e
    (λ p. subst (λ (h : ℕ). (q : (1 ≤ h) × (h ≤ 2048)) → a ≡ sizes_of a.width h b.agents b.lists p q b.few b.listed) f
    (λ q. subst (λ (k : ℕ). (r : (1 ≤ k) × (k ≤ 200)) → a ≡ sizes_of a.width a.height k b.lists p q r b.listed) g
    (λ r. subst (λ (l : ℕ). (s : l ≤ most_listed) → a ≡ sizes_of a.width a.height a.agents l p q r s) i
    (λ s. ap (λ t. sizes_of a.width a.height a.agents a.lists t a.low a.few a.listed) (few_one a.width 2048 a.narrow p)
    ∙ ap (λ t. sizes_of a.width a.height a.agents a.lists p t a.few a.listed) (few_one a.height 2048 a.low q)
    ∙ ap (λ t. sizes_of a.width a.height a.agents a.lists p q t a.listed) (few_one a.agents 200 a.few r)
    ∙ ap (λ t. sizes_of a.width a.height a.agents a.lists p q r t) (most_one a.lists most_listed a.listed s)) b.listed) b.few) b.low) b.narrow
