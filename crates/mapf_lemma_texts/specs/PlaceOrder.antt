-- The order of places is transitive.
use Rattle.std.specs.Prelude.{◌≡◌, ◌<◌, ◌⊎◌, ℕ}
use Rattle.std.proofs.Common.{arith, inl, inr}
use Rattle.mapf_lemma_texts.specs.declared.place.Place.{Place}
use Rattle.mapf_lemma_texts.specs.Places.{IsBefore}

-- by one number, and then by what else decides
lesser_trans : (a b c : ℕ) (P Q R : Type 0) → (P → Q → R) → (a < b) ⊎ ((a ≡ b) × P) → (b < c) ⊎ ((b ≡ c) × Q) →
    (a < c) ⊎ ((a ≡ c) × R)
lesser_trans a b c P Q R trans (inl p) (inl q) = inl (omega (arith, p, q))
lesser_trans a b c P Q R trans (inl p) (inr q) = inl (omega (arith, p, q.0))
lesser_trans a b c P Q R trans (inr p) (inl q) = inl (omega (arith, p.0, q))
lesser_trans a b c P Q R trans (inr p) (inr q) = inr (omega (arith, p.0, q.0), trans p.1 q.1)

-- a place before one that is before another is before it
pub before_trans : (a b c : Place) → IsBefore a b → IsBefore b c → IsBefore a c
before_trans a b c =
    lesser_trans a.tick b.tick c.tick _ _ _ (lesser_trans a.rank b.rank c.rank _ _ _
    (lesser_trans a.first b.first c.first _ _ _ (λ p q. omega (arith, p, q))))
