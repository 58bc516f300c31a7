-- The entries of starts while changes are made and undone.
use Rattle.std.proofs.Common.{◌≡◌, ◌≢◌, ◌⊎◌, ℕ, List, [], ◌∷◌, Option, Some, slice_get, sym, ◌∙◌, subst, inl, inr, ⊎_elim}
use Rattle.std.proofs.lemmas.Bool.{cases_eq, ne_eqb}
use Rattle.std.proofs.lemmas.Option.{same_Some}
use Rattle.mapf_model.specs.declared.label.Label.{Label}
use Rattle.mapf_model.specs.Labels.{Entries}
use Rattle.mapf_checker.specs.declared.starts.StartChange.{StartChange}
use Rattle.mapf_checker.specs.Starts.{IsKept, AreKept, with_changes}

-- each kept entry is the one before the changes, or after those that are still there
abbrev pub AreBetween : List StartChange → (ℕ → Entries) → List (Option Label) → Type 0
AreBetween changes entries kept = (agent : ℕ) (entry : Option Label) → slice_get kept agent ≡ Some entry → IsKept entries agent entry ⊎ IsKept (with_changes changes entries) agent entry

pub between_none : (entries : ℕ → Entries) (kept : List (Option Label)) → AreBetween [] entries kept → AreKept entries kept
between_none entries kept are agent entry is = ⊎_elim (λ (p : IsKept entries agent entry). p) (λ (p : IsKept (with_changes [] entries) agent entry). p) (are agent entry is)

-- an entry was set to what it was before the first change
pub one_undone : (old new : List (Option Label)) (change : StartChange) (changes : List StartChange) (entries : ℕ → Entries) → slice_get new change.agent ≡ Some change.before →
    ((i : ℕ) → i ≢ change.agent → slice_get new i ≡ slice_get old i) → IsKept entries change.agent change.before → AreBetween (change ∷ changes) entries old → AreBetween changes entries new
one_undone old new change changes entries here others known are agent entry is = ⊎_elim
    (λ (same : agent ≡ change.agent). inl (λ cell tick. subst (λ i. entries i cell tick ≡ entry) (sym same) (known cell tick ∙ same_Some change.before entry (sym here ∙ subst (λ i. slice_get new i ≡ Some entry) same is))))
    (λ (other : agent ≢ change.agent). ⊎_elim
    (λ (p : IsKept entries agent entry). inl p)
    (λ (p : IsKept (with_changes (change ∷ changes) entries) agent entry). inr (rw (ne_eqb change.agent agent (λ e. other (sym e))) at p))
    (are agent entry (sym (others agent other) ∙ is)))
    (cases_eq agent change.agent)
