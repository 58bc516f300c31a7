-- Lists of a few elements, and what lists of a few lemmas show.
use Rattle.std.proofs.Common.{◌≡◌, ℕ, zero, suc, List, [], ◌∷◌, Some, All, take, slice_get, refl, subst, arith}
use Rattle.std.proofs.lemmas.Option.{same_Some}
use Rattle.mapf_lemmas.specs.Lemmas.{Lemma, LemmaShows, LemmasShow}
use Rattle.mapf_lemmas.specs.Prices.{PriceList}
use Rattle.mapf_lemmas.specs.Statements.{Statement}
use Rattle.mapf_model.specs.Plan.{Instance}

pub all_of_one : {X : Type 0} (P : X → Type 0) (x : X) → P x → All P (x ∷ [])
all_of_one P x holds zero d within = holds
all_of_one P x holds (suc k) d within = absurd (omega arith)

pub all_of_two : {X : Type 0} (P : X → Type 0) (x y : X) → P x → P y → All P (x ∷ y ∷ [])
all_of_two P x y holds also zero d within = holds
all_of_two P x y holds also (suc zero) d within = also
all_of_two P x y holds also (suc (suc k)) d within = absurd (omega arith)

-- lists of one lemma, of two and of three
module _ (problem : Instance) (lists : List PriceList) where
  shows_same : (known : List Statement) (one other : Lemma) (s t : Statement) → one ≡ other → s ≡ t → LemmaShows problem lists known one s → LemmaShows problem lists known other t
  shows_same known one other s t same also shows = subst (LemmaShows problem lists known other) also (subst (λ lemma. LemmaShows problem lists known lemma s) same shows)

  pub one_shows : (a : Lemma) (s : Statement) → LemmaShows problem lists [] a s → LemmasShow problem lists (a ∷ []) (s ∷ [])
  one_shows a s shows = record { count = refl; each = by }
    where
      by : (n : ℕ) (lemma : Lemma) (statement : Statement) → slice_get (a ∷ []) n ≡ Some lemma → slice_get (s ∷ []) n ≡ Some statement → LemmaShows problem lists (take n (s ∷ [])) lemma statement
      by zero lemma statement is also = shows_same [] a lemma s statement (same_Some a lemma is) (same_Some s statement also) shows
      by (suc n) lemma statement is also = absurd cc

  pub two_show : (a b : Lemma) (s t : Statement) → LemmaShows problem lists [] a s → LemmaShows problem lists (s ∷ []) b t → LemmasShow problem lists (a ∷ b ∷ []) (s ∷ t ∷ [])
  two_show a b s t shows later = record { count = refl; each = by }
    where
      by : (n : ℕ) (lemma : Lemma) (statement : Statement) → slice_get (a ∷ b ∷ []) n ≡ Some lemma → slice_get (s ∷ t ∷ []) n ≡ Some statement → LemmaShows problem lists (take n (s ∷ t ∷ [])) lemma statement
      by zero lemma statement is also = shows_same [] a lemma s statement (same_Some a lemma is) (same_Some s statement also) shows
      by (suc zero) lemma statement is also = shows_same (s ∷ []) b lemma t statement (same_Some b lemma is) (same_Some t statement also) later
      by (suc (suc n)) lemma statement is also = absurd cc

  pub three_show : (a b c : Lemma) (s t u : Statement) → LemmaShows problem lists [] a s → LemmaShows problem lists (s ∷ []) b t → LemmaShows problem lists (s ∷ t ∷ []) c u →
      LemmasShow problem lists (a ∷ b ∷ c ∷ []) (s ∷ t ∷ u ∷ [])
  three_show a b c s t u shows later last = record { count = refl; each = by }
    where
      by : (n : ℕ) (lemma : Lemma) (statement : Statement) → slice_get (a ∷ b ∷ c ∷ []) n ≡ Some lemma → slice_get (s ∷ t ∷ u ∷ []) n ≡ Some statement → LemmaShows problem lists (take n (s ∷ t ∷ u ∷ [])) lemma statement
      by zero lemma statement is also = shows_same [] a lemma s statement (same_Some a lemma is) (same_Some s statement also) shows
      by (suc zero) lemma statement is also = shows_same (s ∷ []) b lemma t statement (same_Some b lemma is) (same_Some t statement also) later
      by (suc (suc zero)) lemma statement is also = shows_same (s ∷ t ∷ []) c lemma u statement (same_Some c lemma is) (same_Some u statement also) last
      by (suc (suc (suc n))) lemma statement is also = absurd cc
