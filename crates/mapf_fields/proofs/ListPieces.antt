-- Texts of pieces, one for each item of a list.
use Rattle.std.proofs.Common.{◌≡◌, ℕ, zero, suc, ◌+◌, ◌<◌, List, [], ◌∷◌, ◌++◌, Option, length, take, drop, take-append-drop, append_assoc, append-nil, get_or, sym, ap, ◌∙◌, subst, arith}
use Rattle.std.specs.List.{flat_map}
use Rattle.std.proofs.lemmas.Grind.{flat_map-append}
use Rattle.mapf_fields.specs.Pages.{Passes, WritesPrefix}
use Rattle.mapf_fields.proofs.Prefixes.{passes_trans, prefix_after, prefix_held, same_passes, same_prefix}

take_next : {X : Type 0} (xs : List X) (k : ℕ) (x : X) → k < length xs → x ≡ get_or xs k x → take (k + 1) xs ≡ take k xs ++ x ∷ []
take_next [] k x inside is = absurd (omega arith)
take_next (y ∷ ys) zero x inside is = ap (λ z. z ∷ []) (sym is)
take_next (y ∷ ys) (suc k) x inside is =
    let count : suc k + 1 ≡ suc (k + 1) = omega arith in
    ap (λ n. take n (y ∷ ys)) count ∙ ap (λ zs. y ∷ zs) (take_next ys k x (omega arith) is)

module _ {X : Type 0} (f : X → List ℕ) (xs : List X) (k : ℕ) (x : X) (inside : k < length xs) (is : x ≡ get_or xs k x) where
  one_more : flat_map f (take (k + 1) xs) ≡ flat_map f (take k xs) ++ f x
  one_more = ap (flat_map f) (take_next xs k x inside is) ∙ flat_map-append f (take k xs) (x ∷ []) ∙ ap (λ t. flat_map f (take k xs) ++ t) (append-nil (f x))

  around : flat_map f xs ≡ flat_map f (take k xs) ++ (f x ++ flat_map f (drop (k + 1) xs))
  around = ap (flat_map f) (sym (take-append-drop (k + 1) xs)) ∙ flat_map-append f (take (k + 1) xs) (drop (k + 1) xs)
      ∙ ap (λ t. t ++ flat_map f (drop (k + 1) xs)) one_more ∙ append_assoc (flat_map f (take k xs)) (f x) (flat_map f (drop (k + 1) xs))

  -- after one more item
  pub list_more : (a b c : Option (List ℕ)) (h i j t : List ℕ) → t ≡ f x → Passes a b h i (flat_map f (take k xs)) → Passes b c i j t → Passes a c h j (flat_map f (take (k + 1) xs))
  list_more a b c h i j t same far this = subst (Passes a c h j) (sym one_more) (passes_trans a b c h i j (flat_map f (take k xs)) (f x) far (same_passes b c i j t (f x) same this))

  -- after a prefix of this item
  pub list_prefix : (a b c : Option (List ℕ)) (h i t : List ℕ) → t ≡ f x → Passes a b h i (flat_map f (take k xs)) → WritesPrefix b c (i ++ t) → WritesPrefix a c (h ++ flat_map f xs)
  list_prefix a b c h i t same far this =
      subst (λ u. WritesPrefix a c (h ++ u)) (sym around)
      (prefix_after a b c h i (flat_map f (take k xs)) (f x ++ flat_map f (drop (k + 1) xs)) far (prefix_held b c i (f x) (flat_map f (drop (k + 1) xs)) (same_prefix b c i t (f x) same this)))
