-- Each kind of line after the first three: what is read is spelled so, and what is spelled so is read.
use Rattle.std.proofs.Common.{◌≡◌, ℕ, ◌<◌, ◌≤◌, ◌+◌, List, [], ◌∷◌, ◌++◌, codes, Result, Ok, refl, sym, ap, subst, ◌∙◌, arith, Option}
use Rattle.mapf_model.specs.declared.label.Label.{Label}
use Rattle.mapf_model.specs.Limits.{greatest_cost, greatest_sum, last_split_tick}
use Rattle.mapf_lemmas.specs.declared.constraint.PathConstraint.TheVariants as constraints
use Rattle.mapf_lemmas.specs.declared.joint.JointState.TheVariants as states
use Rattle.mapf_lemmas.specs.declared.price.Price.TheVariants as prices
use Rattle.mapf_fields.specs.Numbers.{◌>>=◌, field, below}
use Rattle.mapf_fields.specs.declared.fault.LineFault.{LineFault}
use Rattle.mapf_fields.proofs.Binds.{through, same_ok, then_ok}
use Rattle.mapf_fields.proofs.Plain.{IsPlain, plain-append, plain-more, plain-word}
use Rattle.mapf_lemma_texts.specs.declared.line.LemmaLine.{LemmaLine}
use Rattle.mapf_lemma_texts.specs.declared.line.LemmaLine.TheVariants as lines
use Rattle.mapf_lemma_texts.specs.declared.sizes.LineSizes.{LineSizes}
use Rattle.mapf_lemma_texts.specs.Ranges.{IsOneTo, IsAmountTo, most_listed, most_constraints, most_uses, greatest_weight, greatest_price, greatest_label, last_cost_split}
use Rattle.mapf_lemma_texts.specs.Lines.{words, amount_words, IsLaterLine}
use Rattle.mapf_lemma_texts.specs.LineParts.{Back, read_back, last_number, last_amount}
use Rattle.mapf_lemma_texts.specs.LineReading.{agent_part, up_to, one_to, last_up_to, last_one_to, read_agent, read_both, read_cases, read_cell_price, read_cells, read_clash, read_clear, read_cost_split, read_costs, read_edge_price, read_entry, read_first_alone, read_group, read_leaf, read_least, read_lemmas, read_list, read_most, read_never, read_not_at, read_not_move, read_one, read_prices, read_second_alone, read_single_use, read_swap, read_two, read_vertex, read_weighted_use}
use Rattle.mapf_lemma_texts.proofs.PartLaws.{IsExactFront, IsExactBack, exact-&, back_takes, back_again, range-below, range-up_to, range-one_to, exact-number, exact-last, exact-cell, exact-last_cell, exact-star, exact-amount, exact-list}

-- the parts of lines, with their ranges

pub exact-agent : (sizes : LineSizes) → IsExactFront (agent_part sizes) (field 32) (λ n. n < sizes.agents) 4
exact-agent sizes = exact-number (range-below sizes.agents 3 (omega (arith, sizes.few.1)) (omega (arith, sizes.few.1)) (omega arith))

exact-last_agent : (sizes : LineSizes) → IsExactBack (last_number (below sizes.agents)) (field 32) (λ n. n < sizes.agents) 4
exact-last_agent sizes = exact-last (range-below sizes.agents 3 (omega (arith, sizes.few.1)) (omega (arith, sizes.few.1)) (omega arith))

exact-some_agents : (sizes : LineSizes) → IsExactFront (up_to sizes.agents) (field 32) (λ n. n ≤ sizes.agents) 4
exact-some_agents sizes = exact-number (range-up_to sizes.agents 3 (omega (arith, sizes.few.1)) (omega (arith, sizes.few.1)) (omega arith))

exact-one_agent : (sizes : LineSizes) → IsExactFront (one_to sizes.agents) (field 32) (IsOneTo sizes.agents) 4
exact-one_agent sizes = exact-number (range-one_to sizes.agents 3 (omega (arith, sizes.few.1)) (omega (arith, sizes.few.1)) (omega arith))

exact-tick : IsExactFront (up_to last_split_tick) (field 32) (λ n. n ≤ 999999) 7
exact-tick = exact-number (range-up_to 999999 6 (omega arith) (omega arith) (omega arith))

exact-cost : IsExactFront (up_to greatest_cost) (field 32) (λ n. n ≤ 9999999) 8
exact-cost = exact-number (range-up_to 9999999 7 (omega arith) (omega arith) (omega arith))

exact-split : IsExactFront (up_to last_cost_split) (field 32) (λ n. n ≤ 9999998) 8
exact-split = exact-number (range-up_to 9999998 7 (omega arith) (omega arith) (omega arith))

exact-constraint : IsExactFront (up_to most_constraints) (field 32) (λ n. n ≤ 1000) 5
exact-constraint = exact-number (range-up_to 1000 4 (omega arith) (omega arith) (omega arith))

exact-count : IsExactFront (up_to most_listed) (field 32) (λ n. n ≤ 9999999999) 11
exact-count = exact-number (range-up_to 9999999999 10 (omega arith) (omega arith) (omega arith))

exact-weight : IsExactFront (one_to greatest_weight) (field 32) (IsOneTo 1000) 5
exact-weight = exact-number (range-one_to 1000 4 (omega arith) (omega arith) (omega arith))

exact-uses : IsExactFront (one_to most_uses) (field 32) (IsOneTo 200000) 7
exact-uses = exact-number (range-one_to 200000 6 (omega arith) (omega arith) (omega arith))

exact-last_count : IsExactBack (last_up_to most_listed) (field 32) (λ n. n ≤ 9999999999) 11
exact-last_count = exact-last (range-up_to 9999999999 10 (omega arith) (omega arith) (omega arith))

exact-last_some : IsExactBack (last_one_to most_listed) (field 32) (IsOneTo 9999999999) 11
exact-last_some = exact-last (range-one_to 9999999999 10 (omega arith) (omega arith) (omega arith))

exact-last_price : IsExactBack (last_one_to greatest_price) (field 32) (IsOneTo 9999999) 8
exact-last_price = exact-last (range-one_to 9999999 7 (omega arith) (omega arith) (omega arith))

exact-last_tick : IsExactBack (last_up_to last_split_tick) (field 32) (λ n. n ≤ 999999) 7
exact-last_tick = exact-last (range-up_to 999999 6 (omega arith) (omega arith) (omega arith))

exact-last_split : IsExactBack (last_up_to last_cost_split) (field 32) (λ n. n ≤ 9999998) 8
exact-last_split = exact-last (range-up_to 9999998 7 (omega arith) (omega arith) (omega arith))

exact-last_cost : IsExactBack (last_up_to greatest_cost) (field 32) (λ n. n ≤ 9999999) 8
exact-last_cost = exact-last (range-up_to 9999999 7 (omega arith) (omega arith) (omega arith))

exact-last_weight : IsExactBack (last_one_to greatest_weight) (field 32) (IsOneTo 1000) 5
exact-last_weight = exact-last (range-one_to 1000 4 (omega arith) (omega arith) (omega arith))

exact-label : IsExactBack (last_amount greatest_label) amount_words (IsAmountTo greatest_label) 11
exact-label = exact-amount 9999999999 10 (omega arith) (omega arith) (omega arith)

exact-bound : IsExactBack (last_amount greatest_sum) amount_words (IsAmountTo greatest_sum) 11
exact-bound = exact-amount 1999999800 10 (omega arith) (omega arith) (omega arith)

-- a kind of line: the word, the parts after it, and the line of their values

-- a line is spelled by these bytes, in its ranges
abbrev pub Takes : LineSizes → List ℕ → LemmaLine → Type 0
Takes sizes bs line = (bs ≡ words sizes.width line) × IsLaterLine sizes line

-- reading what follows the word gives exactly the lines of this kind
pub record IsKind {A : Type 0} (sizes : LineSizes) (word : List ℕ) (read : List ℕ → Result LemmaLine LineFault) (make : A → LemmaLine) : Type 0 where
  pub takes : (bs : List ℕ) (line : LemmaLine) → read bs ≡ Ok line → Takes sizes (word ++ bs) line
  pub again : (v : A) → IsLaterLine sizes (make v) → (text : List ℕ) → words sizes.width (make v) ≡ word ++ text → read text ≡ Ok (make v)
  pub plain : (v : A) → IsLaterLine sizes (make v) → IsPlain 64 (words sizes.width (make v))

pub cancel : (word t u : List ℕ) → word ++ t ≡ word ++ u → t ≡ u
cancel [] t u e = e
cancel (c ∷ cs) t u e = let tail : cs ++ t ≡ cs ++ u = cc in cancel cs t u tail

kind : {R A : Type 0} {back : Back R A} {text : A → List ℕ} {Is : A → Type 0} {room : ℕ} → IsExactBack back text Is room → (sizes : LineSizes)
    → (word : List ℕ) (k : ℕ) → IsPlain k word → k + room ≤ 64 → (make : A → LemmaLine) → ((v : A) → words sizes.width (make v) ≡ word ++ text v)
    → ((v : A) → Is v → IsLaterLine sizes (make v)) → ((v : A) → IsLaterLine sizes (make v) → Is v)
    → IsKind sizes word (λ bs. read_back back bs >>= λ v. Ok (make v)) make
kind {back = back} {text = text} {room = room} exact sizes word k plain few make same into out = record {
  takes = λ bs line e.
      through (read_back back bs) _ line e (λ v read done.
      let (text-is, is) = back_takes exact bs v read in
      subst (Takes sizes (word ++ bs)) (same_ok (make v) line done) (ap (λ r. word ++ r) text-is ∙ sym (same v), into v is));
  again = λ v is t spelled.
      let text-is : text v ≡ t = cancel word (text v) t (sym (same v) ∙ spelled) in
      then_ok _ _ _ _ (ap (read_back back) (sym text-is) ∙ back_again exact v (out v is)) refl;
  plain = λ v is.
      subst (IsPlain 64) (sym (same v)) (plain-more (k + room) 64 (word ++ text v) few (plain-append k room word (text v) plain (exact.plain v (out v is))));
}

abbrev pub make_entry : ℕ × (ℕ × Label) → LemmaLine
make_entry v = lines.At (record { cell = v.0; tick = v.1.0; label = v.1.1 })

pub is_entry : (sizes : LineSizes) → IsKind sizes (codes "at") (read_entry sizes) make_entry
unfolding read_entry
is_entry sizes = kind (exact-& (exact-cell sizes) (exact-& exact-cost exact-label)) sizes (codes "at") 2 (plain-word (codes "at") 2 refl refl) (omega arith) make_entry (λ v. refl) (λ v is. (is.0, is.1.0, is.1.1)) (λ v is. (is.0, (is.1, is.2)))

abbrev pub make_both : ℕ × (ℕ × (ℕ × Label)) → LemmaLine
make_both v = lines.JointAt (record { state = states.Both v.0 v.1.0; tick = v.1.1.0; label = v.1.1.1 })

pub is_both : (sizes : LineSizes) → IsKind sizes (codes "at") (read_both sizes) make_both
unfolding read_both
is_both sizes = kind (exact-& (exact-cell sizes) (exact-& (exact-cell sizes) (exact-& exact-cost exact-label))) sizes (codes "at") 2 (plain-word (codes "at") 2 refl refl) (omega arith) make_both (λ v. refl) (λ v is. ((is.0, is.1.0), is.1.1.0, is.1.1.1)) (λ v is. (is.0.0, (is.0.1, (is.1, is.2))))

abbrev pub make_first_alone : ℕ × (Unit {0} × (ℕ × Label)) → LemmaLine
make_first_alone v = lines.JointAt (record { state = states.FirstAlone v.0; tick = v.1.1.0; label = v.1.1.1 })

pub is_first_alone : (sizes : LineSizes) → IsKind sizes (codes "at") (read_first_alone sizes) make_first_alone
unfolding read_first_alone
is_first_alone sizes = kind (exact-& (exact-cell sizes) (exact-& exact-star (exact-& exact-cost exact-label))) sizes (codes "at") 2 (plain-word (codes "at") 2 refl refl) (omega arith) make_first_alone (λ v. refl) (λ v is. (is.0, is.1.1.0, is.1.1.1)) (λ v is. (is.0, (tt, (is.1, is.2))))

abbrev pub make_second_alone : Unit {0} × (ℕ × (ℕ × Label)) → LemmaLine
make_second_alone v = lines.JointAt (record { state = states.SecondAlone v.1.0; tick = v.1.1.0; label = v.1.1.1 })

pub is_second_alone : (sizes : LineSizes) → IsKind sizes (codes "at") (read_second_alone sizes) make_second_alone
unfolding read_second_alone
is_second_alone sizes = kind (exact-& exact-star (exact-& (exact-cell sizes) (exact-& exact-cost exact-label))) sizes (codes "at") 2 (plain-word (codes "at") 2 refl refl) (omega arith) make_second_alone (λ v. refl) (λ v is. (is.1.0, is.1.1.0, is.1.1.1)) (λ v is. (tt, (is.0, (is.1, is.2))))

abbrev pub make_cells : ℕ × ℕ → LemmaLine
make_cells v = lines.Cells (record { first = v.0; second = v.1 })

pub is_cells : (sizes : LineSizes) → IsKind sizes (codes "cells") (read_cells sizes) make_cells
unfolding read_cells
is_cells sizes = kind (exact-& (exact-cell sizes) (exact-last_cell sizes)) sizes (codes "cells") 5 (plain-word (codes "cells") 5 refl refl) (omega arith) make_cells (λ v. refl) (λ v is. is) (λ v is. is)

abbrev pub make_prices : ℕ → LemmaLine
make_prices v = lines.Prices v

pub is_prices : (sizes : LineSizes) → IsKind sizes (codes "prices") read_prices make_prices
unfolding read_prices
is_prices sizes = kind exact-last_count sizes (codes "prices") 6 (plain-word (codes "prices") 6 refl refl) (omega arith) make_prices (λ v. refl) (λ v is. is) (λ v is. is)

abbrev pub make_list : ℕ × ℕ → LemmaLine
make_list v = lines.List v.0 v.1

pub is_list : (sizes : LineSizes) → IsKind sizes (codes "list") read_list make_list
unfolding read_list
is_list sizes = kind (exact-& exact-weight exact-last_count) sizes (codes "list") 4 (plain-word (codes "list") 4 refl refl) (omega arith) make_list (λ v. refl) (λ v is. is) (λ v is. is)

abbrev pub make_cell_price : ℕ × (ℕ × ℕ) → LemmaLine
make_cell_price v = lines.Price (prices.Cell v.0 v.1.0 v.1.1)

pub is_cell_price : (sizes : LineSizes) → IsKind sizes (codes "price") (read_cell_price sizes) make_cell_price
unfolding read_cell_price
is_cell_price sizes = kind (exact-& (exact-cell sizes) (exact-& exact-tick exact-last_price)) sizes (codes "price") 5 (plain-word (codes "price") 5 refl refl) (omega arith) make_cell_price (λ v. refl) (λ v is. (is.0, is.1.0, is.1.1)) (λ v is. (is.0, (is.1, is.2)))

abbrev pub make_edge_price : ℕ × (ℕ × (ℕ × ℕ)) → LemmaLine
make_edge_price v = lines.Price (prices.Edge v.0 v.1.0 v.1.1.0 v.1.1.1)

pub is_edge_price : (sizes : LineSizes) → IsKind sizes (codes "price") (read_edge_price sizes) make_edge_price
unfolding read_edge_price
is_edge_price sizes = kind (exact-& (exact-cell sizes) (exact-& (exact-cell sizes) (exact-& exact-tick exact-last_price))) sizes (codes "price") 5 (plain-word (codes "price") 5 refl refl) (omega arith) make_edge_price (λ v. refl) (λ v is. (is.0, is.1.0, is.1.1.0, is.1.1.1)) (λ v is. (is.0, (is.1, (is.2, is.3))))

abbrev pub make_not_at : ℕ × (ℕ × ℕ) → LemmaLine
make_not_at v = lines.Constraint (record { agent = v.0; constraint = constraints.NotAt v.1.0 v.1.1 })

pub is_not_at : (sizes : LineSizes) → IsKind sizes (codes "not") (read_not_at sizes) make_not_at
unfolding read_not_at
is_not_at sizes = kind (exact-& (exact-agent sizes) (exact-& (exact-cell sizes) exact-last_tick)) sizes (codes "not") 3 (plain-word (codes "not") 3 refl refl) (omega arith) make_not_at (λ v. refl) (λ v is. is) (λ v is. is)

abbrev pub make_not_move : ℕ × (ℕ × (ℕ × ℕ)) → LemmaLine
make_not_move v = lines.Constraint (record { agent = v.0; constraint = constraints.NotMove v.1.0 v.1.1.0 v.1.1.1 })

pub is_not_move : (sizes : LineSizes) → IsKind sizes (codes "not") (read_not_move sizes) make_not_move
unfolding read_not_move
is_not_move sizes = kind (exact-& (exact-agent sizes) (exact-& (exact-cell sizes) (exact-& (exact-cell sizes) exact-last_tick))) sizes (codes "not") 3 (plain-word (codes "not") 3 refl refl) (omega arith) make_not_move (λ v. refl) (λ v is. (is.0, (is.1.0, is.1.1.0, is.1.1.1))) (λ v is. (is.0, (is.1.0, (is.1.1, is.1.2))))

abbrev pub make_clear : ℕ × (ℕ × ℕ) → LemmaLine
make_clear v = lines.Constraint (record { agent = v.0; constraint = constraints.Clear v.1.0 v.1.1 })

pub is_clear : (sizes : LineSizes) → IsKind sizes (codes "clear") (read_clear sizes) make_clear
unfolding read_clear
is_clear sizes = kind (exact-& (exact-agent sizes) (exact-& (exact-cell sizes) exact-last_split)) sizes (codes "clear") 5 (plain-word (codes "clear") 5 refl refl) (omega arith) make_clear (λ v. refl) (λ v is. is) (λ v is. is)

abbrev pub make_most : ℕ × ℕ → LemmaLine
make_most v = lines.Constraint (record { agent = v.0; constraint = constraints.Most v.1 })

pub is_most : (sizes : LineSizes) → IsKind sizes (codes "most") (read_most sizes) make_most
unfolding read_most
is_most sizes = kind (exact-& (exact-agent sizes) exact-last_split) sizes (codes "most") 4 (plain-word (codes "most") 4 refl refl) (omega arith) make_most (λ v. refl) (λ v is. is) (λ v is. is)

abbrev pub make_least : ℕ × ℕ → LemmaLine
make_least v = lines.Constraint (record { agent = v.0; constraint = constraints.Least v.1 })

pub is_least : (sizes : LineSizes) → IsKind sizes (codes "least") (read_least sizes) make_least
unfolding read_least
is_least sizes = kind (exact-& (exact-agent sizes) exact-last_cost) sizes (codes "least") 5 (plain-word (codes "least") 5 refl refl) (omega arith) make_least (λ v. refl) (λ v is. is) (λ v is. is)

abbrev pub make_one : ℕ × (ℕ × (ℕ × Option ℕ)) → LemmaLine
make_one v = lines.One v.0 v.1.0 v.1.1.0 v.1.1.1

pub is_one : (sizes : LineSizes) → IsKind sizes (codes "one") (read_one sizes) make_one
unfolding read_one
is_one sizes = kind (exact-& (exact-agent sizes) (exact-& exact-constraint (exact-& exact-count (exact-list sizes)))) sizes (codes "one") 3 (plain-word (codes "one") 3 refl refl) (omega arith) make_one (λ v. refl) (λ v is. (is.0, is.1.0, is.1.1.0, is.1.1.1)) (λ v is. (is.0, (is.1, (is.2, is.3))))

abbrev pub make_two : ℕ × (ℕ × (ℕ × (ℕ × (ℕ × (ℕ × Option ℕ))))) → LemmaLine
make_two v = lines.Two v.0 v.1.0 v.1.1.0 v.1.1.1.0 v.1.1.1.1.0 v.1.1.1.1.1.0 v.1.1.1.1.1.1

pub is_two : (sizes : LineSizes) → IsKind sizes (codes "two") (read_two sizes) make_two
unfolding read_two
is_two sizes = kind (exact-& (exact-agent sizes) (exact-& (exact-agent sizes) (exact-& exact-constraint (exact-& exact-count (exact-& exact-count (exact-& exact-count (exact-list sizes))))))) sizes (codes "two") 3 (plain-word (codes "two") 3 refl refl) (omega arith) make_two (λ v. refl) (λ v is. (is.0, is.1.0, is.1.1.0, is.1.1.1.0, is.1.1.1.1.0, is.1.1.1.1.1.0, is.1.1.1.1.1.1)) (λ v is. (is.0, (is.1, (is.2, (is.3, (is.4, (is.5, is.6)))))))

abbrev pub make_never : ℕ × (ℕ × ℕ) → LemmaLine
make_never v = lines.Never v.0 v.1.0 v.1.1

pub is_never : (sizes : LineSizes) → IsKind sizes (codes "never") (read_never sizes) make_never
unfolding read_never
is_never sizes = kind (exact-& (exact-agent sizes) (exact-& (exact-agent sizes) exact-last_some)) sizes (codes "never") 5 (plain-word (codes "never") 5 refl refl) (omega arith) make_never (λ v. refl) (λ v is. (is.0, is.1.0, is.1.1)) (λ v is. (is.0, (is.1, is.2)))

abbrev pub make_cases : ℕ × (ℕ × Label) → LemmaLine
make_cases v = lines.Cases v.0 v.1.0 v.1.1

pub is_cases : (sizes : LineSizes) → IsKind sizes (codes "cases") (read_cases sizes) make_cases
unfolding read_cases
is_cases sizes = kind (exact-& (exact-one_agent sizes) (exact-& exact-constraint exact-bound)) sizes (codes "cases") 5 (plain-word (codes "cases") 5 refl refl) (omega arith) make_cases (λ v. refl) (λ v is. (is.0, is.1.0, is.1.1)) (λ v is. (is.0, (is.1, is.2)))

abbrev pub make_agent : ℕ → LemmaLine
make_agent v = lines.Agent v

pub is_agent : (sizes : LineSizes) → IsKind sizes (codes "agent") (read_agent sizes) make_agent
unfolding read_agent
is_agent sizes = kind (exact-last_agent sizes) sizes (codes "agent") 5 (plain-word (codes "agent") 5 refl refl) (omega arith) make_agent (λ v. refl) (λ v is. is) (λ v is. is)

abbrev pub make_lemmas : ℕ → LemmaLine
make_lemmas v = lines.Lemmas v

pub is_lemmas : (sizes : LineSizes) → IsKind sizes (codes "lemmas") read_lemmas make_lemmas
unfolding read_lemmas
is_lemmas sizes = kind exact-last_count sizes (codes "lemmas") 6 (plain-word (codes "lemmas") 6 refl refl) (omega arith) make_lemmas (λ v. refl) (λ v is. is) (λ v is. is)

abbrev pub make_vertex : ℕ × (ℕ × (ℕ × ℕ)) → LemmaLine
make_vertex v = lines.Vertex v.0 v.1.0 v.1.1.0 v.1.1.1

pub is_vertex : (sizes : LineSizes) → IsKind sizes (codes "vertex") (read_vertex sizes) make_vertex
unfolding read_vertex
is_vertex sizes = kind (exact-& (exact-agent sizes) (exact-& (exact-agent sizes) (exact-& (exact-cell sizes) exact-last_tick))) sizes (codes "vertex") 6 (plain-word (codes "vertex") 6 refl refl) (omega arith) make_vertex (λ v. refl) (λ v is. (is.0, is.1.0, is.1.1.0, is.1.1.1)) (λ v is. (is.0, (is.1, (is.2, is.3))))

abbrev pub make_swap : ℕ × (ℕ × (ℕ × (ℕ × ℕ))) → LemmaLine
make_swap v = lines.Swap v.0 v.1.0 v.1.1.0 v.1.1.1.0 v.1.1.1.1

pub is_swap : (sizes : LineSizes) → IsKind sizes (codes "swap") (read_swap sizes) make_swap
unfolding read_swap
is_swap sizes = kind (exact-& (exact-agent sizes) (exact-& (exact-agent sizes) (exact-& (exact-cell sizes) (exact-& (exact-cell sizes) exact-last_tick)))) sizes (codes "swap") 4 (plain-word (codes "swap") 4 refl refl) (omega arith) make_swap (λ v. refl) (λ v is. (is.0, is.1.0, is.1.1.0, is.1.1.1.0, is.1.1.1.1)) (λ v is. (is.0, (is.1, (is.2, (is.3, is.4)))))

abbrev pub make_costs : ℕ × (ℕ × (ℕ × (ℕ × ℕ))) → LemmaLine
make_costs v = lines.Costs v.0 v.1.0 v.1.1.0 v.1.1.1.0 v.1.1.1.1

pub is_costs : (sizes : LineSizes) → IsKind sizes (codes "costs") (read_costs sizes) make_costs
unfolding read_costs
is_costs sizes = kind (exact-& (exact-agent sizes) (exact-& exact-split (exact-& (exact-agent sizes) (exact-& exact-cost exact-last_count)))) sizes (codes "costs") 5 (plain-word (codes "costs") 5 refl refl) (omega arith) make_costs (λ v. refl) (λ v is. (is.0, is.1.0, is.1.1.0, is.1.1.1.0, is.1.1.1.1)) (λ v is. (is.0, (is.1, (is.2, (is.3, is.4)))))

abbrev pub make_cost : ℕ × ℕ → LemmaLine
make_cost v = lines.Cost v.0 v.1

pub is_cost : (sizes : LineSizes) → IsKind sizes (codes "cost") (read_cost_split sizes) make_cost
unfolding read_cost_split
is_cost sizes = kind (exact-& (exact-agent sizes) exact-last_split) sizes (codes "cost") 4 (plain-word (codes "cost") 4 refl refl) (omega arith) make_cost (λ v. refl) (λ v is. is) (λ v is. is)

abbrev pub make_clash : ℕ × ℕ → LemmaLine
make_clash v = lines.Clash v.0 v.1

pub is_clash : (sizes : LineSizes) → IsKind sizes (codes "clash") (read_clash sizes) make_clash
unfolding read_clash
is_clash sizes = kind (exact-& (exact-agent sizes) (exact-last_agent sizes)) sizes (codes "clash") 5 (plain-word (codes "clash") 5 refl refl) (omega arith) make_clash (λ v. refl) (λ v is. is) (λ v is. is)

abbrev pub make_single_use : ℕ → LemmaLine
make_single_use v = lines.Use v

pub is_single_use : (sizes : LineSizes) → IsKind sizes (codes "use") read_single_use make_single_use
unfolding read_single_use
is_single_use sizes = kind exact-last_count sizes (codes "use") 3 (plain-word (codes "use") 3 refl refl) (omega arith) make_single_use (λ v. refl) (λ v is. is) (λ v is. is)

abbrev pub make_weighted_use : ℕ × ℕ → LemmaLine
make_weighted_use v = lines.WeightedUse (record { lemma = v.0; weight = v.1 })

pub is_weighted_use : (sizes : LineSizes) → IsKind sizes (codes "use") read_weighted_use make_weighted_use
unfolding read_weighted_use
is_weighted_use sizes = kind (exact-& exact-count exact-last_weight) sizes (codes "use") 3 (plain-word (codes "use") 3 refl refl) (omega arith) make_weighted_use (λ v. refl) (λ v is. is) (λ v is. is)

abbrev pub make_group : ℕ × ℕ → LemmaLine
make_group v = lines.Group v.0 v.1

pub is_group : (sizes : LineSizes) → IsKind sizes (codes "group") read_group make_group
unfolding read_group
is_group sizes = kind (exact-& exact-uses exact-last_weight) sizes (codes "group") 5 (plain-word (codes "group") 5 refl refl) (omega arith) make_group (λ v. refl) (λ v is. is) (λ v is. is)

abbrev pub make_leaf : ℕ × (ℕ × Option ℕ) → LemmaLine
make_leaf v = lines.Leaf v.0 v.1.0 v.1.1

pub is_leaf : (sizes : LineSizes) → IsKind sizes (codes "leaf") (read_leaf sizes) make_leaf
unfolding read_leaf
is_leaf sizes = kind (exact-& (exact-some_agents sizes) (exact-& (exact-some_agents sizes) (exact-list sizes))) sizes (codes "leaf") 4 (plain-word (codes "leaf") 4 refl refl) (omega arith) make_leaf (λ v. refl) (λ v is. (is.0, is.1.0, is.1.1)) (λ v is. (is.0, (is.1, is.2)))
