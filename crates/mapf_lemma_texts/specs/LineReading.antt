-- What the lines of version 3 are read as.
use Rattle.std.specs.Prelude.{ℕ, List, codes, Option, Result, Ok, Err, if◌then◌else◌}
use Rattle.std.specs.Str.{bytes_eq}
use Rattle.std.specs.Option.{option_map_or}
use Rattle.mapf_model.specs.declared.item.Claim.TheVariants as claims
use Rattle.mapf_model.specs.Limits.{most_agents, greatest_cost, greatest_sum, last_split_tick}
use Rattle.mapf_lemmas.specs.declared.constraint.PathConstraint.TheVariants as constraints
use Rattle.mapf_lemmas.specs.declared.joint.JointState.TheVariants as states
use Rattle.mapf_lemmas.specs.declared.price.Price.TheVariants as prices
use Rattle.mapf_fields.specs.declared.fault.LineFault.{LineFault}
use Rattle.mapf_fields.specs.declared.fault.LineFault.TheVariants.{Shape}
use Rattle.mapf_fields.specs.Numbers.{◌>>=◌, strip, in_range, below}
use Rattle.mapf_lemma_texts.specs.declared.line.LemmaLine.{LemmaLine}
use Rattle.mapf_lemma_texts.specs.declared.line.LemmaLine.TheVariants as lines
use Rattle.mapf_lemma_texts.specs.declared.sizes.LineSizes.{LineSizes}
use Rattle.mapf_lemma_texts.specs.declared.sizes.LinePlace.{LinePlace}
use Rattle.mapf_lemma_texts.specs.declared.sizes.LinePlace.TheVariants as places
use Rattle.mapf_lemma_texts.specs.Ranges.{most_listed, most_constraints, most_uses, greatest_weight, last_cost_split}
use Rattle.mapf_lemma_texts.specs.Ranges.{greatest_price, greatest_label}
use Rattle.mapf_lemma_texts.specs.LineParts.{◌&◌, read_back, Front, Back, number, last_number, cell_part, last_cell}
use Rattle.mapf_lemma_texts.specs.LineParts.{star, last_amount, last_list_number}

-- the first, and the second if the first has another shape
abbrev pub or_else : {A : Type 0} → Result A LineFault → Result A LineFault → Result A LineFault
or_else (Err Shape) other = other
or_else read other = read

-- the line with this word, if the bytes begin with it
abbrev pub after_word : {A : Type 0} → List ℕ → (List ℕ → Result A LineFault) → List ℕ → Result A LineFault →
    Result A LineFault
after_word word read bs other = option_map_or read (strip word bs) other

-- an agent
abbrev pub agent_part : LineSizes → Front (Option ℕ) ℕ
agent_part sizes = number (below sizes.agents)

-- a number from 0 to this
abbrev pub up_to : ℕ → Front (Option ℕ) ℕ
up_to most = number (in_range 0 most)

-- one at the end of a line
abbrev pub last_up_to : ℕ → Back (Option ℕ) ℕ
last_up_to most = last_number (in_range 0 most)

-- a number from 1 to this
abbrev pub one_to : ℕ → Front (Option ℕ) ℕ
one_to most = number (in_range 1 most)

-- one at the end of a line
abbrev pub last_one_to : ℕ → Back (Option ℕ) ℕ
last_one_to most = last_number (in_range 1 most)

-- a cell
abbrev pub cell_on : LineSizes → Front (Option ℕ × Option ℕ) ℕ
cell_on sizes = cell_part sizes.width sizes.height

-- the label of a cell
unfoldable pub read_entry : LineSizes → List ℕ → Result LemmaLine LineFault
read_entry sizes bs =
    read_back (cell_on sizes & up_to greatest_cost & last_amount greatest_label) bs
    >>= λ v. Ok (lines.At (record { cell = v.0; tick = v.1.0; label = v.1.1 }))

-- the label of two cells
unfoldable pub read_both : LineSizes → List ℕ → Result LemmaLine LineFault
read_both sizes bs =
    read_back (cell_on sizes & cell_on sizes & up_to greatest_cost & last_amount greatest_label) bs
    >>= λ v. Ok (lines.JointAt (record { state = states.Both v.0 v.1.0; tick = v.1.1.0; label = v.1.1.1 }))

-- the label of a cell of the first agent, where the second has arrived
unfoldable pub read_first_alone : LineSizes → List ℕ → Result LemmaLine LineFault
read_first_alone sizes bs =
    read_back (cell_on sizes & star & up_to greatest_cost & last_amount greatest_label) bs
    >>= λ v. Ok (lines.JointAt (record { state = states.FirstAlone v.0; tick = v.1.1.0; label = v.1.1.1 }))

-- the label of a cell of the second agent, where the first has arrived
unfoldable pub read_second_alone : LineSizes → List ℕ → Result LemmaLine LineFault
read_second_alone sizes bs =
    read_back (star & cell_on sizes & up_to greatest_cost & last_amount greatest_label) bs
    >>= λ v. Ok (lines.JointAt (record { state = states.SecondAlone v.1.0; tick = v.1.1.0; label = v.1.1.1 }))

-- a label of two agents
unfoldable pub read_joint : LineSizes → List ℕ → Result LemmaLine LineFault
read_joint sizes bs =
    or_else (read_both sizes bs) (or_else (read_first_alone sizes bs) (read_second_alone sizes bs))

-- a label of one agent, or of two
unfoldable pub read_at : LineSizes → List ℕ → Result LemmaLine LineFault
read_at sizes bs = or_else (read_entry sizes bs) (read_joint sizes bs)

-- the cells of two agents
unfoldable pub read_cells : LineSizes → List ℕ → Result LemmaLine LineFault
read_cells sizes bs =
    read_back (cell_on sizes & last_cell sizes.width sizes.height) bs
    >>= λ v. Ok (lines.Cells (record { first = v.0; second = v.1 }))

-- a price list's first line
unfoldable pub read_list : List ℕ → Result LemmaLine LineFault
read_list bs =
    read_back (one_to greatest_weight & last_up_to most_listed) bs >>= λ v. Ok (lines.List v.0 v.1)

-- the price of a cell
unfoldable pub read_cell_price : LineSizes → List ℕ → Result LemmaLine LineFault
read_cell_price sizes bs =
    read_back (cell_on sizes & up_to last_split_tick & last_one_to greatest_price) bs
    >>= λ v. Ok (lines.Price (prices.Cell v.0 v.1.0 v.1.1))

-- the price of an edge
unfoldable pub read_edge_price : LineSizes → List ℕ → Result LemmaLine LineFault
read_edge_price sizes bs =
    read_back (cell_on sizes & cell_on sizes & up_to last_split_tick & last_one_to greatest_price) bs
    >>= λ v. Ok (lines.Price (prices.Edge v.0 v.1.0 v.1.1.0 v.1.1.1))

-- a price
unfoldable pub read_price : LineSizes → List ℕ → Result LemmaLine LineFault
read_price sizes bs = or_else (read_cell_price sizes bs) (read_edge_price sizes bs)

-- a number of lists
unfoldable pub read_prices : List ℕ → Result LemmaLine LineFault
read_prices bs = read_back (last_up_to most_listed) bs >>= λ n. Ok (lines.Prices n)

-- a line of price lists
unfoldable pub read_price_line : LineSizes → List ℕ → Result LemmaLine LineFault
read_price_line sizes bs =
    after_word (codes "prices") read_prices bs
    (after_word (codes "price") (read_price sizes) bs
    (after_word (codes "list") read_list bs (Err Shape)))

-- a forbidden cell at a tick
unfoldable pub read_not_at : LineSizes → List ℕ → Result LemmaLine LineFault
read_not_at sizes bs =
    read_back (agent_part sizes & cell_on sizes & last_up_to last_split_tick) bs
    >>= λ v. Ok (lines.Constraint (record { agent = v.0; constraint = constraints.NotAt v.1.0 v.1.1 }))

-- a forbidden move at a tick
unfoldable pub read_not_move : LineSizes → List ℕ → Result LemmaLine LineFault
read_not_move sizes bs =
    read_back (agent_part sizes & cell_on sizes & cell_on sizes & last_up_to last_split_tick) bs
    >>= λ v. Ok (lines.Constraint (record {
      agent = v.0;
      constraint = constraints.NotMove v.1.0 v.1.1.0 v.1.1.1;
    }))

-- a forbidden cell or move at a tick
unfoldable pub read_not : LineSizes → List ℕ → Result LemmaLine LineFault
read_not sizes bs = or_else (read_not_at sizes bs) (read_not_move sizes bs)

-- a forbidden cell from a tick on
unfoldable pub read_clear : LineSizes → List ℕ → Result LemmaLine LineFault
read_clear sizes bs =
    read_back (agent_part sizes & cell_on sizes & last_up_to last_cost_split) bs
    >>= λ v. Ok (lines.Constraint (record { agent = v.0; constraint = constraints.Clear v.1.0 v.1.1 }))

-- a greatest cost
unfoldable pub read_most : LineSizes → List ℕ → Result LemmaLine LineFault
read_most sizes bs =
    read_back (agent_part sizes & last_up_to last_cost_split) bs
    >>= λ v. Ok (lines.Constraint (record { agent = v.0; constraint = constraints.Most v.1 }))

-- a least cost
unfoldable pub read_least : LineSizes → List ℕ → Result LemmaLine LineFault
read_least sizes bs =
    read_back (agent_part sizes & last_up_to greatest_cost) bs
    >>= λ v. Ok (lines.Constraint (record { agent = v.0; constraint = constraints.Least v.1 }))

-- a constraint
unfoldable pub read_constraint_line : LineSizes → List ℕ → Result LemmaLine LineFault
read_constraint_line sizes bs =
    after_word (codes "not") (read_not sizes) bs
    (after_word (codes "clear") (read_clear sizes) bs
    (after_word (codes "most") (read_most sizes) bs
    (after_word (codes "least") (read_least sizes) bs (Err Shape))))

-- a number of lemmas
unfoldable pub read_lemmas : List ℕ → Result LemmaLine LineFault
read_lemmas bs = read_back (last_up_to most_listed) bs >>= λ n. Ok (lines.Lemmas n)

-- the first line of a lemma with labels of one agent
unfoldable pub read_one : LineSizes → List ℕ → Result LemmaLine LineFault
read_one sizes bs =
    read_back (agent_part sizes & up_to most_constraints & up_to most_listed & last_list_number sizes.lists) bs
    >>= λ v. Ok (lines.One v.0 v.1.0 v.1.1.0 v.1.1.1)

-- the first line of a lemma with labels of two agents
unfoldable pub read_two : LineSizes → List ℕ → Result LemmaLine LineFault
read_two sizes bs =
    read_back (agent_part sizes & agent_part sizes & up_to most_constraints & up_to most_listed & up_to most_listed
    & up_to most_listed & last_list_number sizes.lists) bs
    >>= λ v. Ok (lines.Two v.0 v.1.0 v.1.1.0 v.1.1.1.0 v.1.1.1.1.0 v.1.1.1.1.1.0 v.1.1.1.1.1.1)

-- the first line of a lemma with joint cells
unfoldable pub read_never : LineSizes → List ℕ → Result LemmaLine LineFault
read_never sizes bs =
    read_back (agent_part sizes & agent_part sizes & last_one_to most_listed) bs
    >>= λ v. Ok (lines.Never v.0 v.1.0 v.1.1)

-- the first line of a lemma by cases
unfoldable pub read_cases : LineSizes → List ℕ → Result LemmaLine LineFault
read_cases sizes bs =
    read_back (one_to sizes.agents & up_to most_constraints & last_amount greatest_sum) bs
    >>= λ v. Ok (lines.Cases v.0 v.1.0 v.1.1)

-- an agent of a lemma by cases
unfoldable pub read_agent : LineSizes → List ℕ → Result LemmaLine LineFault
read_agent sizes bs = read_back (last_number (below sizes.agents)) bs >>= λ n. Ok (lines.Agent n)

-- a first line of a lemma, or another that only lemmas have
unfoldable pub read_lemma_line : LineSizes → List ℕ → Result LemmaLine LineFault
read_lemma_line sizes bs =
    after_word (codes "one") (read_one sizes) bs
    (after_word (codes "two") (read_two sizes) bs
    (after_word (codes "never") (read_never sizes) bs
    (after_word (codes "cases") (read_cases sizes) bs
    (after_word (codes "agent") (read_agent sizes) bs
    (after_word (codes "lemmas") read_lemmas bs (Err Shape))))))

-- a split on a vertex conflict
unfoldable pub read_vertex : LineSizes → List ℕ → Result LemmaLine LineFault
read_vertex sizes bs =
    read_back (agent_part sizes & agent_part sizes & cell_on sizes & last_up_to last_split_tick) bs
    >>= λ v. Ok (lines.Vertex v.0 v.1.0 v.1.1.0 v.1.1.1)

-- a split on a swapping conflict
unfoldable pub read_swap : LineSizes → List ℕ → Result LemmaLine LineFault
read_swap sizes bs =
    read_back (agent_part sizes & agent_part sizes & cell_on sizes & cell_on sizes & last_up_to last_split_tick) bs
    >>= λ v. Ok (lines.Swap v.0 v.1.0 v.1.1.0 v.1.1.1.0 v.1.1.1.1)

-- a split on a cost
unfoldable pub read_cost_split : LineSizes → List ℕ → Result LemmaLine LineFault
read_cost_split sizes bs =
    read_back (agent_part sizes & last_up_to last_cost_split) bs >>= λ v. Ok (lines.Cost v.0 v.1)

-- a split on a cost, with a lemma
unfoldable pub read_costs : LineSizes → List ℕ → Result LemmaLine LineFault
read_costs sizes bs =
    read_back (agent_part sizes & up_to last_cost_split & agent_part sizes & up_to greatest_cost
    & last_up_to most_listed) bs
    >>= λ v. Ok (lines.Costs v.0 v.1.0 v.1.1.0 v.1.1.1.0 v.1.1.1.1)

-- a clash
unfoldable pub read_clash : LineSizes → List ℕ → Result LemmaLine LineFault
read_clash sizes bs =
    read_back (agent_part sizes & last_number (below sizes.agents)) bs >>= λ v. Ok (lines.Clash v.0 v.1)

-- a split or a clash
unfoldable pub read_split_line : LineSizes → List ℕ → Result LemmaLine LineFault
read_split_line sizes bs =
    after_word (codes "vertex") (read_vertex sizes) bs
    (after_word (codes "swap") (read_swap sizes) bs
    (after_word (codes "costs") (read_costs sizes) bs
    (after_word (codes "cost") (read_cost_split sizes) bs
    (after_word (codes "clash") (read_clash sizes) bs (Err Shape)))))

-- the first line of a leaf
unfoldable pub read_leaf : LineSizes → List ℕ → Result LemmaLine LineFault
read_leaf sizes bs =
    read_back (up_to sizes.agents & up_to sizes.agents & last_list_number sizes.lists) bs
    >>= λ v. Ok (lines.Leaf v.0 v.1.0 v.1.1)

-- the first line of a group
unfoldable pub read_group : List ℕ → Result LemmaLine LineFault
read_group bs =
    read_back (one_to most_uses & last_one_to greatest_weight) bs >>= λ v. Ok (lines.Group v.0 v.1)

-- a use outside groups
unfoldable pub read_single_use : List ℕ → Result LemmaLine LineFault
read_single_use bs = read_back (last_up_to most_listed) bs >>= λ n. Ok (lines.Use n)

-- a use in a group
unfoldable pub read_weighted_use : List ℕ → Result LemmaLine LineFault
read_weighted_use bs =
    read_back (up_to most_listed & last_one_to greatest_weight) bs
    >>= λ v. Ok (lines.WeightedUse (record { lemma = v.0; weight = v.1 }))

-- a use
unfoldable pub read_use : List ℕ → Result LemmaLine LineFault
read_use bs = or_else (read_single_use bs) (read_weighted_use bs)

-- a line of a leaf
unfoldable pub read_leaf_line : LineSizes → List ℕ → Result LemmaLine LineFault
read_leaf_line sizes bs =
    after_word (codes "use") read_use bs
    (after_word (codes "group") read_group bs
    (after_word (codes "leaf") (read_leaf sizes) bs (Err Shape)))

-- a label or cells of two agents
unfoldable pub read_label_line : LineSizes → List ℕ → Result LemmaLine LineFault
read_label_line sizes bs =
    after_word (codes "at") (read_at sizes) bs (after_word (codes "cells") (read_cells sizes) bs (Err Shape))

-- the end
unfoldable pub read_end : List ℕ → Result LemmaLine LineFault
read_end bs = if bytes_eq bs (codes "end") then Ok lines.End else Err Shape

-- any line after the first three
unfoldable pub read_later : LineSizes → List ℕ → Result LemmaLine LineFault
read_later sizes bs =
    or_else (read_label_line sizes bs) (or_else (read_price_line sizes bs) (or_else (read_constraint_line sizes bs)
    (or_else (read_leaf_line sizes bs) (or_else (read_split_line sizes bs) (or_else (read_lemma_line sizes bs)
    (read_end bs))))))

-- the title
unfoldable pub read_title : List ℕ → Result LemmaLine LineFault
read_title bs = if bytes_eq bs (codes "mapf-cert 3") then Ok lines.Title else Err Shape

-- a number of agents
unfoldable pub read_count : List ℕ → Result LemmaLine LineFault
read_count bs = read_back (last_one_to most_agents) bs >>= λ n. Ok (lines.Agents n)

-- the line of the number of agents
unfoldable pub read_agents : List ℕ → Result LemmaLine LineFault
read_agents bs = after_word (codes "agents") read_count bs (Err Shape)

-- a claimed cost
unfoldable pub read_cost : List ℕ → Result LemmaLine LineFault
read_cost bs = read_back (last_up_to greatest_sum) bs >>= λ n. Ok (lines.Claim (claims.Cost n))

-- a claimed bound
unfoldable pub read_bound : List ℕ → Result LemmaLine LineFault
read_bound bs = read_back (last_up_to greatest_sum) bs >>= λ n. Ok (lines.Claim (claims.Bound n))

-- the line of the claim
unfoldable pub read_claim : List ℕ → Result LemmaLine LineFault
read_claim bs =
    if bytes_eq bs (codes "claim impossible") then Ok (lines.Claim claims.Impossible) else
    after_word (codes "claim cost") read_cost bs (after_word (codes "claim bound") read_bound bs (Err Shape))

-- a line that may come
abbrev pub read_line : LinePlace → List ℕ → Result LemmaLine LineFault
read_line places.Title bs = read_title bs
read_line places.Agents bs = read_agents bs
read_line places.Claim bs = read_claim bs
read_line (places.Later sizes) bs = read_later sizes bs
