-- What the lines of a certificate are read as.
use Rattle.std.specs.Prelude.{ℕ, ◌^◌, ◌-◌, List, [], ◌∷◌, codes, Option, Some, None, Result, Ok, Err, if◌then◌else◌}
use Rattle.std.specs.Str.{bytes_eq}
use Rattle.std.specs.Option.{option_map_or}
use Rattle.mapf_model.specs.Limits.{most_agents, greatest_cost, greatest_sum, last_split_tick}
use Rattle.mapf_model.specs.declared.conflict.Conflict.TheVariants as conflicts
use Rattle.mapf_model.specs.declared.item.Claim.TheVariants as claims
use Rattle.mapf_model.specs.declared.label.Label.{Label}
use Rattle.mapf_model.specs.declared.label.Label.TheVariants as labels
use Rattle.mapf_fields.specs.Numbers.{◌>>=◌, strip, read_field, read_last, read_pair, in_range, below, read_cell}
use Rattle.mapf_certificate.specs.declared.version.Version.{Version}
use Rattle.mapf_certificate.specs.declared.version.Version.TheVariants.{One, Two}
use Rattle.mapf_certificate.specs.declared.line.CertLine.{CertLine}
use Rattle.mapf_certificate.specs.declared.line.CertLine.TheVariants as lines
use Rattle.mapf_fields.specs.declared.fault.LineFault.{LineFault}
use Rattle.mapf_fields.specs.declared.fault.LineFault.TheVariants.{Shape}
use Rattle.mapf_certificate.specs.declared.sizes.Sizes.{Sizes}
use Rattle.mapf_certificate.specs.declared.tree_line.Due.{Due}
use Rattle.mapf_certificate.specs.declared.tree_line.Due.TheVariants as dues
use Rattle.mapf_certificate.specs.declared.tree_line.LabelWord.{LabelWord}
use Rattle.mapf_certificate.specs.declared.tree_line.LabelWord.TheVariants as label_words

-- the title
unfoldable pub read_title : List ℕ → Result CertLine LineFault
read_title bs =
    if bytes_eq bs (codes "mapf-cert 1") then Ok (lines.Title One) else
    if bytes_eq bs (codes "mapf-cert 2") then Ok (lines.Title Two) else Err Shape

-- a number of agents
unfoldable pub read_count : List ℕ → Result ℕ LineFault
read_count bs = read_last 32 bs >>= in_range 1 most_agents

-- a sum of costs
unfoldable pub read_cost : List ℕ → Result ℕ LineFault
read_cost bs = read_last 32 bs >>= in_range 0 greatest_sum

-- the line of the number of agents
unfoldable pub read_agents : List ℕ → Result CertLine LineFault
read_agents bs =
    option_map_or (λ rest. read_count rest >>= λ n. Ok (lines.Agents n)) (strip (codes "agents") bs) (Err Shape)

-- the line of a bound, which version 1 can't claim
unfoldable pub read_bound_claim : Version → List ℕ → Result CertLine LineFault
read_bound_claim One bs = Err Shape
read_bound_claim Two bs =
    option_map_or (λ rest. read_cost rest >>= λ n. Ok (lines.Claim (claims.Bound n))) (strip (codes "claim bound") bs)
    (Err Shape)

-- the line of the claim
unfoldable pub read_claim : Version → List ℕ → Result CertLine LineFault
read_claim version bs =
    if bytes_eq bs (codes "claim impossible") then Ok (lines.Claim claims.Impossible) else
    option_map_or (λ rest. read_cost rest >>= λ n. Ok (lines.Claim (claims.Cost n))) (strip (codes "claim cost") bs)
    (read_bound_claim version bs)

-- the number of blocks at the end of a split's line, which version 1 doesn't have
unfoldable pub read_blocks : Version → List ℕ → Result (Option (Option ℕ)) LineFault
read_blocks One [] = Ok None
read_blocks One (b ∷ bs) = Err Shape
read_blocks Two bs = read_last 32 bs >>= λ n. Ok (Some n)

-- this number in its range
abbrev pub blocks_in_range : ℕ → Option (Option ℕ) → Result (Option ℕ) LineFault
blocks_in_range agents None = Ok None
blocks_in_range agents (Some blocks) = in_range 0 agents blocks >>= λ n. Ok (Some n)

-- a split on a vertex conflict
unfoldable pub read_vertex : Sizes → List ℕ → Result CertLine LineFault
read_vertex sizes bs = do
  i ← read_field 32 bs
  j ← read_field 32 i.1
  at ← read_pair j.1
  tick ← read_field 32 at.2
  blocks ← read_blocks sizes.version tick.1
  first ← below sizes.agents i.0
  second ← below sizes.agents j.0
  cell ← read_cell sizes.width sizes.height at.0 at.1
  ticks ← in_range 0 last_split_tick tick.0
  count ← blocks_in_range sizes.agents blocks
  Ok (lines.Split (conflicts.Vertex first second cell ticks) count)

-- a split on a swapping conflict
unfoldable pub read_swap : Sizes → List ℕ → Result CertLine LineFault
read_swap sizes bs = do
  i ← read_field 32 bs
  j ← read_field 32 i.1
  here ← read_pair j.1
  there ← read_pair here.2
  tick ← read_field 32 there.2
  blocks ← read_blocks sizes.version tick.1
  first ← below sizes.agents i.0
  second ← below sizes.agents j.0
  from ← read_cell sizes.width sizes.height here.0 here.1
  to ← read_cell sizes.width sizes.height there.0 there.1
  ticks ← in_range 0 last_split_tick tick.0
  count ← blocks_in_range sizes.agents blocks
  Ok (lines.Split (conflicts.Swap first second from to ticks) count)

-- a leaf
unfoldable pub read_leaf : Sizes → List ℕ → Result CertLine LineFault
read_leaf sizes bs = do
  blocks ← read_last 32 bs
  count ← in_range 0 sizes.agents blocks
  Ok (lines.Leaf count)

-- a clash
unfoldable pub read_clash : Sizes → List ℕ → Result CertLine LineFault
read_clash sizes bs = do
  i ← read_field 32 bs
  j ← read_last 32 i.1
  first ← below sizes.agents i.0
  second ← below sizes.agents j
  Ok (lines.Clash first second)

-- the first line of a block
unfoldable pub read_agent : Sizes → List ℕ → Result CertLine LineFault
read_agent sizes bs = do
  i ← read_field 32 bs
  entries ← read_last 32 i.1
  agent ← below sizes.agents i.0
  count ← in_range 1 (2 ^ 64 - 1) entries
  Ok (lines.Agent agent count)

-- the last word of an entry
unfoldable pub read_label_word : List ℕ → Result LabelWord LineFault
read_label_word bs =
    if bytes_eq bs (codes " inf") then Ok label_words.Never else (read_last 32 bs >>= λ n. Ok (label_words.Ticks n))

-- the label that such a word spells
abbrev pub label_in_range : LabelWord → Result Label LineFault
label_in_range label_words.Never = Ok labels.Never
label_in_range (label_words.Ticks ticks) = in_range 1 greatest_cost ticks >>= λ n. Ok (labels.Ticks n)

-- an entry
unfoldable pub read_entry : Sizes → List ℕ → Result CertLine LineFault
read_entry sizes bs = do
  at ← read_pair bs
  tick ← read_field 32 at.2
  word ← read_label_word tick.1
  cell ← read_cell sizes.width sizes.height at.0 at.1
  ticks ← in_range 0 greatest_cost tick.0
  label ← label_in_range word
  Ok (lines.At (record { cell = cell; tick = ticks; label = label }))

-- a line of the tree, by its first word
unfoldable pub read_tree_line : Sizes → List ℕ → Result CertLine LineFault
read_tree_line sizes bs =
    option_map_or (read_entry sizes) (strip (codes "at") bs)
    (option_map_or (read_agent sizes) (strip (codes "agent") bs)
    (option_map_or (read_leaf sizes) (strip (codes "leaf") bs)
    (option_map_or (read_vertex sizes) (strip (codes "vertex") bs)
    (option_map_or (read_swap sizes) (strip (codes "swap") bs)
    (option_map_or (read_clash sizes) (strip (codes "clash") bs)
    (if bytes_eq bs (codes "end") then Ok lines.End else Err Shape))))))

-- the line that is expected
abbrev pub read_line : Due → List ℕ → Result CertLine LineFault
read_line dues.Title bs = read_title bs
read_line dues.Agents bs = read_agents bs
read_line (dues.Claim version) bs = read_claim version bs
read_line (dues.Tree sizes) bs = read_tree_line sizes bs
