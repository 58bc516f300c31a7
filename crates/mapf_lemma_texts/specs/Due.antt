-- Which part comes next, by those that were read.
use Rattle.std.specs.Prelude.{◌≡◌, ◌≤◌, ◌+◌, ◌-◌, ◌==◌, ℕ, ⊤, if◌then◌else◌}
use Rattle.mapf_lemma_texts.specs.declared.due.Due.{Due}
use Rattle.mapf_lemma_texts.specs.declared.due.Due.TheVariants as dues
use Rattle.mapf_lemma_texts.specs.declared.line.LemmaLine.{LemmaLine}
use Rattle.mapf_lemma_texts.specs.declared.line.LemmaLine.TheVariants as lines
use Rattle.mapf_lemma_texts.specs.declared.part.Part.{Part}
use Rattle.mapf_lemma_texts.specs.declared.part.Part.TheVariants as parts

-- the first line of a lemma
abbrev pub IsLemmaHead : LemmaLine → Type 0
IsLemmaHead (lines.One agent count entries list_number) = ⊤
IsLemmaHead (lines.Two first second count first_entries second_entries joint_entries list_number) = ⊤
IsLemmaHead (lines.Never first second count) = ⊤
IsLemmaHead (lines.Cases agents count bound) = ⊤
IsLemmaHead _ = ⊥

-- the first line of a node of a tree
abbrev pub IsNodeHead : LemmaLine → Type 0
IsNodeHead (lines.Vertex i j cell tick) = ⊤
IsNodeHead (lines.Swap i j from to tick) = ⊤
IsNodeHead (lines.Cost i ticks) = ⊤
IsNodeHead (lines.Costs i ticks j least lemma) = ⊤
IsNodeHead (lines.Leaf count groups list_number) = ⊤
IsNodeHead (lines.Clash i j) = ⊤
IsNodeHead _ = ⊥

-- a list comes if one is left, else the number of lemmas
abbrev pub AdmitsList : ℕ → LemmaLine → Type 0
AdmitsList left (lines.List unit count) = 1 ≤ left
AdmitsList left (lines.Lemmas count) = left ≡ 0
AdmitsList left _ = ⊥

-- the number of lists comes
abbrev pub IsListCount : LemmaLine → Type 0
IsListCount (lines.Prices count) = ⊤
IsListCount _ = ⊥

-- a part may begin with this line here
abbrev pub Admits : Due → LemmaLine → Type 0
Admits dues.Prices line = IsListCount line
Admits (dues.Lists left) line = AdmitsList left line
Admits (dues.Lemmas left) line = (1 ≤ left) × IsLemmaHead line
Admits (dues.Cases pending left) line = (1 ≤ pending) × IsNodeHead line
Admits (dues.Tree pending) line = (1 ≤ pending) × IsNodeHead line

-- how many subtrees are pending after a node
abbrev pub pending_after : ℕ → Part → ℕ
pending_after pending (parts.Leaf leaf) = pending - 1
pending_after pending (parts.Clash i j) = pending - 1
pending_after pending split = pending + 1

-- so many lemmas are left; if none is, the last tree comes
abbrev pub lemmas_due : ℕ → Due
lemmas_due left = if left == 0 then dues.Tree 1 else dues.Lemmas left

-- so many subtrees of a lemma by cases are pending, and so many lemmas are left after it
abbrev pub cases_due : ℕ → ℕ → Due
cases_due pending left = if pending == 0 then lemmas_due left else dues.Cases pending left

-- what comes after a lemma or its head, if so many lemmas are left after it
abbrev pub after_lemma : ℕ → Part → Due
after_lemma left (parts.Cases lemma) = cases_due 1 left
after_lemma left lemma = lemmas_due left

-- what comes after a list or the number of lemmas
abbrev pub after_list : ℕ → Part → Due
after_list left (parts.Lemmas count) = lemmas_due count
after_list left list = dues.Lists (left - 1)

-- what comes after the number of lists
abbrev pub after_count : Part → Due
after_count (parts.Prices count) = dues.Lists count
after_count part = dues.Prices

-- what comes after a part
abbrev pub due_after : Due → Part → Due
due_after dues.Prices part = after_count part
due_after (dues.Lists left) part = after_list left part
due_after (dues.Lemmas left) part = after_lemma (left - 1) part
due_after (dues.Cases pending left) part = cases_due (pending_after pending part) left
due_after (dues.Tree pending) part = dues.Tree (pending_after pending part)

-- how many subtrees are pending; where no tree has begun, the one to come counts
abbrev pub pending_at : Due → ℕ
pending_at (dues.Cases pending left) = pending
pending_at (dues.Tree pending) = pending
pending_at due = 1

-- how many lists the text has, if this part is read after so many were told
abbrev pub lists_after : ℕ → Part → ℕ
lists_after lists (parts.Prices count) = count
lists_after lists part = lists
