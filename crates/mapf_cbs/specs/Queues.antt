-- The open list of a search as a map: for each sum, the queue of the numbers of the open nodes of that sum.
use Rattle.std.specs.Prelude.{ℕ, ◌<◌, List, length, map, flat_map, AllPairs}
use Rattle.std.specs.declared.collections.VecDeque.{VecDeque}

-- the keys of the nodes in one entry, a sum and its queue
abbrev pub keys_of_entry : {Z : Type 0} → ℕ × VecDeque ℕ Z → List (ℕ × ℕ)
keys_of_entry entry = map (λ number. (entry.0, number)) entry.1.items

-- the keys of the nodes in all entries, in the order of the entries
abbrev pub keys_of_entries : {Z : Type 0} → List (ℕ × VecDeque ℕ Z) → List (ℕ × ℕ)
keys_of_entries entries = flat_map keys_of_entry entries

-- the queue isn't empty, and its numbers rise strictly
pub record IsOpenQueue {Z : Type 0} (queue : VecDeque ℕ Z) : Type 0 where
  pub nonempty : 0 < length queue.items
  pub rising : AllPairs ◌<◌ queue.items
