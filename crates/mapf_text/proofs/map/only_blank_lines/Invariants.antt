use Rattle.std.proofs.Common.{◌≡◌, ◌+◌, ◌<◌, ◌≤◌, ℕ, [], true, length, drop, slice_index_or}
use Rattle.mapf_text.specs.Lines.{lines_of}
use Rattle.mapf_text.specs.Words.{is_blank_line}
use Rattle.mapf_text.proofs.map.only_blank_lines.Given as goal

-- so many lines before were blank, and each took a byte at least
abbrev pub invariant-loop-line : goal.invariant-loop-line
invariant-loop-line l = (n : ℕ) × (l.number ≡ l.first + n) × (n + length l.rest ≤ length l.text) × (lines_of l.rest ≡ drop n (lines_of l.text)) × ((k : ℕ) → k < n → is_blank_line (slice_index_or (lines_of l.text) k []) ≡ true)

abbrev pub decreases-loop-line : goal.decreases-loop-line
decreases-loop-line l = length l.rest
