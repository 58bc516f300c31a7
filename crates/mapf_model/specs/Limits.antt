-- The limits of problems, texts and searches. (Own)
use Rattle.std.specs.Prelude.{ℕ}

-- agents of a problem
abbrev pub most_agents : ℕ
most_agents = 200

-- columns or rows of a grid
abbrev pub greatest_side : ℕ
greatest_side = 2048

-- cells of a grid: the most columns times the most rows
abbrev pub most_cells : ℕ
most_cells = 4194304

-- cells of a path
abbrev pub most_path_cells : ℕ
most_path_cells = 10000000

-- the cost of one path, a label and the tick of an entry, in ticks: the steps of a path with the most cells
abbrev pub greatest_cost : ℕ
greatest_cost = 9999999

-- a sum of costs, in ticks: the most agents, each with the greatest cost
abbrev pub greatest_sum : ℕ
greatest_sum = 1999999800

-- splits that a search may be allowed
abbrev pub most_splits : ℕ
most_splits = 100000

-- the last tick of a conflict that may be split
abbrev pub last_split_tick : ℕ
last_split_tick = 999999

-- the first tick whose conflicts aren't split any more
abbrev pub split_ticks : ℕ
split_ticks = 1000000

-- bytes of a map, a scenario, a plan text or an event text: 64 mebibytes
abbrev pub most_text_bytes : ℕ
most_text_bytes = 67108864

-- bytes of a certificate: one tebibyte
abbrev pub most_cert_bytes : ℕ
most_cert_bytes = 1099511627776

-- bytes of a line of a certificate, without its LF
abbrev pub longest_cert_line : ℕ
longest_cert_line = 64
