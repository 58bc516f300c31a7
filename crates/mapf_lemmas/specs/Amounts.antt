-- Amounts as they are kept: a number, of which the greatest stands for infinitely many units.
use Rattle.std.specs.Prelude.{ℕ, ◌+◌, ◌-◌, ◌<◌, ◌^◌, ◌==◌, ⊤, Option, Some, None, if◌then◌else◌}
use Rattle.mapf_model.specs.declared.label.Label.{Label}
use Rattle.mapf_model.specs.declared.label.Label.TheVariants.{Ticks, Never}

-- the amount for which the number stands
abbrev pub amount_label : ℕ → Label
amount_label n = if n == 2 ^ 64 - 1 then Never else Ticks n

-- the number that stands for the amount
abbrev pub amount_units : Label → ℕ
amount_units (Ticks n) = n
amount_units Never = 2 ^ 64 - 1

-- the units of an amount, none if it is infinite
abbrev pub units_in : Label → Option ℕ
units_in (Ticks n) = Some n
units_in Never = None

-- the sum of two finite amounts fits
abbrev pub SumFits : Label → Label → Type 0
SumFits (Ticks m) (Ticks n) = m + n < 2 ^ 64 - 1
SumFits one other = ⊤
