-- The same numbers with no integer: a number is (p - n) / D, a difference of two natural numbers over a scale D, which `omega` reads. Definitions only.
-- Each order is written with every term on the side where it is added: a - b ≤ c - d is a + d ≤ c + b.
use Rattle.std.specs.Prelude.{ℕ, suc, ◌+◌, ◌*◌, ◌≤◌, true, false, ℤ, pos, negsuc, Float}
use Rattle.std.specs.Float.{nan, inf, fin}
use Rattle.float_values.specs.Value.{ONE, units}

-- a finite float is plus x - minus x units
abbrev pub plus : Float → ℕ
plus nan = 0
plus (inf s) = 0
plus (fin false m e) = units (fin false m e)
plus (fin true m e) = 0

abbrev pub minus : Float → ℕ
minus nan = 0
minus (inf s) = 0
minus (fin false m e) = 0
minus (fin true m e) = units (fin true m e)

-- an integer is over A - under A
abbrev pub over : ℤ → ℕ
over (pos a) = a
over (negsuc a) = 0

abbrev pub under : ℤ → ℕ
under (pos a) = 0
under (negsuc a) = suc a

-- x ≤ (p - n) / D
abbrev pub Lower : ℕ → Float → ℕ → ℕ → Type 0
Lower D nan p n = ⊥
Lower D (inf true) p n = Unit {0}
Lower D (inf false) p n = ⊥
Lower D (fin s m e) p n = plus (fin s m e) * D + n * ONE ≤ p * ONE + minus (fin s m e) * D

-- (p - n) / D ≤ x
abbrev pub Upper : ℕ → Float → ℕ → ℕ → Type 0
Upper D nan p n = ⊥
Upper D (inf true) p n = ⊥
Upper D (inf false) p n = Unit {0}
Upper D (fin s m e) p n = p * ONE + minus (fin s m e) * D ≤ plus (fin s m e) * D + n * ONE
