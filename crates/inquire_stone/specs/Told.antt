-- The stone told from what is known of the sides. No reader of a public promise needs this file. Definitions only.
use Rattle.std.specs.Prelude.{ℕ, eqb, ltb, length, List}
use Rattle.geom_lines_planes.specs.Refuse.{◌unless◌, ◌then◌}
use Rattle.meaning.specs.Model.{Model, body}
use Rattle.meaning.specs.Refuse.{◌if◌}
use Rattle.meaning.specs.Inquire.{Side, is_solid, solid_sides, sides_refusal}
use Rattle.meaning_sheets.specs.Sheets.{grid_sides, triangles}
use Rattle.meaning_sheet_laws.specs.Parts.{plus_sum, minus_sum}
use Rattle.memory_writes.specs.Put.{unless_refused}
use Rattle.inquire_weight.specs.declared.Weight.{Weight}
use Rattle.inquire_regions.specs.declared.Tally.{Tally}
use Rattle.inquire_stone.specs.declared.Stone.{Stone}

unfoldable pub weight_number : Weight → ℕ
weight_number w = 5 if w.off then 8 if ltb 4096 w.triangles

-- a number, and sums that are read where it is 0
abbrev pub stone_with : ℕ → ℕ → ℕ → Stone
stone_with n p k = record { refused = n; plus = unless_refused n p 0; minus = unless_refused n k 0 }

unfoldable pub told_stone : Tally → Stone
told_stone t = stone_with (t.refused then 4 if t.empty then weight_number t.weight) t.weight.plus t.weight.minus

-- the tests of a body's sides
abbrev pub sides_number : Model → List Side → ℕ
sides_number m l =
    sides_refusal m l
    then 4 if eqb (length l) 0
    then 5 unless grid_sides m l
    then 8 if ltb 4096 (triangles m l)
