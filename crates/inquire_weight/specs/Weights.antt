-- What is known of the weight of sides met one after the other. No reader of a public promise needs this file. Definitions only.
use Rattle.std.specs.Prelude.{ℕ, Bool, false, cond, not, ◌&&◌, List, nat_le, nat_lt}
use Rattle.meaning.specs.Model.{Model}
use Rattle.meaning.specs.Inquire.{Side}
use Rattle.meaning_sheets.specs.Sheets.{grid_sides, triangles}
use Rattle.meaning_sheet_laws.specs.Parts.{plus_sum, minus_sum}
use Rattle.inquire_weight.specs.declared.Weight.{Weight}

-- a count of triangles, as far as it matters
unfoldable pub capped : ℕ → ℕ
capped n = cond (nat_lt 4096 n) 4097 n

-- of no side
abbrev pub no_weight : Weight
no_weight = record { off = false; triangles = 0; plus = 0; minus = 0 }

-- the sides can be summed
abbrev pub light : Model → List Side → Bool
light m l = grid_sides m l && nat_le (triangles m l) 4096

unfoldable pub weight_of : Model → List Side → Weight
weight_of m l =
    record {
      off = not (grid_sides m l);
      triangles = capped (triangles m l);
      plus = cond (light m l) (plus_sum m l) 0;
      minus = cond (light m l) (minus_sum m l) 0;
    }
