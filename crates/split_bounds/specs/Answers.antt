-- What `edge_parameter_bounds` answers (euler.rs; 01, "`edge_parameter_bounds` makes tests 2 and 4 to 8 alone"; "Every call tests 9 first"). Definitions only.
use Rattle.std.specs.Prelude.{ℕ, List, Float}
use Rattle.geom_lines_planes.specs.Refuse.{◌unless◌, ◌then◌, answer}
use Rattle.meaning.specs.Split.{lo, hi, bounds_refusal}
use Rattle.memory_layout.specs.Decode.{decode}
use Rattle.memory_layout.specs.Readable.{readable}
use Rattle.split_bounds.specs.declared.Bounds.{Bounds}
use Rattle.split_bounds.specs.declared.Bounds.TheVariants.{Is, Refused}

module _ (room w : List ℕ) (x : List Float) where
  unfoldable pub bounds_number : ℕ → ℕ
  bounds_number e = 9 unless readable room w x then bounds_refusal (decode room w x) e

  unfoldable pub bounds_answer : ℕ → Bounds
  bounds_answer e = answer Is Refused (bounds_number e) (record { lo = lo (decode room w x) e; hi = hi (decode room w x) e })
