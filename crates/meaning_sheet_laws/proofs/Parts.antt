-- How large the two parts of a sum over sides are, and that the sum is their difference: these rest on the sizes and on `both_sums` of specs/Parts.antt. Assumes nothing.
use Rattle.std.specs.Prelude.{ℕ, ◌*◌, ◌^◌, ◌≤◌, ◌≡◌, ℤ, nat_abs}
use native.Mathlib.Omega.{arith}
use mathlib.Core.List.{List, [], ◌∷◌}
use Rattle.std.proofs.Math.IntN.{sub_ℕ}
use Rattle.float_values.specs.Laws.Pairs.{over, under}
use Rattle.float_values.specs.Laws.Integers.{same_parts}
use Rattle.meaning.specs.Model.{Model}
use Rattle.meaning.specs.Inquire.{Side}
use Rattle.meaning_sheets.specs.Sheets.{whole_side, whole_sum, triangles}
use Rattle.meaning_sheet_laws.proofs.Sizes.{side-size}
use Rattle.meaning_sheet_laws.specs.Parts.{part_sum, plus_sum, minus_sum, over-size, under-size, sub_parts, both_sums}

module _ (f : ℤ → ℕ) (m : Model) where
  part-size : ((a : ℤ) → f a ≤ nat_abs a) → (l : List Side) → part_sum f m l ≤ 3 * 2 ^ 48 * triangles m l
  unfolding part_sum triangles
  part-size h [] = omega arith
  part-size h (s ∷ l) = omega (arith, h (whole_side m s), side-size m s, part-size h l)

module _ (m : Model) where
  pub plus-size : (l : List Side) → plus_sum m l ≤ 3 * 2 ^ 48 * triangles m l
  plus-size = part-size over m over-size

  pub minus-size : (l : List Side) → minus_sum m l ≤ 3 * 2 ^ 48 * triangles m l
  minus-size = part-size under m under-size

  pub sum_is : (l : List Side) → whole_sum m l ≡ sub_ℕ (plus_sum m l) (minus_sum m l)
  sum_is l = same_parts (whole_sum m l) (sub_ℕ (plus_sum m l) (minus_sum m l)) (omega (arith, sub_parts (plus_sum m l) (minus_sum m l), both_sums m l))
