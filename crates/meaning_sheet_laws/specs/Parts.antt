-- A sum over sides as the difference of two natural numbers, the sum of what is above zero and of what is below, which the code keeps apart. Assumes nothing.
use Rattle.std.specs.Prelude.{ℕ, zero, suc, ◌+◌, ◌≤◌, ◌≡◌, false, ltb, ℤ, pos, negsuc, nat_abs, ◌-ℤ◌}
use native.Mathlib.Omega.{arith}
use Rattle.std.proofs.Math.Path.{refl}
use Rattle.std.proofs.Common.{ap, le-ltb}
use mathlib.Core.List.{List, [], ◌∷◌, ◌++◌}
use Rattle.std.proofs.Math.IntN.{sub_ℕ}
use Rattle.float_values.specs.Laws.Pairs.{over, under}
use Rattle.float_values.specs.Laws.Integers.{sum-parts, diff-parts}
use Rattle.meaning.specs.Model.{Model}
use Rattle.meaning.specs.Inquire.{Side}
use Rattle.meaning_sheets.specs.Sheets.{whole_side, whole_sum}

-- ---- a whole number's part f, over the sides

unfoldable pub part_sum : (ℤ → ℕ) → Model → List Side → ℕ
part_sum f m [] = 0
part_sum f m (s ∷ l) = f (whole_side m s) + part_sum f m l

abbrev pub plus_sum : Model → List Side → ℕ
plus_sum = part_sum over

abbrev pub minus_sum : Model → List Side → ℕ
minus_sum = part_sum under

module _ (f : ℤ → ℕ) (m : Model) where
  pub part_none : part_sum f m [] ≡ 0
  unfolding part_sum
  part_none = refl

  part-more : (l : List Side) (s : Side) → part_sum f m (l ++ (s ∷ [])) ≡ part_sum f m l + f (whole_side m s)
  unfolding part_sum
  part-more [] s = omega arith
  part-more (t ∷ l) s = rw (part-more l s) (omega arith)

pub over-size : (a : ℤ) → over a ≤ nat_abs a
over-size (pos n) = omega arith
over-size (negsuc n) = omega arith

pub under-size : (a : ℤ) → under a ≤ nat_abs a
under-size (pos n) = omega arith
under-size (negsuc n) = omega arith

-- ---- a difference of natural numbers, by its parts

sub_is : (p n : ℕ) → sub_ℕ p n ≡ pos p -ℤ pos n
sub_is p zero = let h : ltb p 0 ≡ false = le-ltb p 0 (omega arith) in rw h (ap pos (omega arith))
sub_is p (suc n) = refl

pub sub_parts : (p n : ℕ) → p + under (sub_ℕ p n) ≡ over (sub_ℕ p n) + n
sub_parts p n = rw (sub_is p n) (omega (arith, diff-parts (pos p) (pos n)))

module _ (m : Model) where
  pub plus-more : (l : List Side) (s : Side) → plus_sum m (l ++ (s ∷ [])) ≡ plus_sum m l + over (whole_side m s)
  plus-more = part-more over m

  pub minus-more : (l : List Side) (s : Side) → minus_sum m (l ++ (s ∷ [])) ≡ minus_sum m l + under (whole_side m s)
  minus-more = part-more under m

  pub both_sums : (l : List Side) → over (whole_sum m l) + minus_sum m l ≡ under (whole_sum m l) + plus_sum m l
  unfolding part_sum whole_sum
  both_sums [] = refl
  both_sums (s ∷ l) = omega (arith, sum-parts (whole_side m s) (whole_sum m l), both_sums l)
