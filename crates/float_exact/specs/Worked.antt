-- Which sums are exact, computed by antt at the edges. Assumes nothing.
use Rattle.std.specs.Prelude.{◌≡◌, refl, Bool, true, false, [], ◌∷◌, ℕ}
use Rattle.std.specs.Float.{binary64}
use Rattle.std.specs.Float.Ieee.{add, of_bits}
use Rattle.float_values.specs.Value.{ONE}
use Rattle.float_exact.specs.Exact.{exact_sum}

abbrev sum : ℕ → ℕ → Bool
sum a b = exact_sum (of_bits binary64 a) (of_bits binary64 b)

-- the zeros, the least value with itself and with the largest below the normal ones, 1 with 2 ^ -52, 1 / 2 with 1 / 4, the largest with its negative
exact-sums : sum 0 0x8000_0000_0000_0000 ∷ sum 1 1 ∷ sum 1 0x000f_ffff_ffff_ffff ∷ sum 0x3ff0_0000_0000_0000 0x3cb0_0000_0000_0000
    ∷ sum 0x3fe0_0000_0000_0000 0x3fd0_0000_0000_0000 ∷ sum 0x7fef_ffff_ffff_ffff 0xffef_ffff_ffff_ffff ∷ []
    ≡ true ∷ true ∷ true ∷ true ∷ true ∷ true ∷ []
unfolding of_bits exact_sum add ONE
exact-sums = refl

-- 1 with 2 ^ -53, either way round, 0.1 with 0.2, the least value with 1, the largest with 1
rounded-sums : sum 0x3ff0_0000_0000_0000 0x3ca0_0000_0000_0000 ∷ sum 0x3ca0_0000_0000_0000 0x3ff0_0000_0000_0000 ∷ sum 0x3fb9_9999_9999_999a 0x3fc9_9999_9999_999a
    ∷ sum 1 0x3ff0_0000_0000_0000 ∷ sum 0x7fef_ffff_ffff_ffff 0x3ff0_0000_0000_0000 ∷ []
    ≡ false ∷ false ∷ false ∷ false ∷ false ∷ []
unfolding of_bits exact_sum add ONE
rounded-sums = refl

-- the largest with itself overflows; an infinity with 1 and with its negative; a NaN, first and second
no-sums : sum 0x7fef_ffff_ffff_ffff 0x7fef_ffff_ffff_ffff ∷ sum 0x7ff0_0000_0000_0000 0x3ff0_0000_0000_0000 ∷ sum 0x7ff0_0000_0000_0000 0xfff0_0000_0000_0000
    ∷ sum 0x7ff8_0000_0000_0000 0x3ff0_0000_0000_0000 ∷ sum 0x3ff0_0000_0000_0000 0x7ff8_0000_0000_0000 ∷ []
    ≡ false ∷ false ∷ false ∷ false ∷ false ∷ []
unfolding of_bits exact_sum add ONE
no-sums = refl
