-- A step from each value at an edge, which antt computes, as Rust's `f64::next_up` and `f64::next_down` give it. Assumes nothing.
use Rattle.std.specs.Prelude.{◌≡◌, refl, List, [], ◌∷◌, map, ℕ}
use Rattle.std.specs.Float.{binary64}
use Rattle.std.specs.Float.Ieee.{of_bits, to_bits, is_nan}
use Rattle.float_order.specs.Next.{next_up, next_down}

-- the steps at the edges: both zeros, the least and the greatest values, the infinities, 1 and a power of two, and a NaN
abbrev steps : List ℕ
steps =
    0x0000_0000_0000_0000 ∷ 0x8000_0000_0000_0000 ∷ 0x0000_0000_0000_0001 ∷ 0x8000_0000_0000_0001 ∷ 0x000f_ffff_ffff_ffff ∷ 0x0010_0000_0000_0000
    ∷ 0x3ff0_0000_0000_0000 ∷ 0xbff0_0000_0000_0000 ∷ 0x7fef_ffff_ffff_ffff ∷ 0xffef_ffff_ffff_ffff ∷ 0x7ff0_0000_0000_0000 ∷ 0xfff0_0000_0000_0000 ∷ 0x7ff8_0000_0000_0000 ∷ []

steps_up : map (λ (b : ℕ). to_bits binary64 (next_up (of_bits binary64 b))) steps
    ≡ 0x0000_0000_0000_0001 ∷ 0x0000_0000_0000_0001 ∷ 0x0000_0000_0000_0002 ∷ 0x8000_0000_0000_0000 ∷ 0x0010_0000_0000_0000 ∷ 0x0010_0000_0000_0001
    ∷ 0x3ff0_0000_0000_0001 ∷ 0xbfef_ffff_ffff_ffff ∷ 0x7ff0_0000_0000_0000 ∷ 0xffef_ffff_ffff_fffe ∷ 0x7ff0_0000_0000_0000 ∷ 0xffef_ffff_ffff_ffff ∷ 0x7ff8_0000_0000_0000 ∷ []
unfolding of_bits to_bits is_nan next_up
steps_up = refl

steps-down : map (λ (b : ℕ). to_bits binary64 (next_down (of_bits binary64 b))) steps
    ≡ 0x8000_0000_0000_0001 ∷ 0x8000_0000_0000_0001 ∷ 0x0000_0000_0000_0000 ∷ 0x8000_0000_0000_0002 ∷ 0x000f_ffff_ffff_fffe ∷ 0x000f_ffff_ffff_ffff
    ∷ 0x3fef_ffff_ffff_ffff ∷ 0xbff0_0000_0000_0001 ∷ 0x7fef_ffff_ffff_fffe ∷ 0xfff0_0000_0000_0000 ∷ 0x7fef_ffff_ffff_ffff ∷ 0xfff0_0000_0000_0000 ∷ 0x7ff8_0000_0000_0000 ∷ []
unfolding of_bits to_bits is_nan next_down
steps-down = refl
