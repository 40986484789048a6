-- `next_down` and `next_up` by the sign and the index of a value. Assumes nothing.
use Rattle.std.specs.Prelude.{◌≡◌, refl, ℕ, zero, suc, ◌+◌, ◌-◌, ◌≤◌, ◌<◌, Bool, true, false}
use Rattle.std.proofs.Common.{ap, ◌∙◌, le_refl, le_of_lt, arith, lit≤, ne_eqb, lt-ltb, le-ltb}
use Rattle.std.specs.Float.{nan, binary64}
use Rattle.std.specs.Float.Ieee.{is_nan, of_bits, to_bits}
use Rattle.std.specs.Float.Ieee.Bits.{cond_no}
use Rattle.float_order.specs.Next.{INF, TOP, NEGINF, up_bits, down_bits, next_up, next_down}
use Rattle.float_values.specs.Laws.Patterns.{F, sg, F-bits, F-no-nan}

-- a step, by the index on the right side of the sign
down-at : (s : Bool) (b n : ℕ) → b ≤ INF → down_bits (sg s + b) ≡ n → next_down (F s b) ≡ of_bits binary64 n
unfolding next_down
down-at s b n h e =
    cond_no (is_nan (F s b)) nan (of_bits binary64 (down_bits (to_bits binary64 (F s b)))) (F-no-nan s b h)
    ∙ ap (λ (z : ℕ). of_bits binary64 (down_bits z)) (F-bits s b h)
    ∙ ap (of_bits binary64) e

up_at : (s : Bool) (b n : ℕ) → b ≤ INF → up_bits (sg s + b) ≡ n → next_up (F s b) ≡ of_bits binary64 n
unfolding next_up
up_at s b n h e =
    cond_no (is_nan (F s b)) nan (of_bits binary64 (up_bits (to_bits binary64 (F s b)))) (F-no-nan s b h)
    ∙ ap (λ (z : ℕ). of_bits binary64 (up_bits z)) (F-bits s b h)
    ∙ ap (of_bits binary64) e

pub down-zero : next_down (F false 0) ≡ F true 1
unfolding F
down-zero = down-at false 0 (TOP + 1) (lit≤ tt) refl

pub down_pos : (b : ℕ) → suc b ≤ INF → next_down (F false (suc b)) ≡ F false b
unfolding F
down_pos b h = down-at false (suc b) (0 + b) h
    (rw (ne_eqb (0 + suc b) NEGINF (no-neginf b h), ne_eqb (0 + suc b) 0 (no_zero b), lt-ltb (0 + suc b) TOP (under b h)) (less b))
  where
    no-neginf : (b : ℕ) → suc b ≤ INF → 0 + suc b ≡ NEGINF → ⊥
    no-neginf b h e = omega arith

    no_zero : (b : ℕ) → 0 + suc b ≡ 0 → ⊥
    no_zero b e = omega arith

    under : (b : ℕ) → suc b ≤ INF → 0 + suc b < TOP
    under b h = omega arith

    less : (b : ℕ) → 0 + suc b - 1 ≡ 0 + b
    less b = omega arith

pub down-neg : (b : ℕ) → b < INF → next_down (F true b) ≡ F true (suc b)
unfolding F
down-neg b h = down-at true b (TOP + suc b) (le_of_lt h)
    (rw (ne_eqb (TOP + b) NEGINF (no-neginf b h), ne_eqb (TOP + b) 0 (no_zero b), le-ltb (TOP + b) TOP (above b)) (more b))
  where
    no-neginf : (b : ℕ) → b < INF → TOP + b ≡ NEGINF → ⊥
    no-neginf b h e = omega arith

    no_zero : (b : ℕ) → TOP + b ≡ 0 → ⊥
    no_zero b e = omega arith

    above : (b : ℕ) → TOP ≤ TOP + b
    above b = omega arith

    more : (b : ℕ) → TOP + b + 1 ≡ TOP + suc b
    more b = omega arith

pub down_inf : next_down (F true INF) ≡ F true INF
unfolding F
down_inf = down-at true INF NEGINF (le_refl INF) refl

pub up-zero : next_up (F true 0) ≡ F false 1
unfolding F
up-zero = up_at true 0 1 (lit≤ tt) refl

pub up_pos : (b : ℕ) → b < INF → next_up (F false b) ≡ F false (suc b)
unfolding F
up_pos zero h = up_at false 0 1 (lit≤ tt) refl
up_pos (suc b) h = up_at false (suc b) (0 + suc (suc b)) (le_of_lt h)
    (rw (ne_eqb (0 + suc b) INF (no-inf b h), ne_eqb (0 + suc b) 0 (no_zero b), lt-ltb (0 + suc b) TOP (under b h)) (more b))
  where
    no-inf : (b : ℕ) → suc b < INF → 0 + suc b ≡ INF → ⊥
    no-inf b h e = omega arith

    no_zero : (b : ℕ) → 0 + suc b ≡ 0 → ⊥
    no_zero b e = omega arith

    under : (b : ℕ) → suc b < INF → 0 + suc b < TOP
    under b h = omega arith

    more : (b : ℕ) → 0 + suc b + 1 ≡ 0 + suc (suc b)
    more b = omega arith

pub up_neg : (b : ℕ) → suc b ≤ INF → next_up (F true (suc b)) ≡ F true b
unfolding F
up_neg b h = up_at true (suc b) (TOP + b) h
    (rw (ne_eqb (TOP + suc b) INF (no-inf b), ne_eqb (TOP + suc b) 0 (no_zero b), le-ltb (TOP + suc b) TOP (above b), ne_eqb (TOP + suc b) TOP (not_top b)) (less b))
  where
    no-inf : (b : ℕ) → TOP + suc b ≡ INF → ⊥
    no-inf b e = omega arith

    no_zero : (b : ℕ) → TOP + suc b ≡ 0 → ⊥
    no_zero b e = omega arith

    above : (b : ℕ) → TOP ≤ TOP + suc b
    above b = omega arith

    not_top : (b : ℕ) → TOP + suc b ≡ TOP → ⊥
    not_top b e = omega arith

    less : (b : ℕ) → TOP + suc b - 1 ≡ TOP + b
    less b = omega arith

pub up_inf : next_up (F false INF) ≡ F false INF
unfolding F
up_inf = up_at false INF INF (le_refl INF) refl
