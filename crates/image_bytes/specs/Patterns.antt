-- What is not a number, as bits: the one pattern that is written for it, and all that are read as it. Assumes nothing.
use Rattle.std.specs.Prelude.{ℕ, ◌%◌, ◌<◌, ◌≡◌, true, T, Float}
use Rattle.std.proofs.Common.{sym, ap, ◌∙◌, subst, lt-ltb}
use Rattle.std.specs.Float.{binary64}
use Rattle.std.specs.Float.Ieee.{div, ne, of_bits, to_bits}
use Rattle.std.specs.Float.Ieee.Bits.{nan_bits_is, nan_bits_above}
use Rattle.std.specs.Float.Ieee.Compare.{differs_from_itself}
use Rattle.float_order.specs.Next.{INF, TOP}
use Rattle.float_order.proofs.Bits.{ne-self}

pub nan-bits : (x : Float) → ne x x ≡ true → 0x7ff8000000000000 ≡ to_bits binary64 x
unfolding to_bits
nan-bits x h = sym (ap (to_bits binary64) (differs_from_itself x (subst T (sym h) tt)))

pub nan-float : (n : ℕ) → INF < n % TOP → div binary64 (of_bits binary64 0) (of_bits binary64 0) ≡ of_bits binary64 n
unfolding div of_bits
nan-float n h =
    let v : Float = of_bits binary64 n in
    let e : ne v v ≡ true = ne-self v ∙ sym (nan_bits_is binary64 n) ∙ nan_bits_above binary64 n ∙ lt-ltb INF (n % TOP) h in
    sym (differs_from_itself v (subst T (sym e) tt))
