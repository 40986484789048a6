-- A finite float lies in an interval by the program's `<=` exactly if the interval holds its number. Assumes nothing.
use Rattle.std.specs.Prelude.{◌↔◌, ◌&&◌, T, Float}
use Rattle.std.specs.Float.{binary64}
use Rattle.std.specs.Float.Ieee.{fits, le}
use Rattle.std.specs.Float.Ieee.Fits.{and_l, and_r, and_i}
use Rattle.std.specs.Float.Ieee.Scale.{finite}
use Rattle.interval_arithmetic.specs.declared.Interval.{Interval}
use Rattle.float_values.specs.Value.{ONE}
use Rattle.float_values.specs.Laws.Pairs.{plus, minus}
use Rattle.interval_enclosure.specs.Laws.Pairs.{In}
use Rattle.float_values.specs.Laws.Floats.{low_float, high-float}

pub in_float : (x : Interval) (a : Float) → T (fits binary64 x.lo) → T (fits binary64 x.hi) → T (fits binary64 a) → T (finite a)
    → T (le x.lo a && le a x.hi) ↔ In ONE x (plus a) (minus a)
in_float x a f g i j = (
  λ h. record {
    lo-held = f;
    hi-held = g;
    low = (low_float x.lo a f i j).0 (and_l (le x.lo a) (le a x.hi) h);
    high = (high-float x.hi a g i j).0 (and_r (le x.lo a) (le a x.hi) h);
  },
  λ h. and_i (le x.lo a) (le a x.hi) ((low_float x.lo a f i j).1 h.low) ((high-float x.hi a g i j).1 h.high),
)
