-- What it says that an interval holds an exact number. Definitions only: every promise of `Enclose.antt` is stated by these.
-- An exact number is a whole number over a power of two, A / 2 ^ k. A finite float is a whole number of units of 2 ^ -1074 (`Value.antt` of `float_values`).
use Rattle.std.specs.Prelude.{ℕ, ◌^◌, ◌≡◌, true, false, ℤ, pos, ◌+ℤ◌, ◌-ℤ◌, ◌*ℤ◌, ◌≤ℤ◌, ◌<ℤ◌, T, Float}
use Rattle.std.specs.Float.{nan, inf, fin, binary64}
use Rattle.std.specs.Float.Ieee.{fits}
use Rattle.float_values.specs.Value.{ONE, value, Real}
use Rattle.interval_arithmetic.specs.declared.Interval.{Interval}
use Rattle.interval_vectors.specs.declared.Interval3.{Interval3}
use Rattle.float_vectors.specs.declared.vector.Point3.{Point3}
use Rattle.float_vectors.specs.declared.vector.Vec3.{Vec3}
use Rattle.interval_arithmetic.specs.declared.Sign.{Sign}
use Rattle.interval_arithmetic.specs.declared.Sign.TheVariants.{Negative, Zero, Positive, Unresolved}

-- x ≤ A / 2 ^ k. -infinity is below every number; +infinity and a NaN are below none
abbrev pub LowerBound : ℕ → Float → ℤ → Type 0
LowerBound k nan A = ⊥
LowerBound k (inf true) A = Unit {0}
LowerBound k (inf false) A = ⊥
LowerBound k (fin s m e) A = (value (fin s m e) *ℤ pos (2 ^ k)) ≤ℤ (A *ℤ pos ONE)

-- A / 2 ^ k ≤ x
abbrev pub UpperBound : ℕ → Float → ℤ → Type 0
UpperBound k nan A = ⊥
UpperBound k (inf true) A = ⊥
UpperBound k (inf false) A = Unit {0}
UpperBound k (fin s m e) A = (A *ℤ pos ONE) ≤ℤ (value (fin s m e) *ℤ pos (2 ^ k))

-- The interval x holds the number A / 2 ^ k. That `f64` holds the bounds is so of every pair of them that a program has.
pub record Holds (k : ℕ) (x : Interval) (A : ℤ) : Type 0 where
  pub lo-held : T (fits binary64 x.lo)
  pub hi-held : T (fits binary64 x.hi)
  pub low : LowerBound k x.lo A
  pub high : UpperBound k x.hi A

-- ---- vectors, part by part

-- an exact vector: three whole numbers, each over 2 ^ k
pub record Whole3 : Type 0 where
  pub x : ℤ
  pub y : ℤ
  pub z : ℤ

abbrev pub minus_w : Whole3 → Whole3 → Whole3
minus_w A B = record { x = A.x -ℤ B.x; y = A.y -ℤ B.y; z = A.z -ℤ B.z }

abbrev pub dot_w : Whole3 → Whole3 → ℤ
dot_w A B = A.x *ℤ B.x +ℤ A.y *ℤ B.y +ℤ A.z *ℤ B.z

-- the numbers of a point and of a vector, in units
abbrev pub value_p : Point3 → Whole3
value_p p = record { x = value p.x; y = value p.y; z = value p.z }

abbrev pub value_v : Vec3 → Whole3
value_v v = record { x = value v.x; y = value v.y; z = value v.z }

-- a point and a vector of finite numbers
pub record RealP (p : Point3) : Type 0 where
  pub x : Real p.x
  pub y : Real p.y
  pub z : Real p.z

pub record RealV (v : Vec3) : Type 0 where
  pub x : Real v.x
  pub y : Real v.y
  pub z : Real v.z

pub record Holds3 (k : ℕ) (v : Interval3) (A : Whole3) : Type 0 where
  pub x : Holds k v.x A.x
  pub y : Holds k v.y A.y
  pub z : Holds k v.z A.z

-- ---- what a sign says of a number

abbrev pub SignOf : Sign → ℤ → Type 0
SignOf Negative A = A <ℤ pos 0
SignOf Zero A = A ≡ pos 0
SignOf Positive A = pos 0 <ℤ A
SignOf Unresolved A = Unit {0}
