-- Sums, differences and products of numbers that are small enough are what `i64` makes of them. A signed local holds bits, so each step is stated of what is read back from them. Assumes nothing.
use Rattle.std.specs.Prelude.{ℕ, zero, suc, ◌+◌, ◌*◌, ◌^◌, ◌≤◌, ◌<◌, ◌≡◌, refl, ℤ, pos, negsuc, nat_abs, ◌+ℤ◌, ◌-ℤ◌, ◌*ℤ◌, Float}
use Rattle.std.proofs.Common.{le_trans, lt_of_le_of_lt, arith, sym, ◌∙◌, subst, lit<, to_z, of_z, SFits}
use Rattle.std.proofs.Math.Path.{ap}
use Rattle.std.specs.Int.Signed.{mag}
use Rattle.std.specs.Int.{w64}
use Rattle.std.proofs.lemmas.Int.{to_z-of_z}
use Rattle.float_grid.specs.Grid.{sixteenths}
use Rattle.meaning_sheets.specs.Sheets as Sheets
use Rattle.meaning_sheets.specs.Sheets.{dot_c, wedge}
use Rattle.meaning_sheet_laws.specs.Sizes.{Within, Small, sixteenths-size, arm-size, area-size, cross-size, part-size, term-size, two-terms, three-terms, wedge-size}
use Rattle.inquire_corners.specs.declared.Corner.{Corner}
use Rattle.inquire_corners.specs.Seen.{seen}

-- what is read back from the bits of a number
abbrev pub bits : ℤ → ℤ
bits z = to_z w64 (of_z w64 z)

-- a number that `i64` holds by its size
pub fitting : (z : ℤ) → nat_abs z ≤ 2 ^ 62 → SFits w64 z
fitting z h = record { sfits = lt_of_le_of_lt (le_trans (mag-size z) h) (lit< tt) }
  where
    mag-size : (z : ℤ) → mag z ≤ nat_abs z
    mag-size (pos n) = omega arith
    mag-size (negsuc n) = omega arith

pub plain : (z : ℤ) → nat_abs z ≤ 2 ^ 62 → bits z ≡ z
plain z h = to_z-of_z w64 z (fitting z h)

-- one step of two numbers that are held
module _ (◌⊕◌ : ℤ → ℤ → ℤ) (a b : ℤ) (h : nat_abs a ≤ 2 ^ 62) (g : nat_abs b ≤ 2 ^ 62) (k : nat_abs (◌⊕◌ a b) ≤ 2 ^ 62) where
  infixl 60 ◌⊕◌
  read : (bits a ⊕ bits b) ≡ (a ⊕ b)
  read = ap (λ (z : ℤ). z ⊕ bits b) (plain a h) ∙ ap (λ (z : ℤ). a ⊕ z) (plain b g)

  step_fits : SFits w64 (bits a ⊕ bits b)
  step_fits = subst (SFits w64) (sym read) (fitting (a ⊕ b) k)

  step_is : bits (bits a ⊕ bits b) ≡ (a ⊕ b)
  step_is = ap bits read ∙ plain (a ⊕ b) k

-- ---- the way between two points

pub arm-fits : (a b : ℤ) → nat_abs a ≤ 32768 → nat_abs b ≤ 32768 → SFits w64 (bits a -ℤ bits b)
arm-fits a b h g = step_fits ◌-ℤ◌ a b (omega arith) (omega arith) (omega (arith, arm-size a b h g))

pub arm_is : (a b : ℤ) → nat_abs a ≤ 32768 → nat_abs b ≤ 32768 → bits (bits a -ℤ bits b) ≡ a -ℤ b
arm_is a b h g = step_is ◌-ℤ◌ a b (omega arith) (omega arith) (omega (arith, arm-size a b h g))

-- ---- a component of a cross product

pub area-fits : (a b : ℤ) → nat_abs a ≤ 65536 → nat_abs b ≤ 65536 → SFits w64 (bits a *ℤ bits b)
area-fits a b h g = step_fits ◌*ℤ◌ a b (omega arith) (omega arith) (omega (arith, area-size a b h g))

area-is : (a b : ℤ) → nat_abs a ≤ 65536 → nat_abs b ≤ 65536 → bits (bits a *ℤ bits b) ≡ a *ℤ b
area-is a b h g = step_is ◌*ℤ◌ a b (omega arith) (omega arith) (omega (arith, area-size a b h g))

module _ (a b c d : ℤ) (ha : nat_abs a ≤ 65536) (hb : nat_abs b ≤ 65536) (hc : nat_abs c ≤ 65536) (hd : nat_abs d ≤ 65536) where
  parts : (bits (bits a *ℤ bits b) -ℤ bits (bits c *ℤ bits d)) ≡ a *ℤ b -ℤ c *ℤ d
  parts = ap (λ (z : ℤ). z -ℤ bits (bits c *ℤ bits d)) (area-is a b ha hb) ∙ ap (λ (z : ℤ). a *ℤ b -ℤ z) (area-is c d hc hd)

  whole : nat_abs (a *ℤ b -ℤ c *ℤ d) ≤ 2 ^ 62
  whole = omega (arith, cross-size (a *ℤ b) (c *ℤ d) (area-size a b ha hb) (area-size c d hc hd))

  pub component-fits : SFits w64 (bits (bits a *ℤ bits b) -ℤ bits (bits c *ℤ bits d))
  component-fits = subst (SFits w64) (sym parts) (fitting (a *ℤ b -ℤ c *ℤ d) whole)

  pub component-is : bits (bits (bits a *ℤ bits b) -ℤ bits (bits c *ℤ bits d)) ≡ a *ℤ b -ℤ c *ℤ d
  component-is = ap bits parts ∙ plain (a *ℤ b -ℤ c *ℤ d) whole

-- ---- a dot product

pub term_fits : (a b : ℤ) → nat_abs a ≤ 32768 → nat_abs b ≤ 2 ^ 33 → SFits w64 (bits a *ℤ bits b)
term_fits a b h g = step_fits ◌*ℤ◌ a b (omega arith) (omega arith) (omega (arith, term-size a b h g))

term_is : (a b : ℤ) → nat_abs a ≤ 32768 → nat_abs b ≤ 2 ^ 33 → bits (bits a *ℤ bits b) ≡ a *ℤ b
term_is a b h g = step_is ◌*ℤ◌ a b (omega arith) (omega arith) (omega (arith, term-size a b h g))

module _ (o v : Corner) (h : Small (seen o)) (g : Within (2 ^ 33) (seen v)) where
  abbrev X : ℤ
  X = bits (bits o.x *ℤ bits v.x)

  abbrev Y : ℤ
  Y = bits (bits o.y *ℤ bits v.y)

  abbrev Z : ℤ
  Z = bits (bits o.z *ℤ bits v.z)

  first : (X +ℤ Y) ≡ o.x *ℤ v.x +ℤ o.y *ℤ v.y
  first = ap (λ (z : ℤ). z +ℤ Y) (term_is o.x v.x h.x g.x) ∙ ap (λ (z : ℤ). o.x *ℤ v.x +ℤ z) (term_is o.y v.y h.y g.y)

  first-size : nat_abs (o.x *ℤ v.x +ℤ o.y *ℤ v.y) ≤ 2 ^ 49
  first-size = two-terms (o.x *ℤ v.x) (o.y *ℤ v.y) (term-size o.x v.x h.x g.x) (term-size o.y v.y h.y g.y)

  pub two-fit : SFits w64 (X +ℤ Y)
  two-fit = subst (SFits w64) (sym first) (fitting (o.x *ℤ v.x +ℤ o.y *ℤ v.y) (omega (arith, first-size)))

  all : (bits (X +ℤ Y) +ℤ Z) ≡ dot_c (seen o) (seen v)
  unfolding dot_c
  all = ap (λ (z : ℤ). z +ℤ Z) (ap bits first ∙ plain (o.x *ℤ v.x +ℤ o.y *ℤ v.y) (omega (arith, first-size))) ∙ ap (λ (z : ℤ). o.x *ℤ v.x +ℤ o.y *ℤ v.y +ℤ z) (term_is o.z v.z h.z g.z)

  all-size : nat_abs (dot_c (seen o) (seen v)) ≤ 2 ^ 62
  unfolding dot_c
  all-size = omega (arith, three-terms (o.x *ℤ v.x +ℤ o.y *ℤ v.y) (o.z *ℤ v.z) first-size (term-size o.z v.z h.z g.z))

  pub three-fit : SFits w64 (bits (X +ℤ Y) +ℤ Z)
  three-fit = subst (SFits w64) (sym all) (fitting (dot_c (seen o) (seen v)) all-size)

  pub dot-is : bits (bits (X +ℤ Y) +ℤ Z) ≡ dot_c (seen o) (seen v)
  dot-is = ap bits all ∙ plain (dot_c (seen o) (seen v)) all-size

-- ---- three numbers made into a corner

pub made : (a b c a' b' c' : ℤ) → a ≡ a' → b ≡ b' → c ≡ c' → seen (record { x = a; y = b; z = c }) ≡ record { x = a'; y = b'; z = c' }
made a b c a' b' c' e f g = rw (e, f, g)

-- a component that a call gave, of numbers read from a struct
module _ (r a b c d : ℤ) (e : r ≡ bits a *ℤ bits b -ℤ bits c *ℤ bits d) (ha : nat_abs a ≤ 65536) (hb : nat_abs b ≤ 65536) (hc : nat_abs c ≤ 65536) (hd : nat_abs d ≤ 65536) where
  pub read-part : bits r ≡ a *ℤ b -ℤ c *ℤ d
  read-part =
      let pa = plain a (omega arith) in
      let pb = plain b (omega arith) in
      let pc = plain c (omega arith) in
      let pd = plain d (omega arith) in
      let is : r ≡ a *ℤ b -ℤ c *ℤ d = e ∙ ap (λ (z : ℤ). z *ℤ bits b -ℤ bits c *ℤ bits d) pa ∙ ap (λ (z : ℤ). a *ℤ z -ℤ bits c *ℤ bits d) pb ∙ ap (λ (z : ℤ). a *ℤ b -ℤ z *ℤ bits d) pc ∙ ap (λ (z : ℤ). a *ℤ b -ℤ c *ℤ z) pd in
      ap bits is ∙ plain (a *ℤ b -ℤ c *ℤ d) (omega (arith, part-size a b c d ha hb hc hd))

-- a count of sixteenths that a call gave
pub read_count : (r : ℤ) (x : Float) → r ≡ sixteenths x → bits r ≡ sixteenths x
read_count r x e = ap bits e ∙ plain (sixteenths x) (omega (arith, sixteenths-size x))

-- a wedge that a call gave
pub read-wedge : (r : ℤ) (o p q : Sheets.Corner) → r ≡ wedge o p q → Small o → Small p → Small q → bits r ≡ wedge o p q
read-wedge r o p q e h g k = ap bits e ∙ plain (wedge o p q) (omega (arith, wedge-size o p q h g k))
