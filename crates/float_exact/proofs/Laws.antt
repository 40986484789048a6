-- A sum of two floats is exact just where each of the two comes back when the other is taken off it. Assumes nothing.
use Rattle.std.specs.Prelude.{◌≡◌, refl, ℕ, ◌+◌, ◌^◌, ◌≤◌, Bool, true, false, cond, ◌&&◌, ℤ, ◌+ℤ◌, Float}
use Rattle.std.proofs.Common.{sym, ◌∙◌, le_of_lt, le_of_eq, le_trans, le_antisymm, not-le_of_lt, add_comm, add-mul}
use Rattle.std.proofs.Math.Path.{subst}
use Rattle.std.proofs.Math.Logic.{inl, inr}
use native.Mathlib.Omega.{arith}
use Rattle.std.proofs.Math.Dec.{T}
use Rattle.std.specs.Int.Signed.{le_z, le_z_yes}
use Rattle.std.specs.Float.Ieee.{round, binary64, fits, neg, add, sub, eq, le}
use Rattle.std.specs.Float.{nan, inf, fin}
use Rattle.std.specs.Float.Ieee.Fits.{and_l, and_r, and_i, add-fits, sub-fits}
use Rattle.std.specs.Float.Ieee.Exact.{HasValue}
use Rattle.std.specs.Float.Ieee.Scale.{finite}
use Rattle.float_values.specs.Value.{ONE, units, value}
use Rattle.float_values.specs.Laws.Small.{le-or-lt}
use Rattle.float_values.specs.Laws.Pairs.{plus, minus, over, under}
use Rattle.float_values.specs.Laws.Patterns.{val, val-exact}
use Rattle.float_values.specs.Laws.Near.{Sum, sum-add, sum-sub}
use Rattle.float_values.specs.Laws.Equal.{eq-finite, same_number, of-same-number, same_units}
use Rattle.float_values.specs.Laws.Integers.{sum-parts, le_parts, of_parts, same_parts, over-value, under-value}
use Rattle.float_exact.specs.Exact.{equal, exact_sum}
use Rattle.float_exact.specs.Grid.{last, last-in, val-under, index_of, on-grid, parts-on, exactly, exact-or-large}

-- s is exactly a + b
abbrev pub Adds : Float → Float → Float → Type 0
Adds a b s = plus s + (minus a + minus b) ≡ plus a + plus b + minus s

-- b comes back from an exact sum, and from no other where it is the smaller of the two
module _ (a b s : Float) (fa : T (fits binary64 a)) (fb : T (fits binary64 b)) (fs : T (fits binary64 s)) (ga : T (finite a)) (gb : T (finite b)) (gs : T (finite s)) where
  -- s - a is exactly b, which is a float
  forth : Adds a b s → T (eq (sub binary64 s a) b)
  forth h =
      let d = sub binary64 s a in
      let w = sum-sub s a fs fa gs ga in
      let i = index_of b fb gb in
      let z : w.size ≡ val i.index = size_is b gb w.sign w.size w.number h ∙ i.number in
      let e = exactly d _ _ w (subst (λ (v : ℕ). HasValue (round binary64 w.sign v ONE) w.sign v ONE) (sym z) (val-exact w.sign i.index i.within)) in
      of-same-number d b (sub-fits binary64 s a) fb e.is_finite gb (let n = e.number in omega arith)
    where
      size_is : (b : Float) → T (finite b) → (t : Bool) (z : ℕ) → cond t 0 z + (minus s + plus a) ≡ plus s + minus a + cond t z 0
          → Adds a b s → z ≡ units b
      size_is nan g t z n h = absurd g
      size_is (inf u) g t z n h = absurd g
      size_is (fin true m e) g true z n h = omega arith
      size_is (fin true m e) g false z n h = omega arith
      size_is (fin false m e) g true z n h = omega arith
      size_is (fin false m e) g false z n h = omega arith

  -- a, b and, where it is rounded, s are multiples of b's last place, and so is s - a. Below 2 ^ 53 of them s - a is exact, and from there on it is rounded to no less, which b is not.
  back : Sum s (plus a + plus b) (minus a + minus b) → units b ≤ units a → T (eq (sub binary64 s a) b) → Adds a b s
  back h l t =
      let i = index_of b fb gb in
      let j = last i.index in
      let J = last-in i.index i.within in
      let B : val i.index ≤ units b = le_of_eq (sym i.number) in
      let u = on-grid a fa ga i.index (le_trans B l) in
      let v = on-grid b fb gb i.index B in
      let p = parts-on a u.0 (2 ^ j) u.1 in
      let q = parts-on b v.0 (2 ^ j) v.1 in
      elim (exact-or-large s _ _ h (p.above + q.above) (p.under + q.under) j J (simp add-mul (omega arith)) (simp add-mul (omega arith))) [
        | inl e ↦ e.number
        | inr far ↦
            let o = on-grid s fs gs i.index (le_trans (le_of_lt (val-under i.index)) (far gs)) in
            let r = parts-on s o.0 (2 ^ j) o.1 in
            let d = sub binary64 s a in
            let fd = sub-fits binary64 s a in
            let gd = eq-finite d b gb t in
            let n = same_number d b fd fb gd gb t in
            elim (exact-or-large d _ _ (sum-sub s a fs fa gs ga) (r.above + p.under) (r.under + p.above) j J (simp add-mul (omega arith)) (simp add-mul (omega arith))) [
              | inl e ↦ (let k = e.number in omega arith)
              | inr off ↦ absurd (not-le_of_lt (val-under i.index) (rw (← i.number, ← same_units d b gd gb n) (off gd)))
            ]
      ]

-- ---- the numbers as whole numbers
equal-parts : (A B : ℤ) → T (equal A B) → over A + under B ≡ over B + under A
equal-parts A B t = le_antisymm (le_parts A B (le_z_yes (and_l (le_z A B) (le_z B A) t))) (le_parts B A (le_z_yes (and_r (le_z A B) (le_z B A) t)))

parts-equal : (A B : ℤ) → over A + under B ≡ over B + under A → T (equal A B)
parts-equal A B e = and_i (le_z A B) (le_z B A) (of_parts A B (le_of_eq e)).le (of_parts B A (le_of_eq (sym e))).le

-- the same of whole numbers
module _ (a b s : Float) where
  sum_is : plus a + plus b + under (value a +ℤ value b) ≡ over (value a +ℤ value b) + (minus a + minus b)
  sum_is = rw (over-value a, over-value b, under-value a, under-value b) at (sum-parts (value a) (value b))

  number-parts : over (value s) + under (value a +ℤ value b) ≡ over (value a +ℤ value b) + under (value s) → Adds a b s
  number-parts h =
      let w = sum_is in
      let p = over-value s in
      let n = under-value s in
      omega arith

  parts-number : Adds a b s → over (value s) + under (value a +ℤ value b) ≡ over (value a +ℤ value b) + under (value s)
  parts-number h =
      let w = sum_is in
      let p = over-value s in
      let n = under-value s in
      omega arith

-- ---- what comes back is finite, and so is all else
sum-finite : (r : Float) (s : Bool) (m : ℕ) (e : ℤ) (y : Float) → T (finite y) → T (eq (sub binary64 r (fin s m e)) y) → T (finite r)
unfolding sub eq
sum-finite nan s m e y f h = h
sum-finite (inf u) s m e nan f h = h
sum-finite (inf u) s m e (inf t) f h = absurd f
sum-finite (inf u) s m e (fin t n d) f h = h
sum-finite (fin t n d) s m e y f h = tt

pub record Finite (a b : Float) : Type 0 where
  pub first : T (finite a)
  pub second : T (finite b)
  pub sum : T (finite (add binary64 a b))

all-finite : (a b : Float) → T (eq (sub binary64 (add binary64 a b) a) b) → T (eq (sub binary64 (add binary64 a b) b) a) → Finite a b
unfolding add sub neg eq
all-finite nan b h k = absurd h
all-finite (inf s) nan h k = absurd h
all-finite (inf true) (inf true) h k = absurd h
all-finite (inf true) (inf false) h k = absurd h
all-finite (inf false) (inf true) h k = absurd h
all-finite (inf false) (inf false) h k = absurd h
all-finite (inf true) (fin t n d) h k = absurd h
all-finite (inf false) (fin t n d) h k = absurd h
all-finite (fin s m e) nan h k = absurd h
all-finite (fin s m e) (inf true) h k = absurd k
all-finite (fin s m e) (inf false) h k = absurd k
all-finite (fin s m e) (fin t n d) h k = record { first = tt; second = tt; sum = sum-finite (add binary64 (fin s m e) (fin t n d)) s m e (fin t n d) tt h }

-- ---- what an exact sum says
pub exact-finite : (a b : Float) → T (exact_sum a b) → Finite a b
unfolding exact_sum
exact-finite a b t =
    let c = finite (add binary64 a b) in
    let u = and_l (finite a && finite b && c) (equal (value (add binary64 a b)) (value a +ℤ value b)) t in
    let v = and_l (finite a && finite b) c u in
    record { first = and_l (finite a) (finite b) v; second = and_r (finite a) (finite b) v; sum = and_r (finite a && finite b) c u }

exact-parts : (a b : Float) → T (exact_sum a b) → T (equal (value (add binary64 a b)) (value a +ℤ value b))
unfolding exact_sum
exact-parts a b t = and_r (finite a && finite b && finite (add binary64 a b)) (equal (value (add binary64 a b)) (value a +ℤ value b)) t

pub exact-value : (a b : Float) → T (exact_sum a b) → value (add binary64 a b) ≡ value a +ℤ value b
exact-value a b t = same_parts (value (add binary64 a b)) (value a +ℤ value b) (equal-parts (value (add binary64 a b)) (value a +ℤ value b) (exact-parts a b t))

pub exact-adds : (a b : Float) → T (exact_sum a b) → Adds a b (add binary64 a b)
exact-adds a b t = number-parts a b (add binary64 a b) (equal-parts (value (add binary64 a b)) (value a +ℤ value b) (exact-parts a b t))

-- ---- the test in floats
same_test : (x y : Bool) → (T x → T y) → (T y → T x) → x ≡ y
same_test true true f g = refl
same_test true false f g = absurd (f tt)
same_test false true f g = absurd (g tt)
same_test false false f g = refl

-- what `exact_sum` tests
abbrev both_back : Float → Float → Bool
both_back a b = eq (sub binary64 (add binary64 a b) a) b && eq (sub binary64 (add binary64 a b) b) a

module _ (a b : Float) (fa : T (fits binary64 a)) (fb : T (fits binary64 b)) where
  comes_back : T (exact_sum a b) → T (both_back a b)
  comes_back t =
      let s = add binary64 a b in
      let fs = add-fits binary64 a b in
      let g = exact-finite a b t in
      let e = exact-adds a b t in
      and_i (eq (sub binary64 s a) b) (eq (sub binary64 s b) a)
      (forth a b s fa fb fs g.first g.second g.sum e)
      (forth b a s fb fa fs g.second g.first g.sum (omega arith))

  is-exact : T (both_back a b) → T (exact_sum a b)
  unfolding exact_sum
  is-exact t =
      let s = add binary64 a b in
      let h = and_l (eq (sub binary64 s a) b) (eq (sub binary64 s b) a) t in
      let k = and_r (eq (sub binary64 s a) b) (eq (sub binary64 s b) a) t in
      let g = all-finite a b h k in
      and_i (finite a && finite b && finite s) (equal (value s) (value a +ℤ value b))
      (and_i (finite a && finite b) (finite s) (and_i (finite a) (finite b) g.first g.second) g.sum)
      (parts-equal (value s) (value a +ℤ value b) (parts-number a b s (number h k g)))
    where
      number : T (eq (sub binary64 (add binary64 a b) a) b) → T (eq (sub binary64 (add binary64 a b) b) a) → Finite a b → Adds a b (add binary64 a b)
      number h k g =
          let s = add binary64 a b in
          let fs = add-fits binary64 a b in
          let w = sum-add a b fa fb g.first g.second in
          elim (le-or-lt (units b) (units a)) [
            | inl l ↦ back a b s fa fb fs g.first g.second g.sum w l h
            | inr l ↦
                let v = subst (λ (z : ℕ). Sum s (plus b + plus a) z) (add_comm (minus a) (minus b)) (subst (λ (z : ℕ). Sum s z (minus a + minus b)) (add_comm (plus a) (plus b)) w) in
                let e = back b a s fb fa fs g.second g.first g.sum v (le_of_lt l) k in
                omega arith
          ]

  pub exact-test : (eq (sub binary64 (add binary64 a b) a) b && eq (sub binary64 (add binary64 a b) b) a) ≡ exact_sum a b
  exact-test = same_test (both_back a b) (exact_sum a b) is-exact comes_back
