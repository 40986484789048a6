-- Floats on the grid are added without rounding, so that adding a vector of floats moves the corners by that vector's sixteenths. Assumes nothing.
use Rattle.std.specs.Prelude.{ℕ, ◌/◌, ◌^◌, ◌≡◌, Bool, true, ◌&&◌, ℤ, ◌+ℤ◌, Float}
use Rattle.std.proofs.Common.{mul-div_cancel, arith, sym, ap, ap₂, ◌∙◌}
use Rattle.std.specs.Float.{nan, inf, fin}
use Rattle.std.specs.Float.Ieee.{down}
use Rattle.std.specs.Float.Ieee.Fits.{down_pos}
use Rattle.float_grid.specs.Grid.{on_grid, signed, sixteenths}
use Rattle.float_vectors.specs.declared.vector.Point3.{Point3}
use Rattle.float_vectors.specs.Space.{◌+ᶠ◌}
use Rattle.meaning_list_laws.specs.Tests.{and_both}
use Rattle.meaning_sheets.specs.Sheets.{corner, grid_point}
use Rattle.meaning_sheet_laws.specs.Sizes.{size-sum, sixteenths-size}
use Rattle.meaning_sheet_floats.specs.Exactly.{Exactly, add-exactly, grid-exactly}
use Rattle.meaning_shift.specs.Corners.{plus_c, same-corner}
use Rattle.meaning_shift.specs.Moving.{moved}

-- a float is one number of sixteenths alone
one_number : (x : Float) (d : ℕ) (y z : ℤ) → Exactly x d y → Exactly x d z → y ≡ z
one_number nan d y z h g = absurd h.value
one_number (inf s) d y z h g = absurd h.value
one_number (fin s m e) d y z h g =
    let size : h.size ≡ g.size =
    sym (mul-div_cancel h.size (down_pos e)) ∙ ap (λ (n : ℕ). n / down e) (sym h.value.1 ∙ g.value.1) ∙ mul-div_cancel g.size (down_pos e) in
    h.number ∙ ap₂ (λ (t : Bool) (n : ℕ). signed t n) (sym h.value.0 ∙ g.value.0) size ∙ sym g.number

sum-on-grid : (x y : Float) → on_grid x ≡ true → on_grid y ≡ true → on_grid (x +ᶠ y) ≡ true → sixteenths (x +ᶠ y) ≡ sixteenths x +ℤ sixteenths y
sum-on-grid x y p q h =
    one_number (x +ᶠ y) (2 ^ 4) (sixteenths (x +ᶠ y)) (sixteenths x +ℤ sixteenths y) (grid-exactly (x +ᶠ y) h)
    (add-exactly x y 4 (sixteenths x) (sixteenths y) (omega arith) (grid-exactly x p) (grid-exactly y q)
    (omega (arith, size-sum (sixteenths x) (sixteenths y), sixteenths-size x, sixteenths-size y)))

pub record OnGrid (p : Point3) : Type 0 where
  pub x : on_grid p.x ≡ true
  pub y : on_grid p.y ≡ true
  pub z : on_grid p.z ≡ true

pub on-grid : (p : Point3) → grid_point p ≡ true → OnGrid p
on-grid p h =
    let last = and_both (on_grid p.x && on_grid p.y) (on_grid p.z) h in
    let first = and_both (on_grid p.x) (on_grid p.y) last.0 in
    record { x = first.0; y = first.1; z = last.1 }

pub corner-moved : (d p : Point3) → grid_point d ≡ true → grid_point p ≡ true → grid_point (moved d p) ≡ true → corner (moved d p) ≡ plus_c (corner p) (corner d)
unfolding corner plus_c
corner-moved d p g h k =
    let v = on-grid d g in
    let u = on-grid p h in
    let w = on-grid (moved d p) k in
    same-corner (sum-on-grid p.x d.x u.x v.x w.x) (sum-on-grid p.y d.y u.y v.y w.y) (sum-on-grid p.z d.z u.z v.z w.z)
