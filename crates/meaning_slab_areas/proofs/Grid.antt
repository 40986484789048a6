-- The theorems of specs/Grid.antt that rest on those of specs/ that the edits of must-fail/ make fail. Assumes nothing.
use Rattle.std.specs.Prelude.{ℕ, ◌≡◌, refl, ◌⊎◌, Bool, true, false, cond, eqb}
use Rattle.std.proofs.Common.{arith, eqb-true}
use Rattle.std.specs.Float.Ieee.{eq}
use Rattle.float_grid.specs.Grid.{sixteenths}
use Rattle.float_vectors.specs.declared.vector.Point3.{Point3}
use Rattle.meaning_sheets.specs.Sheets.{grid_point}
use Rattle.meaning_shift.specs.Grid.{on-grid}
use Rattle.meaning_slabs.specs.Slabs.{differing, on, spot}
use Rattle.meaning_slab_areas.specs.Grid.{equal-sixteenths, Stays, either, Two, two}

-- "differ in exactly one coordinate", across the axis a
pub one-differs : (a : ℕ) (p q : Point3) → grid_point p ≡ true → grid_point q ≡ true → differing p q ≡ 1 → Stays (spot a p) (spot a q)
unfolding spot on differing
one-differs a p q g h d = by (eqb a 0) (eqb a 2) refl refl
  where
    T : Two (eq p.x q.x) (eq p.y q.y) (eq p.z q.z)
    T = two (eq p.x q.x) (eq p.y q.y) (eq p.z q.z) d

    x-same : eq p.x q.x ≡ true → sixteenths p.x ≡ sixteenths q.x
    x-same = equal-sixteenths p.x q.x (on-grid p g).x (on-grid q h).x

    y-same : eq p.y q.y ≡ true → sixteenths p.y ≡ sixteenths q.y
    y-same = equal-sixteenths p.y q.y (on-grid p g).y (on-grid q h).y

    z-same : eq p.z q.z ≡ true → sixteenths p.z ≡ sixteenths q.z
    z-same = equal-sixteenths p.z q.z (on-grid p g).z (on-grid q h).z

    by : (s t : Bool) → eqb a 0 ≡ s → eqb a 2 ≡ t → (sixteenths (on (cond s 1 0) p) ≡ sixteenths (on (cond s 1 0) q)) ⊎ (sixteenths (on (cond t 1 2) p) ≡ sixteenths (on (cond t 1 2) q))
    by true true i j = absurd (omega (arith, eqb-true a 0 i, eqb-true a 2 j))
    by true false i j = either (eq p.y q.y) (eq p.z q.z) y-same z-same T.yz
    by false true i j = either (eq p.x q.x) (eq p.y q.y) x-same y-same T.xy
    by false false i j = either (eq p.x q.x) (eq p.z q.z) x-same z-same T.xz
