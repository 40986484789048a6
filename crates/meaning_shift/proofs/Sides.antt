-- The theorems of specs/Sides.antt that rest on those of specs/ that the edits of must-fail/ make fail. Assumes nothing.
use Rattle.std.specs.Prelude.{ℕ, ◌+◌, ◌-◌, ◌≡◌, Bool, false, not, get_or, ℤ, ◌+ℤ◌}
use Rattle.std.proofs.Common.{◌∙◌}
use Rattle.std.proofs.Math.Path.{sym, ap, ap₂}
use Rattle.std.proofs.Math.Bool.{true, cond}
use mathlib.Core.List.{[], map}
use Rattle.std.proofs.Math.Dec.{ltb}
use Rattle.std.proofs.Math.IntN.{+ℤ_idr}
use Rattle.float_vectors.specs.declared.vector.Point3.{Point3}
use Rattle.geom_lines_planes.specs.Refuse.{◌unless◌, ◌then◌}
use Rattle.meaning.specs.Refuse.{◌if◌}
use Rattle.meaning.specs.Lists.{member, joined, the, is}
use Rattle.meaning.specs.Model.{Model, Limits, body, region, shell, face, point_of}
use Rattle.meaning.specs.Walks.{face_walk, vertex_walk}
use Rattle.meaning.specs.Inquire.{sides_of, solid_sides, rim, start_of}
use Rattle.meaning_list_laws.specs.Lists.{all-member}
use Rattle.meaning_sheets.specs.Sheets.{Corner, corner, whole_polygon, side_points, whole_side, whole_sum, six_volume, grid_point, stone_refusal}
use Rattle.meaning_shift.specs.Corners.{polygon-moved}
use Rattle.meaning_shift.specs.Sums.{sum_over}
use Rattle.meaning_shift.specs.Moving.{Movable, outside, placed, Shifted}
use Rattle.meaning_shift.specs.Fins.{shell_fins, region_fins, body_fins, not-front, region-below, shell-names, face-walked, loop-below}
use Rattle.meaning_shift.specs.Exchange.{fin_lever}
use Rattle.meaning_shift.proofs.Exchange.{fins-add-nothing}
use Rattle.meaning_shift.specs.Sides.{start_point, around-sum, points-moved, points-on-grid, SideGains, Gains, gains-joined, gains-if, gains-listed, start-walked, point-moved, point-on-grid, same-triangles, volume-refused}

-- ---- of a movable body

module _ (x : Limits) (m : Model) (b r : ℕ) (k : Movable x m b r) (t : Corner) (point : ℕ → Point3) (d : Shifted m b t point) where
  corners-moved : (f : ℕ) → member f (face_walk m b) ≡ true
      → whole_polygon (map corner (map (start_point (placed m b point)) (rim m f))) ≡ whole_polygon (map corner (map (start_point m) (rim m f))) +ℤ sum_over (fin_lever m t) (rim m f)
  unfolding placed
  corners-moved f h =
      ap whole_polygon (points-moved t (start_point m) (start_point (placed m b point)) (rim m f) (λ i g. point-moved x m b r k t point d (the (start_of m i)) (start-walked x m b r k t point d f i h g)))
      ∙ polygon-moved t (map corner (map (start_point m) (rim m f)))
      ∙ ap (λ (z : ℤ). whole_polygon (map corner (map (start_point m) (rim m f))) +ℤ z)
      (around-sum m t (rim m f) (k.formed.closes (get_or (face m f).loops 0 0) (loop-below x m b r k f h)))

  -- a side of the solid region looks out of it: its points are not reversed
  side-moved : (s f : ℕ) → member f (face_walk m b) ≡ true → is (face m f).front s ≡ false → SideGains m (placed m b point) t (record { shell = s; face = f }) (rim m f)
  unfolding whole_side side_points placed
  side-moved s f h g =
      record {
        sum = rw g (corners-moved f h);
        before = rw g (points-on-grid (start_point m) (rim m f) (λ i q. all-member (λ v. grid_point (point_of m v)) (vertex_walk m b) (the (start_of m i)) d.before (start-walked x m b r k t point d f i h q)));
        after = rw g (points-on-grid (start_point (placed m b point)) (rim m f) (λ i q. point-on-grid x m b r k t point d (the (start_of m i)) (start-walked x m b r k t point d f i h q)));
      }

  sides-moved : Gains m (placed m b point) t (solid_sides m b) (body_fins m b)
  unfolding solid_sides
  sides-moved =
      gains-joined m n t (λ q. cond (region m q).solid (joined (sides_of m) (region m q).shells) []) (region_fins m) (body m b).regions
      (λ q a. gains-if m n t (region m q).solid (joined (sides_of m) (region m q).shells) (joined (shell_fins m) (region m q).shells)
      (λ e. gains-joined m n t (sides_of m) (shell_fins m) (region m q).shells
      (λ s c. gains-listed m n t s (shell m s).faces
      (λ f g. side-moved s f (face-walked x m b r k q s f a c g) (front q s f a e c (face-walked x m b r k q s f a c g))))))
    where
      n : Model
      n = placed m b point

      front : (q s f : ℕ) → member q (body m b).regions ≡ true → (region m q).solid ≡ true → member s (region m q).shells ≡ true → member f (face_walk m b) ≡ true → is (face m f).front s ≡ false
      front q s f a e c h =
          not-front m (face m f).front s (all-member (λ f. outside m (face m f).front) (face_walk m b) f k.fronts h)
          (ap (λ (z : ℕ). (region m z).solid) (shell-names x m b r k q s (region-below x m b r k q a) c) ∙ e)

  pub volume-kept : six_volume (placed m b point) b ≡ six_volume m b
  unfolding placed solid_sides
  volume-kept =
      sides-moved.sum
      ∙ ap (λ (z : ℤ). whole_sum m (solid_sides m b) +ℤ z) (fins-add-nothing x m b r k t)
      ∙ +ℤ_idr (whole_sum m (solid_sides m b))

  pub refusal-kept : stone_refusal (placed m b point) b ≡ stone_refusal m b
  unfolding stone_refusal solid_sides placed
  refusal-kept =
      ap₂ (λ (n : ℕ) (k : ℕ). n then k) (volume-refused x m b r k t point d)
      (ap₂ (λ (t : Bool) (n : ℕ). 5 unless t then 8 if ltb 4096 n) (sides-moved.after ∙ sym sides-moved.before) (same-triangles x m b r k t point d (solid_sides m b)))
