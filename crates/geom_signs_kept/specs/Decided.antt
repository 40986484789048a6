-- A sign that the old rule decides, under which every sum moves, is the one that any other rule k gives, for each of the five tests and any operands, infinities and NaNs included. Assumes nothing.
use Rattle.std.specs.Prelude.{◌≡◌, Bool, Float}
use Rattle.interval_arithmetic.specs.declared.Sign.TheVariants.{Unresolved}
use Rattle.float_vectors.specs.declared.vector.Point3.{Point3}
use Rattle.float_vectors.specs.declared.vector.Vec3.{Vec3}
use Rattle.geom_lines_planes.specs.declared.surface.Plane.{Plane}
use Rattle.interval_narrowing.specs.Narrow.{Within, never, vector_by, dot_by}
use Rattle.interval_narrowing.proofs.Narrowing.{point-within, point3-within, sqr-narrow, add-narrow, sub_narrow, difference-narrow, vector-narrow, dot-narrow, sign_narrow}
use Rattle.geom_signs_kept.specs.SignsBy.{increasing_by, span_by, apart_by, off_plane_by, off_curve_by}

module _ (k : Float → Float → Bool) where
  pub increasing-decided : (d : Vec3) (start end : Point3) → (increasing_by never d start end ≡ Unresolved → ⊥) → increasing_by k d start end ≡ increasing_by never d start end
  unfolding increasing_by
  increasing-decided d start end n = sign_narrow _ _ (dot-narrow k _ _ _ _ (vector-narrow k end start) (point3-within d)) n

  pub span-decided : (lo hi : Float) → (span_by never lo hi ≡ Unresolved → ⊥) → span_by k lo hi ≡ span_by never lo hi
  unfolding span_by
  span-decided lo hi n = sign_narrow _ _ (difference-narrow k hi lo) n

  -- the squared distance of two points
  distance : (p q : Point3) → Within (dot_by k (vector_by k p q) (vector_by k p q)) (dot_by never (vector_by never p q) (vector_by never p q))
  distance p q = dot-narrow k _ _ _ _ (vector-narrow k p q) (vector-narrow k p q)

  pub apart-decided : (p q : Point3) (precision : Float) → (apart_by never p q precision ≡ Unresolved → ⊥) → apart_by k p q precision ≡ apart_by never p q precision
  unfolding apart_by
  apart-decided p q precision n = sign_narrow _ _ (sub_narrow k _ _ _ _ (distance p q) (sqr-narrow _ _ (point-within precision))) n

  pub off-plane-decided : (s : Plane) (p : Point3) (tolerance : Float) → (off_plane_by never s p tolerance ≡ Unresolved → ⊥) → off_plane_by k s p tolerance ≡ off_plane_by never s p tolerance
  unfolding off_plane_by
  off-plane-decided s p tolerance n =
      sign_narrow _ _ (sub_narrow k _ _ _ _ (sqr-narrow _ _ (dot-narrow k _ _ _ _ (point3-within s.normal) (vector-narrow k p s.origin))) (sqr-narrow _ _ (point-within tolerance))) n

  pub off-curve-decided : (p q : Point3) (vertex edge : Float) → (off_curve_by never p q vertex edge ≡ Unresolved → ⊥) → off_curve_by k p q vertex edge ≡ off_curve_by never p q vertex edge
  unfolding off_curve_by
  off-curve-decided p q vertex edge n = sign_narrow _ _ (sub_narrow k _ _ _ _ (distance p q) (sqr-narrow _ _ (add-narrow k _ _ _ _ (point-within vertex) (point-within edge)))) n
