-- W-205: "A decided sign under the old rule must never become another sign." So it is of each of the five tests as `geom_signs` has them, for any operands, infinities and NaNs included:
-- the old rule, under which every sum moves, is `never`. Assumes nothing.
use Rattle.std.specs.Prelude.{◌≡◌, Float}
use Rattle.std.proofs.Common.{sym, ◌∙◌}
use Rattle.float_exact.specs.Exact.{exact_sum}
use Rattle.interval_arithmetic.specs.declared.Sign.TheVariants.{Unresolved}
use Rattle.float_vectors.specs.declared.vector.Point3.{Point3}
use Rattle.float_vectors.specs.declared.vector.Vec3.{Vec3}
use Rattle.interval_arithmetic.specs.Ops.{point_i, add_i, sqr_i}
use Rattle.interval_vectors.specs.Vectors.{point_i3, vector_i, dot_i}
use Rattle.geom_lines_planes.specs.declared.surface.Plane.{Plane}
use Rattle.geom_signs.specs.Signs.{increasing_s, span_s, apart_s, off_plane_s, off_curve_s}
use Rattle.interval_narrowing.specs.Narrow.{never}
use Rattle.interval_narrowing.proofs.Narrowing.{add-exact, sub-exact, difference-exact, vector-exact, dot-exact}
use Rattle.geom_signs_kept.specs.SignsBy.{increasing_by, span_by, apart_by, off_plane_by, off_curve_by}
use Rattle.geom_signs_kept.specs.Decided.{increasing-decided, span-decided, apart-decided, off-plane-decided}

-- ---- the tests of `geom_signs` are those by which a sum that is exact stays
pub increasing-exact : (d : Vec3) (start end : Point3) → increasing_by exact_sum d start end ≡ increasing_s d start end
unfolding increasing_s increasing_by
increasing-exact d start end = rw (vector-exact end start, dot-exact (vector_i end start) (point_i3 d))

pub span-exact : (lo hi : Float) → span_by exact_sum lo hi ≡ span_s lo hi
unfolding span_s span_by
span-exact lo hi = rw (difference-exact hi lo)

pub apart-exact : (p q : Point3) (precision : Float) → apart_by exact_sum p q precision ≡ apart_s p q precision
unfolding apart_s apart_by
apart-exact p q precision = rw (vector-exact p q, dot-exact (vector_i p q) (vector_i p q), sub-exact (dot_i (vector_i p q) (vector_i p q)) (sqr_i (point_i precision)))

pub off-plane-exact : (s : Plane) (p : Point3) (tolerance : Float) → off_plane_by exact_sum s p tolerance ≡ off_plane_s s p tolerance
unfolding off_plane_s off_plane_by
off-plane-exact s p tolerance =
    rw (vector-exact p s.origin, dot-exact (point_i3 s.normal) (vector_i p s.origin), sub-exact (sqr_i (dot_i (point_i3 s.normal) (vector_i p s.origin))) (sqr_i (point_i tolerance)))

pub off-curve-exact : (p q : Point3) (vertex edge : Float) → off_curve_by exact_sum p q vertex edge ≡ off_curve_s p q vertex edge
unfolding off_curve_s off_curve_by
off-curve-exact p q vertex edge =
    rw (vector-exact p q, dot-exact (vector_i p q) (vector_i p q), add-exact (point_i vertex) (point_i edge), sub-exact (dot_i (vector_i p q) (vector_i p q)) (sqr_i (add_i (point_i vertex) (point_i edge))))

-- ---- so a sign that the old rule decides stays
pub increasing-kept : (d : Vec3) (start end : Point3) → (increasing_by never d start end ≡ Unresolved → ⊥) → increasing_s d start end ≡ increasing_by never d start end
increasing-kept d start end n = sym (increasing-exact d start end) ∙ increasing-decided exact_sum d start end n

pub span-kept : (lo hi : Float) → (span_by never lo hi ≡ Unresolved → ⊥) → span_s lo hi ≡ span_by never lo hi
span-kept lo hi n = sym (span-exact lo hi) ∙ span-decided exact_sum lo hi n

pub apart-kept : (p q : Point3) (precision : Float) → (apart_by never p q precision ≡ Unresolved → ⊥) → apart_s p q precision ≡ apart_by never p q precision
apart-kept p q precision n = sym (apart-exact p q precision) ∙ apart-decided exact_sum p q precision n

pub off-plane-kept : (s : Plane) (p : Point3) (tolerance : Float) → (off_plane_by never s p tolerance ≡ Unresolved → ⊥) → off_plane_s s p tolerance ≡ off_plane_by never s p tolerance
off-plane-kept s p tolerance n = sym (off-plane-exact s p tolerance) ∙ off-plane-decided exact_sum s p tolerance n
