-- Theorems that rest on those of specs/Kept.antt, and are proved by them. Assumes nothing.
use Rattle.std.specs.Prelude.{◌≡◌, Float}
use Rattle.std.proofs.Common.{sym, ◌∙◌}
use Rattle.float_exact.specs.Exact.{exact_sum}
use Rattle.interval_arithmetic.specs.declared.Sign.TheVariants.{Unresolved}
use Rattle.float_vectors.specs.declared.vector.Point3.{Point3}
use Rattle.float_vectors.specs.declared.vector.Vec3.{Vec3}
use Rattle.interval_arithmetic.specs.Ops.{point_i, add_i, sqr_i}
use Rattle.interval_vectors.specs.Vectors.{point_i3, vector_i, dot_i}
use Rattle.geom_lines_planes.specs.declared.surface.Plane.{Plane}
use Rattle.geom_signs.specs.Signs.{increasing_s, span_s, apart_s, off_plane_s, off_curve_s}
use Rattle.interval_narrowing.specs.Narrow.{never}
use Rattle.interval_narrowing.proofs.Narrowing.{add-exact, sub-exact, difference-exact, vector-exact, dot-exact}
use Rattle.geom_signs_kept.specs.SignsBy.{increasing_by, span_by, apart_by, off_plane_by, off_curve_by}
use Rattle.geom_signs_kept.specs.Decided.{increasing-decided, span-decided, apart-decided, off-plane-decided, off-curve-decided}
use Rattle.geom_signs_kept.specs.Kept.{off-curve-exact}

pub off-curve-kept : (p q : Point3) (vertex edge : Float) → (off_curve_by never p q vertex edge ≡ Unresolved → ⊥) → off_curve_s p q vertex edge ≡ off_curve_by never p q vertex edge
off-curve-kept p q vertex edge n = sym (off-curve-exact p q vertex edge) ∙ off-curve-decided exact_sum p q vertex edge n
