-- What a decided sign says: it is that of the exact number, for all finite operands (`SignOf` says nothing of an unresolved one). Assumes nothing.
-- The numbers are whole, in units of 2 ^ -1074 where the operands are floats, of 2 ^ -2148 where products of two are taken, and so on.
use Rattle.std.specs.Prelude.{ℕ, ◌^◌, ℤ, pos, ◌+ℤ◌, ◌-ℤ◌, ◌*ℤ◌, Float}
use Rattle.float_vectors.specs.declared.vector.Point3.{Point3}
use Rattle.float_vectors.specs.declared.vector.Vec3.{Vec3}
use Rattle.interval_arithmetic.specs.Ops.{point_i}
use Rattle.interval_vectors.specs.Vectors.{vector_i, dot_i}
use Rattle.float_values.specs.Value.{value, Real}
use Rattle.interval_enclosure.specs.Value.{value_p, value_v, RealP, RealV, Whole3, minus_w, dot_w, Holds, SignOf}
use Rattle.interval_enclosure.proofs.Vectors.{difference-holds, vector-holds}
use Rattle.interval_enclosure.proofs.Enclose.{point-holds, point3-holds, add-encloses, sub-encloses, sqr-encloses, dot-encloses, rescaled, sign-is}
use Rattle.geom_lines_planes.specs.declared.surface.Plane.{Plane}
use Rattle.geom_signs.specs.Signs.{increasing_s, span_s, apart_s, off_plane_s, off_curve_s}

-- p - q, and its squared length
abbrev pub way : Point3 → Point3 → Whole3
way p q = minus_w (value_p p) (value_p q)

abbrev pub squared : Whole3 → ℤ
squared A = dot_w A A

-- positive: the parameter of end on a line of this direction is above that of start
pub increasing-says : (d : Vec3) (start end : Point3) → RealV d → RealP start → RealP end → SignOf (increasing_s d start end) (dot_w (way end start) (value_v d))
unfolding increasing_s
increasing-says d start end rd rs re = sign-is 2148 _ _ (dot-encloses 1074 1074 _ _ (way end start) (value_v d) (vector-holds end start re rs) (point3-holds d rd))

-- positive: hi is above lo
pub span-says : (lo hi : Float) → Real lo → Real hi → SignOf (span_s lo hi) (value hi -ℤ value lo)
unfolding span_s
span-says lo hi rl rh = sign-is 1074 _ _ (difference-holds hi lo rh rl)

way-squared : (p q : Point3) → RealP p → RealP q → Holds 2148 (dot_i (vector_i p q) (vector_i p q)) (squared (way p q))
way-squared p q rp rq = dot-encloses 1074 1074 _ _ (way p q) (way p q) (vector-holds p q rp rq) (vector-holds p q rp rq)

-- positive: p and q are further apart than the precision
pub apart-says : (p q : Point3) (precision : Float) → RealP p → RealP q → Real precision → SignOf (apart_s p q precision) (squared (way p q) -ℤ value precision *ℤ value precision)
unfolding apart_s
apart-says p q precision rp rq r = sign-is 2148 _ _ (sub-encloses 2148 _ _ _ _ (way-squared p q rp rq) (sqr-encloses 1074 _ _ (point-holds precision r)))

-- positive: p is further from the vertex's nearest point q than both tolerances together
pub off-curve-says : (p q : Point3) (vertex edge : Float) → RealP p → RealP q → Real vertex → Real edge
    → SignOf (off_curve_s p q vertex edge) (squared (way p q) -ℤ (value vertex +ℤ value edge) *ℤ (value vertex +ℤ value edge))
unfolding off_curve_s
off-curve-says p q vertex edge rp rq rv re =
    sign-is 2148 _ _ (sub-encloses 2148 _ _ _ _ (way-squared p q rp rq) (sqr-encloses 1074 _ _ (add-encloses 1074 _ _ _ _ (point-holds vertex rv) (point-holds edge re))))

-- normal·(p - origin), in units of 2 ^ -2148
abbrev pub offset : Plane → Point3 → ℤ
offset s p = dot_w (value_v s.normal) (way p s.origin)

-- positive: p is further from the plane than the tolerance, whose square is brought to the units of 2 ^ -4296
pub off-plane-says : (s : Plane) (p : Point3) (tolerance : Float) → RealV s.normal → RealP s.origin → RealP p → Real tolerance
    → SignOf (off_plane_s s p tolerance) (offset s p *ℤ offset s p -ℤ value tolerance *ℤ value tolerance *ℤ pos (2 ^ 2148))
unfolding off_plane_s
off-plane-says s p tolerance rn ro rp rt =
    sign-is 4296 _ _
    (sub-encloses 4296 _ _ _ _
    (sqr-encloses 2148 _ _ (dot-encloses 1074 1074 _ _ (value_v s.normal) (way p s.origin) (point3-holds s.normal rn) (vector-holds p s.origin rp ro)))
    (rescaled 2148 2148 _ _ (sqr-encloses 1074 _ _ (point-holds tolerance rt))))
