-- Lines, planes and tolerances (curve.rs, surface.rs, tolerance.rs). Definitions only.
use Rattle.std.specs.Prelude.{false, cond, Float}
use Rattle.std.specs.Float.{nan, inf, fin, binary64}
use Rattle.std.specs.Float.Ieee.{of_bits, lt}
use Rattle.float_vectors.specs.declared.vector.Point3.{Point3}
use Rattle.float_vectors.specs.Space.{◌*ᶠ◌, minus, along, scaled_v, dot_v}
use Rattle.geom_lines_planes.specs.declared.curve.Line.{Line}
use Rattle.geom_lines_planes.specs.declared.surface.Plane.{Plane}
use Rattle.geom_lines_planes.specs.declared.tolerance.Tolerance.{Tolerance}
use Rattle.geom_lines_planes.specs.declared.tolerance.Tolerance.TheVariants.{Own, Session}
use Rattle.geom_lines_planes.specs.declared.tolerance.Version.{Version}
use Rattle.geom_lines_planes.specs.declared.tolerance.Version.TheVariants.{First, Second}

-- 01, "Line point: origin + direction·t per axis" (`Line::eval`)
unfoldable pub line_point : Line → Float → Point3
line_point l t = along l.origin (scaled_v l.direction t)

-- 01, "Nearest parameter: (p - origin)·direction" (`Line::closest_param`)
unfoldable pub nearest : Line → Point3 → Float
nearest l p = dot_v (minus p l.origin) l.direction

-- Rust's `abs`
unfoldable pub size_f : Float → Float
size_f nan = nan
size_f (inf s) = inf false
size_f (fin s m e) = fin false m e

-- 01, "Off surface: the float size of normal·(p - origin)" (`Plane::distance`)
unfoldable pub plane_distance : Plane → Point3 → Float
plane_distance s p = size_f (dot_v (minus p s.origin) s.normal)

-- one half, by its bits
abbrev pub half : Float
half = of_bits binary64 0x3fe0_0000_0000_0000

-- the session's tolerance is half the precision (`Precision::default_local`; docs/DIFFERENCES.md)
abbrev pub session : Float → Float
session precision = precision *ᶠ half

-- the rule of each version, over the record's own tolerance and the session's. Version 1 is 01's, "the record's own, else the session's"; W-211, "From version 2 of the drawing practice the effective
-- tolerance is the larger of the record's own and the session's" (where neither is larger, the own)
unfoldable pub rule : Version → Float → Float → Float
rule First own session = own
rule Second own session = cond (lt own session) session own

-- "Effective tolerance": a record that has none of its own has the session's, by either rule
unfoldable pub effective : Version → Tolerance → Float → Float
effective v (Own t) precision = rule v t (session precision)
effective v Session precision = session precision
