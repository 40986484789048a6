-- The geometry of a straight edge: its line and its points (euler.rs, `carrier`). Definitions only.
use Rattle.std.specs.Prelude.{ℕ, ◌&&◌, Float}
use Rattle.std.specs.Float.Ieee.Scale.{finite}
use Rattle.geom_lines_planes.specs.Refuse.{◌unless◌, ◌then◌}
use Rattle.geom_lines_planes.specs.Geometry.{nearest}
use Rattle.geom_signs.specs.Signs.{increasing_s, span_s}
use Rattle.meaning.specs.Model.{Model}
use Rattle.meaning.specs.Split.{is_positive, carrier, start_point, end_point}
use Rattle.split_segment.specs.declared.segment.Segment.{Segment}

unfoldable pub segment_at : Model → ℕ → Segment
segment_at m e = record { line = carrier m e; start = start_point m e; end = end_point m e }

-- the parameters of the ends, as `lo` and `hi` of meaning
unfoldable pub low : Segment → Float
low s = nearest s.line s.start

unfoldable pub high : Segment → Float
high s = nearest s.line s.end

-- tests 7 and 8
unfoldable pub span_refusal : Segment → ℕ
span_refusal s =
    4 unless is_positive (increasing_s s.line.direction s.start s.end)
    then 7 unless finite (low s) && finite (high s) && is_positive (span_s (low s) (high s))
