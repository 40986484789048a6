-- The volume told from what is known of the sides. No reader of a public promise needs this file. Definitions only.
use Rattle.std.specs.Prelude.{ℕ, eqb, length}
use Rattle.interval_arithmetic.specs.Ops.{zero_f}
use Rattle.geom_lines_planes.specs.Refuse.{◌unless◌, ◌then◌, answer}
use Rattle.meaning.specs.Model.{Model, body}
use Rattle.meaning.specs.Refuse.{◌if◌}
use Rattle.meaning.specs.Inquire.{is_solid, solid_sides, sides_refusal, sum_volumes}
use Rattle.inquire_regions.specs.declared.Tally.{Tally}
use Rattle.station_answers.specs.declared.Volume.{Volume}
use Rattle.station_answers.specs.declared.Volume.TheVariants.{Is, Refused}

unfoldable pub told_volume : Tally → Volume
told_volume t = answer Is Refused (t.refused then 4 if t.empty) t.volume

-- the last three tests of `volume_refusal`
abbrev pub solid_number : Model → ℕ → ℕ
solid_number m b =
    6 unless is_solid (body m b).kind
    then sides_refusal m (solid_sides m b)
    then 4 if eqb (length (solid_sides m b)) 0

unfoldable pub solid_volume : Model → ℕ → Volume
solid_volume m b = answer Is Refused (solid_number m b) (sum_volumes m zero_f (solid_sides m b))
