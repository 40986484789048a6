-- The box of a walk, and of what is known of its points. No reader of a public promise needs this file. Definitions only.
use Rattle.std.specs.Prelude.{ℕ, List, map, eqb, length}
use Rattle.float_vectors.specs.Space.{finite_point}
use Rattle.geom_lines_planes.specs.Refuse.{◌unless◌, ◌then◌, answer}
use Rattle.meaning.specs.Lists.{all}
use Rattle.meaning.specs.Model.{Model, has, point_of}
use Rattle.meaning.specs.Refuse.{◌if◌}
use Rattle.meaning.specs.Inquire.{box_of}
use Rattle.inquire_bbox.specs.declared.bbox.Extent.{Extent}
use Rattle.inquire_bbox.specs.Boxes.{seen_box}
use Rattle.station_answers.specs.declared.BoxFound.{BoxFound}
use Rattle.station_answers.specs.declared.BoxFound.TheVariants.{Is, Refused}

unfoldable pub extent_box : Extent → BoxFound
extent_box e = answer Is Refused (4 if e.empty then 4 unless e.finite) e.bounds

-- the last three tests of `box_refusal`
abbrev pub walk_number : Model → List ℕ → ℕ
walk_number m walk =
    2 unless all (has m.vertices) walk
    then 4 if eqb (length walk) 0
    then 4 unless all (λ v. finite_point (point_of m v)) walk

unfoldable pub walk_box : Model → List ℕ → BoxFound
walk_box m walk = answer Is Refused (walk_number m walk) (seen_box (box_of (map (point_of m) walk)))
