-- What a box, a volume, a report and fit to saw put into lent slots, where the number is 0. Definitions only.
use Rattle.std.specs.Prelude.{ℕ, ◌/◌, List, [], ◌∷◌, map, length, Float}
use Rattle.interval_arithmetic.specs.Ops.{zero_f}
use Rattle.meaning.specs.Model.{Model, point_of}
use Rattle.meaning.specs.Walks.{vertex_walk}
use Rattle.meaning.specs.Inquire.{box_of, solid_sides, sum_volumes}
use Rattle.meaning.specs.Faults.{CheckOptions, counts, sawable}
use Rattle.inquire_bbox.specs.Boxes.{seen_box}
use Rattle.check_report.specs.Calls.{seen_counts, report_on}
use Rattle.c_answers.specs.Values.{corners_value, counts_value, mark_value}

abbrev pub box_value : Model → ℕ → List Float
box_value m b = corners_value (seen_box (box_of (map (point_of m) (vertex_walk m b))))

abbrev pub volume_value : Model → ℕ → List Float
volume_value m b = sum_volumes m zero_f (solid_sides m b) ∷ []

-- the lent list has an entry for every four words
abbrev pub report_value : List ℕ → List ℕ → List Float → ℕ → CheckOptions → List ℕ → List ℕ
report_value room w x b o nums = counts_value (seen_counts (counts (length nums / 4) (report_on room w x b o)))

abbrev pub fit_value : Model → ℕ → List ℕ
fit_value m b = mark_value (sawable m b)
