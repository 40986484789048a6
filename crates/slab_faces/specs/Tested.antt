-- A face by its rules, as the code asks them. No reader of a public promise needs this file. Definitions only.
use Rattle.std.specs.Prelude.{ℕ, suc, Bool, cond, eqb, Float}
use Rattle.std.specs.Float.Ieee.{eq}
use Rattle.geom_lines_planes.specs.Refuse.{◌unless◌}
use Rattle.meaning.specs.Model.{Model}
use Rattle.meaning_slabs.specs.Slabs.{along_normal, one_loop, on, corner_at, level_face, broken_fin}

abbrev pub level_at : Model → ℕ → Float → ℕ → Bool
level_at m a at i = eq (on a (corner_at m i)) at

-- rule 3 or 6
unfoldable pub rim_tested : Model → ℕ → ℕ → ℕ
rim_tested m rule f = cond (eqb rule 3) (broken_fin m f) (suc f unless level_face m f)

-- rule 1 or 2; the others where the face has one loop
unfoldable pub face_tested : Model → ℕ → ℕ → ℕ
face_tested m rule f =
    cond (eqb rule 1) (suc f unless along_normal m f)
    (cond (eqb rule 2) (suc f unless one_loop m f)
    (cond (one_loop m f) (rim_tested m rule f) 0))
