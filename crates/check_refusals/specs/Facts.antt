-- What the functions behind `check_body` promise one another. No reader of a public promise needs this file. Definitions only.
use Rattle.std.specs.Prelude.{ℕ, leb}
use Rattle.geom_lines_planes.specs.Refuse.{◌unless◌, ◌then◌}
use Rattle.meaning.specs.Model.{Model, has}

-- `check_refusal`, by the number of samples
unfoldable pub ask_refusal : Model → ℕ → ℕ → ℕ
ask_refusal m samples b = 1 unless leb samples 255 then 2 unless has m.bodies b
