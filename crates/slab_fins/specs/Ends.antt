-- Ends as numbers, and a fin by its rule. No reader of a public promise needs this file. Definitions only.
use Rattle.std.specs.Prelude.{ℕ, suc}
use Rattle.std.proofs.Math.Option.{Option, none, some}
use Rattle.geom_lines_planes.specs.Refuse.{◌unless◌}
use Rattle.meaning.specs.Model.{Model}
use Rattle.meaning_slabs.specs.Slabs.{ends_at}

unfoldable pub numbered : Option ℕ → ℕ
numbered none = 0
numbered (some i) = suc i

-- the test of `broken_fin`
abbrev pub open_fin : Model → ℕ → ℕ → ℕ
open_fin m i j = suc i unless ends_at m i j
