-- What the functions behind the walks promise one another. No reader of a public promise needs this file. Definitions only.
use Rattle.std.specs.Prelude.{ℕ, ◌≡◌, Bool, List, leb, length}
use Rattle.geom_lines_planes.specs.Refuse.{◌unless◌, ◌then◌}
use Rattle.walk_answers.specs.Calls.{handed, in_front}

-- what a walk is refused with before its list is looked at
unfoldable pub refused_by : Bool → Bool → ℕ → ℕ
refused_by tables marks followed = 9 unless tables then 8 unless marks then followed

-- a walk was put into the front of a list that is long enough, or it was refused
pub record Wrote (walk out₀ out : List ℕ) (code n : ℕ) : Type 0 where
  pub number : code ≡ (8 unless leb (length walk) (length out₀))
  pub count : n ≡ length (handed code walk)
  pub list : out ≡ in_front (handed code walk) out₀

-- what a walk's call leaves, by its number
pub record Called (number : ℕ) (walk out₀ out : List ℕ) (given n : ℕ) : Type 0 where
  pub count : n ≡ length (handed number walk)
  pub list : out ≡ in_front (handed number walk) out₀
  pub code : given ≡ number
