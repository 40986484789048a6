-- What a row of tests answers. Assumes nothing.
use Rattle.std.specs.Prelude.{ℕ, zero, suc, ◌≡◌, refl}
use Rattle.geom_lines_planes.specs.Refuse.{◌then◌}

-- a refusal is the first of its row
pub refuses : (a b : ℕ) → (a ≡ 0 → ⊥) → a ≡ a then b
refuses zero b h = absurd (h refl)
refuses (suc n) b h = refl
