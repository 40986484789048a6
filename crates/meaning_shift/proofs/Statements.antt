-- The theorems on moved stones, and on split ones, that rest on those of specs/ (Moving, Grid, Sides, Splits). Assumes nothing.
-- Moving a stone must not change its weight (W-214, whose words are quoted), for every model and every body of it. Assumes nothing.
use Rattle.std.specs.Prelude.{ℕ, ◌≡◌, true, List}
use Rattle.float_vectors.specs.declared.vector.Point3.{Point3}
use Rattle.meaning.specs.Lists.{all}
use Rattle.meaning.specs.Model.{Model, Limits, point_of}
use Rattle.meaning.specs.Walks.{vertex_walk}
use Rattle.meaning.specs.Split.{Cut, after_all}
use Rattle.meaning_sheets.specs.Sheets.{Corner, corner, grid_point, six_volume, stone_refusal}
use Rattle.meaning_shift.specs.Moving.{Movable, placed, Shifted, moved}
use Rattle.meaning_shift.proofs.Grid.{float-shift}
use Rattle.meaning_shift.proofs.Sides as Sides
use Rattle.meaning_shift.proofs.Splits.{splits-keep-movable}

-- 1. "Shift every vertex of the body by the same grid vector, staying in range. Six times the volume is unchanged": by any whole numbers of sixteenths,
-- however the floats of the new points are found
pub moving-keeps-the-volume : (x : Limits) (m : Model) (b r : ℕ) → Movable x m b r → (t : Corner) (point : ℕ → Point3) → Shifted m b t point
    → six_volume (placed m b point) b ≡ six_volume m b
moving-keeps-the-volume = Sides.volume-kept

-- 2. The same where a vector on the grid is added in floats
pub adding-keeps-the-volume : (x : Limits) (m : Model) (b r : ℕ) → Movable x m b r → (d : Point3) → grid_point d ≡ true
    → all (λ v. grid_point (point_of m v)) (vertex_walk m b) ≡ true → all (λ v. grid_point (moved d (point_of m v))) (vertex_walk m b) ≡ true
    → six_volume (placed m b (λ v. moved d (point_of m v))) b ≡ six_volume m b
adding-keeps-the-volume x m b r k d g before after = Sides.volume-kept x m b r k (corner d) (λ v. moved d (point_of m v)) (float-shift m b d g before after)

-- 3. And the moved stone is refused or taken as before
pub moving-keeps-the-refusal : (x : Limits) (m : Model) (b r : ℕ) → Movable x m b r → (t : Corner) (point : ℕ → Point3) → Shifted m b t point
    → stone_refusal (placed m b point) b ≡ stone_refusal m b
moving-keeps-the-refusal = Sides.refusal-kept

-- 4. What the request takes stays met by a split, and by any sequence of splits, accepted or refused
pub splits-keep-it-movable : (x : Limits) (m : Model) (b r : ℕ) → Movable x m b r → (l : List Cut) → Movable x (after_all x m l) b r
splits-keep-it-movable = splits-keep-movable

-- and so 1 behind them: of the split stone, whose new vertices are the body's too
pub moving-keeps-the-split-volume : (x : Limits) (m : Model) (b r : ℕ) → Movable x m b r → (l : List Cut) (t : Corner) (point : ℕ → Point3) → Shifted (after_all x m l) b t point
    → six_volume (placed (after_all x m l) b point) b ≡ six_volume (after_all x m l) b
moving-keeps-the-split-volume x m b r k l = Sides.volume-kept x (after_all x m l) b r (splits-keep-movable x m b r k l)
