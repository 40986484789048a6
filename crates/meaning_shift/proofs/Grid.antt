-- The theorems of specs/Grid.antt that rest on those of specs/ that the edits of must-fail/ make fail. Assumes nothing.
use Rattle.std.specs.Prelude.{ℕ, ◌≡◌, true}
use Rattle.float_vectors.specs.declared.vector.Point3.{Point3}
use Rattle.meaning.specs.Lists.{all}
use Rattle.meaning.specs.Model.{Model, point_of}
use Rattle.meaning.specs.Walks.{vertex_walk}
use Rattle.meaning_list_laws.specs.Lists.{all-member}
use Rattle.meaning_sheets.specs.Sheets.{corner, grid_point}
use Rattle.meaning_shift.specs.Moving.{Shifted, moved}
use Rattle.meaning_shift.specs.Grid.{corner-moved}

pub float-shift : (m : Model) (b : ℕ) (d : Point3) → grid_point d ≡ true → all (λ v. grid_point (point_of m v)) (vertex_walk m b) ≡ true
    → all (λ v. grid_point (moved d (point_of m v))) (vertex_walk m b) ≡ true → Shifted m b (corner d) (λ v. moved d (point_of m v))
float-shift m b d g before after =
    record {
      before = before;
      by = λ v h. corner-moved d (point_of m v) g (all-member (λ v. grid_point (point_of m v)) (vertex_walk m b) v before h) (all-member (λ v. grid_point (moved d (point_of m v))) (vertex_walk m b) v after h);
      after = after;
    }
