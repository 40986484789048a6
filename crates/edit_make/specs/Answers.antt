-- What making an empty model with its precision and its version answers, and what it leaves in the lent memory (model.rs, `Model::new`;
-- 01, "Every call tests 9 first"; W-211, "1 for a version other than 1 and 2 at creation"). Definitions only.
use Rattle.std.specs.Prelude.{ℕ, ◌&&◌, List, [], ◌∷◌, ◌++◌, replicate, Float}
use Rattle.geom_lines_planes.specs.Refuse.{◌unless◌, ◌then◌}
use Rattle.meaning.specs.Edits.{precision_ok}
use Rattle.memory_layout.specs.Readable.{version_ok, lent_ok}
use Rattle.memory_writes.specs.Put.{over, unless_refused}

module _ (room w : List ℕ) (x : List Float) where
  -- what is lent must hold the tables, whatever stands in it
  unfoldable pub make_number : Float → ℕ → ℕ
  make_number p v = 9 unless lent_ok room w x then 1 unless precision_ok p && version_ok v

  -- no record is used, and the version stands behind the counts
  unfoldable pub make_words : Float → ℕ → List ℕ
  make_words p v = unless_refused (make_number p v) (over 0 (replicate 10 0 ++ (v ∷ [])) w) w

  unfoldable pub make_reals : Float → ℕ → List Float
  make_reals p v = unless_refused (make_number p v) (over 0 (p ∷ []) x) x
