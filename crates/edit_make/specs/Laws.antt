-- The tests of making a model, as facts. Assumes nothing.
use Rattle.std.specs.Prelude.{ℕ, ◌≡◌, true, ◌&&◌, List, Float}
use Rattle.geom_lines_planes.specs.Refuse.{◌unless◌}
use Rattle.meaning.specs.Edits.{precision_ok}
use Rattle.meaning_list_laws.specs.Tests.{and_both, then-zero, unless-zero}
use Rattle.memory_layout.specs.Readable.{version_ok, lent_ok}
use Rattle.memory_layout.specs.Fit.{Lent}
use Rattle.memory_layout.specs.Laws.{lent_of}
use Rattle.edit_make.specs.Answers.{make_number}

module _ (room w : List ℕ) (x : List Float) (p : Float) (v : ℕ) (e : make_number room w x p v ≡ 0) where
  -- a model is made
  pub make-open : Lent room w x
  unfolding make_number
  make-open = lent_of room w x (unless-zero 8 (lent_ok room w x) (then-zero (9 unless lent_ok room w x) (1 unless precision_ok p && version_ok v) e).0)

  -- of a precision and a version that are allowed
  pub make-allowed : (precision_ok p ≡ true) × (version_ok v ≡ true)
  unfolding make_number
  make-allowed = and_both (precision_ok p) (version_ok v) (unless-zero 0 (precision_ok p && version_ok v) (then-zero (9 unless lent_ok room w x) (1 unless precision_ok p && version_ok v) e).1)
