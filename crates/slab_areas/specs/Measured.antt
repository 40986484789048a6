-- A loop's area as the code adds it up. No reader of a public promise needs this file. Definitions only.
use Rattle.std.specs.Prelude.{ℕ, Bool, cond, ◌&&◌, List, eqb, ℤ, length}
use Rattle.meaning.specs.Model.{Model}
use Rattle.meaning.specs.Refuse.{first_of}
use Rattle.meaning_slabs.specs.Slabs.{corner_at, spot, strip}
use Rattle.memory_layout.specs.Names.{FACE_LOOPS}
use Rattle.memory_layout.specs.Entries.{list_of}
use Rattle.inquire_fin_starts.specs.Starts.{start_number}
use Rattle.inquire_sides.specs.Sides.{rim_of, face_whole}

-- the two axes beside an axis
abbrev pub across : ℕ → ℕ
across a = cond (eqb a 0) 1 0

abbrev pub upward : ℕ → ℕ
upward a = cond (eqb a 2) 1 2

-- from where the fin i starts to where j does
abbrev pub step_at : Model → ℕ → ℕ → ℕ → ℤ
step_at m a i j = strip (spot a (corner_at m i)) (spot a (corner_at m j))

-- a face with its loop, fins and edges, one loop, and all starts there
unfoldable pub measurable : List ℕ → List ℕ → ℕ → Bool
measurable room w f = face_whole room w f && eqb (length (list_of room w FACE_LOOPS f)) 1 && eqb (first_of (start_number room w) (rim_of room w f)) 0
