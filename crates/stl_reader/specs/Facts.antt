-- The number of a reading by its parts, as the code meets them. No reader of a public promise needs this file. Definitions only.
use Rattle.std.specs.Prelude.{ℕ, ◌+◌, ◌*◌, ◌≤◌, ◌≡◌, Bool, true, ◌&&◌, List, leb, Float}
use Rattle.geom_lines_planes.specs.Refuse.{◌unless◌, ◌then◌, answer}
use Rattle.meaning.specs.Offices.{office_refusal}
use Rattle.memory_layout.specs.Layout.{word}
use Rattle.memory_layout.specs.Readable.{readable}
use Rattle.memory_layout.specs.Fit.{Fit}
use Rattle.memory_layout.specs.Decode.{decode}
use Rattle.memory_layout.specs.Names.{BODIES}
use Rattle.memory_writes.specs.Put.{unless_refused}
use Rattle.edit_core.specs.declared.Inserted.{Inserted}
use Rattle.edit_core.specs.declared.Inserted.TheVariants.{At, Refused}
use Rattle.memory_layout.specs.Limits.{limits}
use Rattle.stl_body.specs.Read.{Mesh, stl_triangles, length_fits, corners, all_finite, all_apart, has_room}
use Rattle.stl_body.specs.Meshes.{Ranged}
use Rattle.stl_rows.specs.Rows.{read_words, read_reals}
use Rattle.stl_rows.specs.Facts.{Flattened}

-- what is refused before a vertex is numbered
unfoldable pub early_number : List ℕ → List ℕ → List Float → ℕ → List ℕ → ℕ
early_number room w x o b =
    9 unless readable room w x
    then 9 unless length_fits b
    then office_refusal o
    then 5 unless all_finite (corners (stl_triangles b))
    then 1 unless all_apart (stl_triangles b)

-- table k has slots for n records more
abbrev pub slots_for : List ℕ → List ℕ → ℕ → ℕ → Bool
slots_for room w k n = leb (word w k + n) (word room k)

-- the tables have those that n triangles take, with e edges and v vertices
unfoldable pub tables_fit : List ℕ → List ℕ → ℕ → ℕ → ℕ → Bool
tables_fit room w n e v =
    slots_for room w 0 1
    && slots_for room w 1 2
    && slots_for room w 2 2
    && slots_for room w 3 n
    && slots_for room w 4 n
    && slots_for room w 5 (3 * n)
    && slots_for room w 6 e
    && slots_for room w 7 v

-- what is not refused early
pub record Early (room w : List ℕ) (x : List Float) (o : ℕ) (b : List ℕ) : Type 0 where
  pub fit : Fit room w x
  pub long : length_fits b ≡ true
  pub office : o ≤ 1
  pub finite : all_finite (corners (stl_triangles b)) ≡ true
  pub apart : all_apart (stl_triangles b) ≡ true

-- some mesh stands in flat lists
pub record Meshed (n v e : ℕ) (numbers : List ℕ) (points : List Float) (edges ends : List ℕ) : Type 0 where
  pub mesh : Mesh
  pub flat : Flattened mesh n v e numbers points edges ends
  pub ranged : Ranged mesh
  pub few : n ≤ 512

-- the mesh t is laid over the words w and the floats x where there is room for it, else refused with 8
pub record Laid (room : List ℕ) (o : ℕ) (t : Mesh) (w w' : List ℕ) (x x' : List Float) (r : Inserted) : Type 0 where
  pub number : r ≡ answer At Refused (8 unless has_room (limits room) (decode room w x) t) (word w BODIES)
  pub words : w' ≡ unless_refused (8 unless has_room (limits room) (decode room w x) t) (read_words room w o t) w
  pub floats : x' ≡ unless_refused (8 unless has_room (limits room) (decode room w x) t) (read_reals room w x t) x
