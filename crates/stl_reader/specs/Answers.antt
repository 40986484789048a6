-- What reading binary STL into lent memory answers, and what it leaves there (W-210). Definitions only.
use Rattle.std.specs.Prelude.{ℕ, List, Float}
use Rattle.geom_lines_planes.specs.Refuse.{◌unless◌, ◌then◌, answer}
use Rattle.memory_layout.specs.Names.{BODIES}
use Rattle.memory_layout.specs.Layout.{word}
use Rattle.memory_layout.specs.Decode.{decode}
use Rattle.memory_layout.specs.Readable.{readable}
use Rattle.memory_writes.specs.Put.{unless_refused}
use Rattle.memory_layout.specs.Limits.{limits}
use Rattle.edit_core.specs.declared.Inserted.{Inserted}
use Rattle.edit_core.specs.declared.Inserted.TheVariants.{At, Refused}
use Rattle.stl_body.specs.Read.{Mesh, stl_triangles, mesh_of, read_refusal}
use Rattle.stl_rows.specs.Rows.{read_words, read_reals}

-- the bytes b, read for the office o
module _ (room w : List ℕ) (x : List Float) (o : ℕ) (b : List ℕ) where
  -- 01, "Every call tests 9 first", then the request's own, of the model
  unfoldable pub read_stl_number : ℕ
  read_stl_number = 9 unless readable room w x then read_refusal (limits room) (decode room w x) o b

  -- the new body's id
  unfoldable pub read_stl_answer : Inserted
  read_stl_answer = answer At Refused read_stl_number (word w BODIES)

  unfoldable pub read_stl_words : List ℕ
  read_stl_words = unless_refused read_stl_number (read_words room w o (mesh_of (stl_triangles b))) w

  unfoldable pub read_stl_reals : List Float
  read_stl_reals = unless_refused read_stl_number (read_reals room w x (mesh_of (stl_triangles b))) x
