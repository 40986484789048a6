-- What follows of an accepted reading from proofs/Statements.antt. Assumes nothing.
use Prim.Native.Nat.{ℕ}
use Rattle.std.specs.Prelude.{◌≡◌}
use mathlib.Core.List.{List}
use Rattle.std.specs.Float.Ieee.{Float}
use Rattle.memory_layout.specs.Decode.{decode}
use Rattle.memory_layout.specs.Fit.{Fit}
use Rattle.memory_writes.specs.Change.{SameModel}
use Rattle.memory_layout.specs.Limits.{limits}
use Rattle.stl_body.specs.Read.{Mesh, stl_triangles, mesh_of, read_refusal, model_after_read}
use Rattle.stl_body.proofs.Statements.{accepted, accepted-is}
use Rattle.stl_rows.specs.Rows.{read_words, read_reals}
use Rattle.stl_reading_effects.proofs.Statements.{read-model, read-fit}

-- ---- the bytes s of an accepted reading

module _ (room w : List ℕ) (x : List Float) (o : ℕ) (s : List ℕ) (fit : Fit room w x) (passed : read_refusal (limits room) (decode room w x) o s ≡ 0) where
  abbrev mesh : Mesh
  mesh = mesh_of (stl_triangles s)

  pub accepted-model : SameModel (decode room (read_words room w o mesh) (read_reals room w x mesh)) (model_after_read (limits room) (decode room w x) o s)
  accepted-model =
      let a = accepted (limits room) (decode room w x) o s passed in
      rw (accepted-is (limits room) (decode room w x) o s passed) (read-model room w x o mesh fit a.room a.office)

  pub accepted-fit : Fit room (read_words room w o mesh) (read_reals room w x mesh)
  accepted-fit = let a = accepted (limits room) (decode room w x) o s passed in read-fit room w x o mesh fit a.room a.office
