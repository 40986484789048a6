-- That the lent memory holds the model that is built, and is readable: what rests on the sound rows of specs/Statements.antt. Assumes nothing.
use Prim.Native.Nat.{ℕ, ◌*◌}
use Rattle.std.proofs.Common.{arith}
use Rattle.std.specs.Prelude.{◌≡◌, true, cond, eqb, ltb, length, get_or}
use Rattle.std.proofs.Math.Path.{refl, ap}
use mathlib.Core.List.{List, []}
use Rattle.std.specs.Float.Ieee.{Float}
use Rattle.meaning.specs.Offices.{office_refusal}
use Rattle.memory_layout.specs.Layout.{word}
use Rattle.memory_layout.specs.Decode.{office_of, version_of, body_of, region_of, shell_of, face_of, loop_of, fin_of, edge_of, vertex_of, carrier_of, decode}
use Rattle.memory_layout.specs.Readable.{readable}
use Rattle.memory_layout.specs.Fit.{Fit}
use Rattle.memory_writes.specs.Change.{SameModel}
use Rattle.memory_writes.specs.Kept.{readable_of}
use Rattle.memory_layout.specs.Limits.{limits}
use Rattle.stl_body.specs.Read.{Mesh, new_body, new_region, new_shell, new_face, new_loop, new_fin, new_edge, new_vertex, built, has_room}
use Rattle.stl_rows.specs.Rows.{new_counts, new_rows, new_floats, read_words, read_reals}
use Rattle.stl_reading_effects.specs.Room.{slots, shell-room}
use Rattle.stl_reading_effects.specs.Laid.{Laid, laid-tables}
use Rattle.stl_reading_effects.specs.Records.{body-read, region-read, shell-read, face-read, loop-read, fin-read, edge-read, vertex-read}
use Rattle.stl_reading_effects.specs.Statements.{table-laid, table_kept, sound}

module _ (room w : List ℕ) (x : List Float) (o : ℕ) (t : Mesh) (fit : Fit room w x) (roomy : has_room (limits room) (decode room w x) t ≡ true)
    (office : office_refusal o ≡ 0) where
  abbrev row : ℕ → ℕ → List ℕ
  row q = get_or (new_rows w o t) q (λ _. [])

  abbrev float : ℕ → ℕ → List Float
  float q = get_or (new_floats t) q (λ _. [])

  abbrev more : ℕ → ℕ
  more q = cond (ltb q 8) (word (new_counts t) q) (cond (eqb q 8) 0 0)

  laid : Laid room w x row float more (read_words room w o t) (read_reals room w x t)
  unfolding read_words read_reals
  laid = laid-tables room w x (new_rows w o t) (new_floats t) (new_counts t) 8 (omega arith) (slots room w x t roomy) (sound room w x o t fit roomy office) fit 8 (omega arith)

  -- the memory holds the model that is built
  pub read-model : SameModel (decode room (read_words room w o t) (read_reals room w x t)) (built (decode room w x) (office_of o) t)
  unfolding decode built
  read-model =
      let w' : List ℕ = read_words room w o t in
      let x' : List Float = read_reals room w x t in
      let m = decode room w x in
      record {
        version = ap version_of laid.version;
        precision = laid.precision;
        bodies = table-laid room w w' x x' row float more laid (λ r _. body_of r) 0 1 (λ k. new_body m (office_of o)) (omega arith) refl (λ j h. body-read room w x o j);
        regions = table-laid room w w' x x' row float more laid (λ r _. region_of r) 1 2 (new_region m) (omega arith) refl (λ j h. region-read room w x j h);
        shells = table-laid room w w' x x' row float more laid (λ r _. shell_of r) 2 2 (new_shell m t) (omega arith) refl (λ j h. shell-read room w x t j (shell-room room w x t roomy));
        faces = table-laid room w w' x x' row float more laid (λ r _. face_of r) 3 t.triangles (new_face m) (omega arith) refl (λ j h. face-read room w x j);
        loops = table-laid room w w' x x' row float more laid (λ r _. loop_of r) 4 t.triangles (new_loop m) (omega arith) refl (λ j h. loop-read room w x j);
        fins = table-laid room w w' x x' row float more laid (λ r _. fin_of r) 5 (3 * t.triangles) (new_fin m t) (omega arith) refl (λ j h. fin-read room w x t j);
        edges = table-laid room w w' x x' row float more laid edge_of 6 (length t.edges) (new_edge m t) (omega arith) refl (λ j h. edge-read room w x t j);
        vertices = table-laid room w w' x x' row float more laid vertex_of 7 (length t.points) (new_vertex t) (omega arith) refl (λ j h. vertex-read room w x t j);
        curves = table_kept room w w' x x' row float more laid carrier_of 8 (omega arith) refl;
        surfaces = table_kept room w w' x x' row float more laid carrier_of 9 (omega arith) refl;
      }

  -- and is readable
  pub read-fit : Fit room (read_words room w o t) (read_reals room w x t)
  read-fit = laid.fit

  pub read-readable : readable room (read_words room w o t) (read_reals room w x t) ≡ true
  read-readable = readable_of room (read_words room w o t) (read_reals room w x t) read-fit
