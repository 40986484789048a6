-- What an accepted reading of binary STL leaves in the lent memory is the model that W-210 builds, and passes the test of refusal 9. Assumes nothing.
use Prim.Native.Nat.{ℕ, zero, suc, ◌+◌, ◌*◌, ◌-◌, ◌≤◌, ◌<◌}
use Rattle.std.proofs.Common.{arith, sym, ◌∙◌, ltb-true, ltb-false}
use Rattle.std.specs.Prelude.{◌≡◌, Bool, true, false, cond, eqb, leb, ltb, length, get_or}
use Rattle.std.proofs.Math.Path.{refl, ap}
use mathlib.Core.List.{List, []}
use Rattle.std.specs.Float.Ieee.{Float}
use Rattle.meaning.specs.Model.{extended}
use Rattle.meaning.specs.Offices.{office_refusal}
use Rattle.meaning_list_laws.specs.Tests.{unless-zero}
use Rattle.meaning_list_laws.specs.Lists.{length_run}
use Rattle.memory_layout.specs.Layout.{word, words_of, reals_of}
use Rattle.memory_layout.specs.Decode.{office_of, version_of, table, body_of, region_of, shell_of, face_of, loop_of, fin_of, edge_of, vertex_of, carrier_of, decode}
use Rattle.memory_layout.specs.Readable.{readable}
use Rattle.memory_layout.specs.Fit.{Fit}
use Rattle.memory_writes.specs.Put.{new_words}
use Rattle.memory_writes.specs.Change.{SameTable, SameModel}
use Rattle.memory_writes.specs.Kept.{readable_of}
use Rattle.memory_layout.specs.Limits.{limits}
use Rattle.stl_body.specs.Read.{step, Mesh, fins_on, new_body, new_region, new_shell, new_face, new_loop, new_fin, new_edge, new_vertex, stl_triangles, mesh_of, built, has_room, read_refusal, model_after_read}
use Rattle.stl_body.proofs.Meshes.{mesh-ranged}
use Rattle.stl_body.proofs.Statements.{accepted, accepted-is}
use Rattle.stl_rows.specs.Rows.{new_counts, new_rows, new_floats, read_words, read_reals}
use Rattle.stl_rows.specs.Facts.{Ready, Flattened}
use Rattle.stl_rows.specs.Laws.{body-length, loop-length}
use Rattle.stl_reading_effects.specs.Room.{slots, shell-room, eighth, ready}
use Rattle.stl_reading_effects.specs.Laid.{Laid, Sound, laid-tables}
use Rattle.stl_reading_effects.specs.Records.{body-read, region-read, shell-read, face-read, loop-read, fin-read, edge-read, vertex-read, body_ok, region-ok, shell-ok, face-ok, loop-ok, fin-ok, edge-ok, vertex-ok}

-- a table with n records more reads as the table extended by them
pub table-laid : (room w w' : List ℕ) (x x' : List Float) (row : ℕ → ℕ → List ℕ) (floats : ℕ → ℕ → List Float) (c : ℕ → ℕ) → Laid room w x row floats c w' x'
    → {A : Type 0} (of : List ℕ → List Float → A) (q n : ℕ) (new : ℕ → A) → q < 10 → c q ≡ n → ((j : ℕ) → j < n → of (new_words q (row q j)) (floats q j) ≡ new j)
    → SameTable (table room w' x' q of) (extended (table room w x q of) n new)
unfolding extended
table-laid room w w' x x' row floats c l of q n new h e same =
    record {
      used = l.used q h ∙ ap (λ i. word w q + i) e;
      slots = λ i g. by (ltb i (word w q)) i g (ltb-true i (word w q)) (ltb-false i (word w q));
    }
  where
    by : (t : Bool) (i : ℕ) → i < word w' q → (t ≡ true → i < word w q) → (t ≡ false → word w q ≤ i)
        → of (words_of room w' q i) (reals_of room x' q i) ≡ cond t (of (words_of room w q i) (reals_of room x q i)) (new (i - word w q))
    by true i g y z = ap (λ r. of r (reals_of room x' q i)) (l.old-words q i h (y refl)) ∙ ap (of (words_of room w q i)) (l.old-reals q i h (y refl))
    by false i g y z =
        let a = z refl in
        let u = l.used q h in
        let j : ℕ = i - word w q in
        let at : word w q + j ≡ i = omega arith in
        let there : j < c q = omega arith in
        ap (λ k. of (words_of room w' q k) (reals_of room x' q k)) (sym at)
        ∙ ap (λ r. of r (reals_of room x' q (word w q + j))) (l.new-words q j h there)
        ∙ ap (of (new_words q (row q j))) (l.new-reals q j h there)
        ∙ same j (omega arith)

-- a table that got none reads as it was
pub table_kept : (room w w' : List ℕ) (x x' : List Float) (row : ℕ → ℕ → List ℕ) (floats : ℕ → ℕ → List Float) (c : ℕ → ℕ) → Laid room w x row floats c w' x'
    → {A : Type 0} (of : List ℕ → List Float → A) (q : ℕ) → q < 10 → c q ≡ 0 → SameTable (table room w' x' q of) (table room w x q of)
table_kept room w w' x x' row floats c l of q h e =
    let u = l.used q h in
    record {
      used = omega arith;
      slots = λ i g. ap (λ r. of r (reals_of room x' q i)) (l.old-words q i h (omega arith)) ∙ ap (of (words_of room w q i)) (l.old-reals q i h (omega arith));
    }

module _ (room w : List ℕ) (x : List Float) (o : ℕ) (t : Mesh) (fit : Fit room w x) (roomy : has_room (limits room) (decode room w x) t ≡ true)
    (office : office_refusal o ≡ 0) where
  abbrev row : ℕ → ℕ → List ℕ
  row q = get_or (new_rows w o t) q (λ _. [])

  abbrev float : ℕ → ℕ → List Float
  float q = get_or (new_floats t) q (λ _. [])

  pub sound : (k j : ℕ) → k < 8 → j < word (new_counts t) k → Sound room w x row float k j
  sound zero j h g = record { short = let l = body-length o (word w 1) j in omega arith; whole = refl; ok = body_ok o (word w 1) j [] (unless-zero 0 (leb o 1) office) }
  sound (suc zero) j h g = record { short = omega arith; whole = refl; ok = region-ok (word w 0) (word w 2) j [] g }
  sound (suc (suc zero)) j h g =
      let a = shell-room room w x t roomy in
      record { short = let l = length_run (word w 3) t.triangles in omega arith; whole = refl; ok = shell-ok (word w 1) (word w 3) t.triangles j [] a }
  sound (suc (suc (suc zero))) j h g = record { short = omega arith; whole = refl; ok = face-ok (word w 2) (word w 4) j [] }
  sound (suc (suc (suc (suc zero)))) j h g = record { short = let l = loop-length (word w 3) (word w 5) j in omega arith; whole = refl; ok = loop-ok (word w 3) (word w 5) j [] }
  sound (suc (suc (suc (suc (suc zero))))) j h g = record { short = omega arith; whole = refl; ok = fin-ok _ _ (get_or t.steps j (step 0 0)) [] }
  sound (suc (suc (suc (suc (suc (suc zero)))))) j h g =
      let a = eighth room w x t roomy j (word w 5) g in
      record { short = omega arith; whole = refl; ok = edge-ok (word w 7) (fins_on j (word w 5) t.edge_numbers) (get_or t.edges j (step 0 0)) j a }
  sound (suc (suc (suc (suc (suc (suc (suc zero))))))) j h g = record { short = omega arith; whole = refl; ok = vertex-ok j _ }
  sound (suc (suc (suc (suc (suc (suc (suc (suc k)))))))) j h g = absurd (omega arith)

-- ---- the bytes s of an accepted reading

module _ (room w : List ℕ) (x : List Float) (o : ℕ) (s : List ℕ) (fit : Fit room w x) (passed : read_refusal (limits room) (decode room w x) o s ≡ 0) where
  abbrev mesh : Mesh
  mesh = mesh_of (stl_triangles s)

  -- and what `lay` of `stl_laying` asks, where the mesh stands in flat lists
  pub accepted-ready : (n v e : ℕ) (numbers : List ℕ) (points : List Float) (edges ends : List ℕ) → Flattened mesh n v e numbers points edges ends
      → Ready room w x n v e numbers points edges ends
  accepted-ready n v e numbers points edges ends f =
      let a = accepted (limits room) (decode room w x) o s passed in
      ready room w x mesh a.room fit n v e numbers points edges ends (mesh-ranged (stl_triangles s) a.finite) f
