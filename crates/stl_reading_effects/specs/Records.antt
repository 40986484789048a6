-- The words and floats of each new record read as the record that W-210 builds, and pass the test of refusal 9. Assumes nothing.
use Prim.Native.Nat.{ℕ, zero, suc, ◌+◌, ◌/◌, ◌≤◌, ◌<◌}
use Rattle.std.proofs.Common.{arith, ◌∙◌, take_at, le-leb}
use Rattle.std.specs.Prelude.{◌≡◌, Bool, true, cond, ◌&&◌, leb, length, replicate, Float}
use Rattle.std.proofs.Math.Path.{refl, ap, ap₂}
use Rattle.std.proofs.Math.Bool.{false}
use mathlib.Core.List.{List, [], ◌∷◌}
use Rattle.std.proofs.Math.ListN.{get_or}
use Rattle.std.proofs.lemmas.List.{get_or-replicate, length-replicate}
use Rattle.std.proofs.Math.Seq.{take-append_seam}
use Rattle.float_vectors.specs.declared.vector.Point3.{Point3}
use Rattle.meaning.specs.Lists.{run}
use Rattle.meaning.specs.Model.{Sense, positive, negative}
use Rattle.meaning_list_laws.specs.Lists.{length_run}
use Rattle.memory_layout.specs.Layout.{word_strides, word}
use Rattle.memory_layout.specs.Decode.{list_at, sense_of, office_of, body_of, region_of, shell_of, face_of, loop_of, fin_of, edge_of, vertex_of, decode}
use Rattle.memory_layout.specs.Readable.{record_ok}
use Rattle.memory_writes.specs.Put.{over, new_words}
use Rattle.memory_writes.specs.Over.{entry-behind}
use Rattle.stl_body.specs.Read.{Step, step, rising, Mesh, fins_on, new_body, new_region, new_shell, new_face, new_loop, new_fin, edge_along, new_edge, new_vertex}
use Rattle.stl_rows.specs.Rows.{body_row, region_row, shell_row, face_row, loop_row, fin_words, edge_words, fin_row, edge_row, vertex_row, edge_floats, point_floats, vertex_floats}

-- ---- behind its front a new record is 0

new-behind : (k : ℕ) (f : List ℕ) (i : ℕ) → length f ≤ i → i < word word_strides k → word (new_words k f) i ≡ 0
unfolding new_words
new-behind k f i h g =
    let z : List ℕ = replicate (word word_strides k) 0 in
    let l : length z ≡ word word_strides k = length-replicate (word word_strides k) 0 in
    entry-behind 0 i f z 0 (omega arith) (omega arith) ∙ get_or-replicate (word word_strides k) i 0 0 g

-- a list whose count is 0
none-listed : (w : List ℕ) (at : ℕ) → word w at ≡ 0 → list_at w at ≡ []
unfolding list_at
none-listed w at e = rw e

-- ---- a list at the end of the front

shell-listed : (region n : ℕ) (l : List ℕ) → length l ≡ n → list_at (new_words 2 (region ∷ n ∷ l)) 1 ≡ l
unfolding new_words over list_at
shell-listed region n l e = take_at l _ n e

edge-listed : (vertex : ℕ) (fins : List ℕ) (s : Step) → list_at (new_words 6 (edge_words vertex fins s)) 7 ≡ fins
unfolding new_words over list_at
edge-listed vertex fins s = take-append_seam fins _

-- ---- the records

sense-read : (b : Bool) → sense_of (cond b 0 1) ≡ cond b positive negative
sense-read true = refl
sense-read false = refl

module _ (room w : List ℕ) (x : List Float) where
  pub body-read : (o j : ℕ) → body_of (new_words 0 (body_row o (word w 1) j)) ≡ new_body (decode room w x) (office_of o)
  unfolding new_words over list_at run decode
  body-read o j = refl

  pub region-read : (j : ℕ) → j < 2 → region_of (new_words 1 (region_row (word w 0) (word w 2) j)) ≡ new_region (decode room w x) j
  unfolding new_words over list_at decode
  region-read zero h = refl
  region-read (suc zero) h = refl
  region-read (suc (suc j)) h = absurd (omega arith)

  pub shell-read : (t : Mesh) (j : ℕ) → t.triangles ≤ 512 → shell_of (new_words 2 (shell_row (word w 1) (word w 3) t.triangles j)) ≡ new_shell (decode room w x) t j
  unfolding decode
  shell-read t j h =
      let f : List ℕ = shell_row (word w 1) (word w 3) t.triangles j in
      let l = length_run (word w 3) t.triangles in
      let a = none-listed (new_words 2 f) 514 (new-behind 2 f 514 (omega arith) (omega arith)) in
      let b = none-listed (new_words 2 f) 771 (new-behind 2 f 771 (omega arith) (omega arith)) in
      ap (λ (r : List ℕ). record { region = word (new_words 2 f) 0; faces = r; wire_edges = list_at (new_words 2 f) 514; acorn_vertices = list_at (new_words 2 f) 771 }) (shell-listed (word w 1 + j) t.triangles (run (word w 3) t.triangles) l)
      ∙ ap₂ (λ (r s : List ℕ). record { region = word (new_words 2 f) 0; faces = run (word w 3) t.triangles; wire_edges = r; acorn_vertices = s }) a b
      ∙ ap (λ (i : ℕ). record { region = i; faces = run (word w 3) t.triangles; wire_edges = []; acorn_vertices = [] }) (first (word w 1 + j) (t.triangles ∷ run (word w 3) t.triangles))
    where
      first : (a : ℕ) (l : List ℕ) → word (new_words 2 (a ∷ l)) 0 ≡ a
      first a l = unfold new_words over in refl

  pub face-read : (j : ℕ) → face_of (new_words 3 (face_row (word w 2) (word w 4) j)) ≡ new_face (decode room w x) j
  unfolding new_words over list_at decode
  face-read j = refl

  pub loop-read : (j : ℕ) → loop_of (new_words 4 (loop_row (word w 3) (word w 5) j)) ≡ new_loop (decode room w x) j
  unfolding new_words over list_at run decode
  loop-read j = refl

  pub fin-read : (t : Mesh) (j : ℕ) → fin_of (new_words 5 (fin_row (word w 4) (word w 6) t j)) ≡ new_fin (decode room w x) t j
  unfolding new_words over decode
  fin-read t j = ap (λ (s : Sense). record { owner = word w 4 + j / 3; edge = word w 6 + get_or t.edge_numbers j 0; sense = s; pcurve = false }) (sense-read (rising (get_or t.steps j (step 0 0))))

  along : (fins : List ℕ) (s : Step) (j : ℕ) → edge_of (new_words 6 (edge_words (word w 7) fins s)) (edge_floats j) ≡ edge_along (decode room w x) fins s
  along fins s j =
      let f : List ℕ = new_words 6 (edge_words (word w 7) fins s) in
      let rest : record { fins = fins; start = (edge_of f (edge_floats j)).start; end = (edge_of f (edge_floats j)).end; curve = (edge_of f (edge_floats j)).curve; tolerance = (edge_of f (edge_floats j)).tolerance } ≡ edge_along (decode room w x) fins s =
      unfold new_words over decode in refl in
      ap (λ (l : List ℕ). record { fins = l; start = (edge_of f (edge_floats j)).start; end = (edge_of f (edge_floats j)).end; curve = (edge_of f (edge_floats j)).curve; tolerance = (edge_of f (edge_floats j)).tolerance }) (edge-listed (word w 7) fins s)
      ∙ rest

  pub edge-read : (t : Mesh) (j : ℕ) → edge_of (new_words 6 (edge_row (word w 7) (word w 5) t j)) (edge_floats j) ≡ new_edge (decode room w x) t j
  unfolding decode
  edge-read t j = along (fins_on j (word w 5) t.edge_numbers) (get_or t.edges j (step 0 0)) j

  pub vertex-read : (t : Mesh) (j : ℕ) → vertex_of (new_words 7 (vertex_row j)) (vertex_floats t j) ≡ new_vertex t j
  unfolding new_words over
  vertex-read t j = refl

-- ---- and they pass

pub body_ok : (o region j : ℕ) (s : List Float) → leb o 1 ≡ true → record_ok 0 (new_words 0 (body_row o region j)) s ≡ true
unfolding record_ok new_words over run
body_ok o region j s h = rw h refl

pub region-ok : (body shell j : ℕ) (s : List Float) → j < 2 → record_ok 1 (new_words 1 (region_row body shell j)) s ≡ true
unfolding record_ok new_words over
region-ok body shell zero s h = refl
region-ok body shell (suc zero) s h = refl
region-ok body shell (suc (suc j)) s h = absurd (omega arith)

pub shell-ok : (region face n j : ℕ) (s : List Float) → n ≤ 512 → record_ok 2 (new_words 2 (shell_row region face n j)) s ≡ true
unfolding record_ok
shell-ok region face n j s h =
    let f : List ℕ = shell_row region face n j in
    let l = length_run face n in
    rw (new-behind 2 f 514 (omega arith) (omega arith), new-behind 2 f 771 (omega arith) (omega arith), second (region + j) n (run face n), le-leb n 512 h) refl
  where
    second : (a b : ℕ) (l : List ℕ) → word (new_words 2 (a ∷ b ∷ l)) 1 ≡ b
    second a b l = unfold new_words over in refl

pub face-ok : (shell first j : ℕ) (s : List Float) → record_ok 3 (new_words 3 (face_row shell first j)) s ≡ true
unfolding record_ok new_words over
face-ok shell first j s = refl

pub loop-ok : (face fin j : ℕ) (s : List Float) → record_ok 4 (new_words 4 (loop_row face fin j)) s ≡ true
unfolding record_ok new_words over run
loop-ok face fin j s = refl

pub fin-ok : (owner edge : ℕ) (p : Step) (s : List Float) → record_ok 5 (new_words 5 (fin_words owner edge p)) s ≡ true
unfolding record_ok new_words over
fin-ok owner edge p s = by (rising p)
  where
    by : (b : Bool) → (leb (cond b 0 1) 1 && true) ≡ true
    by true = refl
    by false = refl

pub edge-ok : (vertex : ℕ) (fins : List ℕ) (p : Step) (j : ℕ) → length fins ≤ 8 → record_ok 6 (new_words 6 (edge_words vertex fins p)) (edge_floats j) ≡ true
unfolding record_ok new_words over
edge-ok vertex fins p j h = rw (le-leb (length fins) 8 h) refl

pub vertex-ok : (j : ℕ) (p : Point3) → record_ok 7 (new_words 7 (vertex_row j)) (point_floats p) ≡ true
unfolding record_ok new_words over
vertex-ok j p = refl
