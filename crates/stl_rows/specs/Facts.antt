-- What the inner functions ask, and what their loops keep. No reader of a public promise needs this file. Definitions only.
use Rattle.std.specs.Prelude.{ℕ, zero, suc, ◌+◌, ◌*◌, ◌/◌, ◌≤◌, ◌<◌, ◌≡◌, List, length, get_or, take, Float}
use Rattle.float_vectors.specs.declared.vector.Point3.{Point3}
use Rattle.memory_layout.specs.Layout.{word, real, words_needed, reals_needed}
use Rattle.memory_layout.specs.Fit.{Small}
use Rattle.stl_body.specs.Read.{Step, step, Mesh, fins_on}
use Rattle.stl_body.specs.Flat.{steps_in, Held}
use Rattle.stl_rows.specs.Rows.{words_behind, body_row, region_row, shell_row, face_row, loop_row, fin_words, edge_words, vertex_row, point_floats}

-- table k has room for n records more
pub record Space (room w : List ℕ) (k n : ℕ) : Type 0 where
  pub small : Small room
  pub words : words_needed room ≤ length w
  pub long : 11 ≤ length w
  pub table : k < 10
  pub slots : word w k + n ≤ word room k
  pub few : word room k ≤ 4096

-- and its floats too, from the record i on
pub record FloatSpace (room : List ℕ) (x : List Float) (k i n : ℕ) : Type 0 where
  pub small : Small room
  pub reals : reals_needed room ≤ length x
  pub table : k < 10
  pub slots : i + n ≤ word room k
  pub few : word room k ≤ 4096

-- so far: i records were appended to table k of the words w₀, and w is what they are now
pub record Grown (room : List ℕ) (k : ℕ) (row : ℕ → List ℕ) (w₀ w : List ℕ) (i : ℕ) : Type 0 where
  pub words : w ≡ words_behind room k row i w₀
  pub long : length w ≡ length w₀
  pub count : word w k ≡ word w₀ k + i

-- ---- a mesh in flat lists

-- the k-th point, and the k-th pair of numbers
abbrev pub point_in : List Float → ℕ → Point3
point_in l k = record { x = real l (3 * k); y = real l (3 * k + 1); z = real l (3 * k + 2) }

abbrev pub pair_in : List ℕ → ℕ → Step
pair_in l k = step (word l (2 * k)) (word l (2 * k + 1))

-- the rows of fins, edges and vertices, of n triangles
abbrev pub flat_fin_row : ℕ → ℕ → ℕ → List ℕ → List ℕ → ℕ → List ℕ
flat_fin_row first edge n numbers edges k = fin_words (first + k / 3) (edge + word edges k) (get_or (steps_in n numbers) k (step 0 0))

abbrev pub flat_edge_row : ℕ → ℕ → ℕ → List ℕ → List ℕ → ℕ → List ℕ
flat_edge_row vertex fin n edges ends k = edge_words vertex (fins_on k fin (take (3 * n) edges)) (pair_in ends k)

abbrev pub flat_vertex_floats : List Float → ℕ → List Float
flat_vertex_floats points k = point_floats (point_in points k)

-- the three fins of one triangle, whose corners and edges stand from a place on: from each corner to the next
abbrev pub next_corner : ℕ → ℕ
next_corner zero = 1
next_corner (suc zero) = 2
next_corner (suc (suc q)) = 0

abbrev pub corner_row : ℕ → ℕ → List ℕ → List ℕ → ℕ → ℕ → List ℕ
corner_row owner edge numbers edges at q = fin_words owner (edge + word edges (at + q)) (step (word numbers (at + q)) (word numbers (at + next_corner q)))

-- the first m numbers are below n
pub record Below (l : List ℕ) (m n : ℕ) : Type 0 where
  pub long : m ≤ length l
  pub below : (i : ℕ) → i < m → word l i < n

-- no edge of e has a ninth fin
pub record Eight (edges : List ℕ) (n e : ℕ) : Type 0 where
  pub eight : (k u : ℕ) → k < e → length (fins_on k u (take (3 * n) edges)) ≤ 8

-- ---- what the whole laying asks

-- the tables of bodies, regions, shells, faces and loops have room, and a shell for n faces
pub record Upper (room w : List ℕ) (n : ℕ) : Type 0 where
  pub bodies : Space room w 0 1
  pub regions : Space room w 1 2
  pub shells : Space room w 2 2
  pub faces : Space room w 3 n
  pub loops : Space room w 4 n
  pub shell : n ≤ 512
  pub fins : word w 5 ≤ 4096

-- and those of fins, edges and vertices; the lists are as long as they must be, and name what is met
pub record Lower (room w : List ℕ) (n v e : ℕ) (numbers along pairs : List ℕ) : Type 0 where
  pub fins : Space room w 5 (3 * n)
  pub edges : Space room w 6 e
  pub vertices : Space room w 7 v
  pub corners : 3 * n ≤ length numbers
  pub numbered : Below along (3 * n) 4096
  pub ends : Below pairs (2 * e) 4096
  pub eight : Eight along n e

pub record Ready (room w : List ℕ) (x : List Float) (n v e : ℕ) (numbers : List ℕ) (points : List Float) (edges ends : List ℕ) : Type 0 where
  pub upper : Upper room w n
  pub lower : Lower room w n v e numbers edges ends
  pub tolerances : FloatSpace room x 6 (word w 6) e
  pub places : FloatSpace room x 7 (word w 7) v
  pub floats : 3 * v ≤ length points

-- the first m tables may have been changed, and no other count
pub record Passed (m : ℕ) (w₀ w : List ℕ) : Type 0 where
  pub long : length w ≡ length w₀
  pub rest : (q : ℕ) → m ≤ q → q < 11 → word w q ≡ word w₀ q

-- the mesh t stands in flat lists: n triangles, v vertices, e edges
pub record Flattened (t : Mesh) (n v e : ℕ) (numbers : List ℕ) (floats : List Float) (along pairs : List ℕ) : Type 0 where
  pub held : Held t numbers floats along pairs
  pub triangles : n ≡ t.triangles
  pub points : v ≡ length t.points
  pub edges : e ≡ length t.edges

-- ---- what the two halves of the laying leave

abbrev pub upper_words : List ℕ → List ℕ → ℕ → ℕ → List ℕ
upper_words room w o n =
    words_behind room 4 (loop_row (word w 3) (word w 5)) n
    (words_behind room 3 (face_row (word w 2) (word w 4)) n
    (words_behind room 2 (shell_row (word w 1) (word w 3) n) 2
    (words_behind room 1 (region_row (word w 0) (word w 2)) 2
    (words_behind room 0 (body_row o (word w 1)) 1 w))))

abbrev pub lower_words : List ℕ → List ℕ → ℕ → ℕ → List ℕ → List ℕ → List ℕ → ℕ → ℕ → List ℕ
lower_words room w first n numbers edges ends e v =
    words_behind room 7 vertex_row v
    (words_behind room 6 (flat_edge_row (word w 7) (word w 5) n edges ends) e
    (words_behind room 5 (flat_fin_row first (word w 6) n numbers edges) (3 * n) w))
