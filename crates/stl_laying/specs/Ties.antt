-- A mesh in flat lists has the mesh's rows: what is laid of the lists is what is read of the mesh. Assumes nothing.
use Rattle.std.specs.Prelude.{ℕ, zero, suc, ◌+◌, ◌*◌, ◌/◌, ◌≤◌, ◌<◌, ◌≡◌, List, [], ◌∷◌, length, get_or, take, Float}
use Rattle.std.proofs.Common.{arith, sym, ap₂, ◌∙◌, get_or-take}
use Rattle.std.proofs.Math.Path.{refl, ap}
use Rattle.std.specs.Float.{nan}
use Rattle.float_vectors.specs.declared.vector.Point3.{Point3}
use Rattle.memory_layout.specs.Layout.{word}
use Rattle.stl_body.specs.Read.{Step, step, Mesh, fins_on, nowhere}
use Rattle.stl_body.specs.Flat.{steps_in, flat_points, flat_steps}
use Rattle.stl_rows.specs.Rows.{words_behind, reals_behind, fin_words, edge_words, fin_row, edge_row, vertex_row, edge_floats, point_floats, vertex_floats, tables_words, tables_reals, read_words, read_reals}
use Rattle.stl_rows.specs.Facts.{point_in, pair_in, flat_fin_row, flat_edge_row, flat_vertex_floats, Flattened, Passed, upper_words, lower_words}
use Rattle.stl_rows.specs.Laws.{words_same, reals-same, reals-none}

-- ---- the k-th of a flat list

double : (k : ℕ) → 2 * suc k ≡ suc (suc (2 * k))
double k = omega arith

pair_of : (l : List Step) (k : ℕ) → k < length l → pair_in (flat_steps l) k ≡ get_or l k (step 0 0)
unfolding flat_steps
pair_of [] k h = absurd (omega arith)
pair_of (s ∷ l) zero h = refl
pair_of (s ∷ l) (suc k) h =
    let e : 2 * suc k + 1 ≡ suc (suc (2 * k + 1)) = omega arith in
    rw (e, double k) (pair_of l k (omega arith))

point-of : (l : List Point3) (k : ℕ) → k < length l → point_in (flat_points l) k ≡ get_or l k nowhere
unfolding flat_points
point-of [] k h = absurd (omega arith)
point-of (p ∷ l) zero h = refl
point-of (p ∷ l) (suc k) h =
    let a : 3 * suc k + 1 ≡ suc (suc (suc (3 * k + 1))) = omega arith in
    let b : 3 * suc k + 2 ≡ suc (suc (suc (3 * k + 2))) = omega arith in
    let c : 3 * suc k ≡ suc (suc (suc (3 * k))) = omega arith in
    rw (a, b, c) (point-of l k (omega arith))

pair-front : (m : ℕ) (l : List ℕ) (k : ℕ) → 2 * k + 2 ≤ m → pair_in l k ≡ pair_in (take m l) k
pair-front m l k h = ap₂ step (sym (get_or-take m l (2 * k) 0 (omega arith))) (sym (get_or-take m l (2 * k + 1) 0 (omega arith)))

point-front : (m : ℕ) (l : List Float) (k : ℕ) → 3 * k + 3 ≤ m → point_in l k ≡ point_in (take m l) k
point-front m l k h =
    rw (get_or-take m l (3 * k) nan (omega arith), get_or-take m l (3 * k + 1) nan (omega arith), get_or-take m l (3 * k + 2) nan (omega arith)) refl

module _ (t : Mesh) (n v e : ℕ) (numbers : List ℕ) (points : List Float) (edges ends : List ℕ) (f : Flattened t n v e numbers points edges ends) where
  fins-same : (first edge k : ℕ) → k < 3 * n → flat_fin_row first edge n numbers edges k ≡ fin_row first edge t k
  fins-same first edge k h =
      ap₂ (λ (i : ℕ) (s : Step). fin_words (first + k / 3) (edge + i) s)
      (sym (get_or-take (3 * n) edges k 0 h) ∙ ap (λ m. word (take (3 * m) edges) k) f.triangles ∙ ap (λ l. word l k) f.held.edges)
      (ap (λ m. get_or (steps_in m numbers) k (step 0 0)) f.triangles ∙ ap (λ l. get_or l k (step 0 0)) f.held.steps)

  edges-same : (vertex fin k : ℕ) → k < e → flat_edge_row vertex fin n edges ends k ≡ edge_row vertex fin t k
  edges-same vertex fin k h =
      let b : k < length t.edges = let d = f.edges in omega arith in
      ap₂ (λ (l : List ℕ) (s : Step). edge_words vertex l s)
      (ap (λ m. fins_on k fin (take (3 * m) edges)) f.triangles ∙ ap (fins_on k fin) f.held.edges)
      (pair-front (2 * length t.edges) ends k (omega arith) ∙ ap (λ l. pair_in l k) f.held.ends ∙ pair_of t.edges k b)

  points-same : (k : ℕ) → k < v → flat_vertex_floats points k ≡ vertex_floats t k
  points-same k h =
      let b : k < length t.points = let d = f.points in omega arith in
      ap point_floats (point-front (3 * length t.points) points k (omega arith) ∙ ap (λ l. point_in l k) f.held.points ∙ point-of t.points k b)

  module _ (room w : List ℕ) (o : ℕ) where
    pub words-read : (w' : List ℕ) → w' ≡ upper_words room w o n → Passed 5 w w' → lower_words room w' (word w 4) n numbers edges ends e v ≡ read_words room w o t
    unfolding read_words tables_words
    words-read w' h p =
        rw (p.rest 5 (omega arith) (omega arith), p.rest 6 (omega arith) (omega arith), p.rest 7 (omega arith) (omega arith), h)
        (ap (λ l. words_behind room 7 vertex_row v (words_behind room 6 (flat_edge_row (word w 7) (word w 5) n edges ends) e l)) (words_same room 5 (3 * n) (flat_fin_row (word w 4) (word w 6) n numbers edges) (fin_row (word w 4) (word w 6) t) (upper_words room w o n) (fins-same (word w 4) (word w 6)))
        ∙ ap (λ l. words_behind room 7 vertex_row v l) (words_same room 6 e (flat_edge_row (word w 7) (word w 5) n edges ends) (edge_row (word w 7) (word w 5) t) (words_behind room 5 (fin_row (word w 4) (word w 6) t) (3 * n) (upper_words room w o n)) (edges-same (word w 7) (word w 5)))
        ∙ rw (f.triangles, f.edges, f.points) refl)

    pub reals-read : (x : List Float) → reals_behind room 7 (word w 7) (flat_vertex_floats points) v (reals_behind room 6 (word w 6) edge_floats e x) ≡ read_reals room w x t
    unfolding read_reals tables_reals
    reals-read x =
        reals-same room 7 (word w 7) v (flat_vertex_floats points) (vertex_floats t) (reals_behind room 6 (word w 6) edge_floats e x) points-same
        ∙ rw (f.edges, f.points, reals-none room 0 (word w 0) 1 x, reals-none room 1 (word w 1) 2 x, reals-none room 2 (word w 2) 2 x, reals-none room 3 (word w 3) t.triangles x, reals-none room 4 (word w 4) t.triangles x, reals-none room 5 (word w 5) (3 * t.triangles) x) refl
