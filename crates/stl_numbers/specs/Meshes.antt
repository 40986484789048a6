-- The two numberings of triangles' corners and steps give the mesh, in flat lists. Assumes nothing.
use Rattle.std.specs.Prelude.{ℕ, ◌+◌, ◌*◌, ◌≤◌, ◌≡◌, refl, drop, Float}
use Rattle.std.proofs.Common.{arith, ◌∙◌, subst, take_at}
use Rattle.std.proofs.Math.Path.{sym, ap, ap₂}
use mathlib.Core.List.{List, [], ◌∷◌, ◌++◌, map, map-map}
use Rattle.std.proofs.Math.ListN.{length, take, length-map}
use Rattle.float_vectors.specs.declared.vector.Point3.{Point3}
use Rattle.meaning.specs.Lists.{all_below}
use Rattle.memory_writes.specs.Put.{over}
use Rattle.memory_writes.specs.Over.{length_over}
use Rattle.stl_format.specs.Stl.{Triangle}
use Rattle.stl_body.specs.Read.{count_in, stl_triangles, which_of, all_met, same_point, corners, Step, same_step, around, steps_of, edge_of, mesh_of}
use Rattle.stl_body.specs.Flat.{corner_numbers, steps_in, flat_points, flat_steps, Held}
use Rattle.stl_body.proofs.Laws.{met-length}
use Rattle.stl_body.proofs.Meshes.{corners-length, steps-length}
use Rattle.stl_body.proofs.Statements.{triangles-length}
use Rattle.stl_numbers.specs.Numbered.{numbers_of, Numbered, few, CornersRead, StepsRead}
use Rattle.stl_numbers.specs.Laid.{laid-length, points-laid, steps-laid}

pub steps_back : (points : List Point3) (l : List Triangle) (r : List ℕ) → steps_in (length l) (corner_numbers points (corners l) ++ r) ≡ steps_of points l
unfolding steps_in corner_numbers corners steps_of
steps_back points [] r = refl
steps_back points (t ∷ l) r = ap (λ k. around (which_of same_point t.a points) (which_of same_point t.b points) (which_of same_point t.c points) ++ k) (steps_back points l r)

-- what was written in front
front : {A : Type 0} (n : ℕ) (a l k : List A) → k ≡ over 0 a l → length a ≡ n → take n k ≡ a
unfolding over
front n a l k e h = ap (take n) e ∙ take_at a (drop (0 + length a) l) n h

kept : {A : Type 0} (a l k : List A) → k ≡ over 0 a l → 0 + length a ≤ length l → length k ≡ length l
kept a l k e h = ap length e ∙ length_over 0 a l h

module _ (l : List Triangle) (c₀ c : List ℕ) (x₀ x : List Float) (e₀ e d₀ d : List ℕ) (m k : ℕ)
    (vertices : Numbered same_point flat_points (corners l) c₀ c x₀ x m) (edges : Numbered same_step flat_steps (map edge_of (steps_in (length l) c)) e₀ e d₀ d k) where
  abbrev points : List Point3
  points = all_met same_point (corners l)

  same-steps : steps_in (length l) c ≡ steps_of points l
  unfolding numbers_of corner_numbers over
  same-steps = ap (steps_in (length l)) vertices.numbers ∙ steps_back points l (drop (0 + length (corner_numbers points (corners l))) c₀)

  abbrev steps : List Step
  steps = steps_of points l

  abbrev met : List Step
  met = all_met same_step (map edge_of steps)

  along : Numbered same_step flat_steps (map edge_of steps) e₀ e d₀ d k
  along = subst (λ s. Numbered same_step flat_steps (map edge_of s) e₀ e d₀ d k) same-steps edges

  edge-numbers : numbers_of same_step (map edge_of steps) ≡ map (λ s. which_of same_step (edge_of s) met) steps
  unfolding numbers_of
  edge-numbers = map-map (λ s. which_of same_step s met) edge_of steps

  how-many-corners : length (numbers_of same_point (corners l)) ≡ 3 * length l
  unfolding numbers_of
  how-many-corners = length-map (corners l) _ ∙ corners-length l

  how-many-fins : length (numbers_of same_step (map edge_of steps)) ≡ 3 * length l
  unfolding numbers_of
  how-many-fins = length-map (map edge_of steps) _ ∙ length-map steps edge_of ∙ steps-length points l

  few-points : length points ≤ 3 * length l
  few-points = let a = met-length same_point [] (corners l) in let b = corners-length l in omega arith

  few-edges : length met ≤ 3 * length l
  few-edges = let a = met-length same_step [] (map edge_of steps) in let b = length-map steps edge_of in let f = steps-length points l in omega arith

  pub mesh-held : 3 * length l ≤ length c₀ → 9 * length l ≤ length x₀ → 3 * length l ≤ length e₀ → 6 * length l ≤ length d₀ → Held (mesh_of l) c x e d
  unfolding mesh_of
  mesh-held a b f g =
      record {
        steps = same-steps;
        points = front (3 * length points) (flat_points points) x₀ x vertices.stored (laid-length points-laid points);
        edges = front (3 * length l) (numbers_of same_step (map edge_of steps)) e₀ e along.numbers how-many-fins ∙ edge-numbers;
        ends = front (2 * length met) (flat_steps met) d₀ d along.stored (laid-length steps-laid met);
        corners-long = rw (kept (numbers_of same_point (corners l)) c₀ c vertices.numbers (omega (arith, how-many-corners))) a;
        points-long = rw (kept (flat_points points) x₀ x vertices.stored (omega (arith, laid-length points-laid points, few-points))) (omega (arith, few-points));
        edges-long = rw (kept (numbers_of same_step (map edge_of steps)) e₀ e along.numbers (omega (arith, how-many-fins))) f;
        ends-long = rw (kept (flat_steps met) d₀ d along.stored (omega (arith, laid-length steps-laid met, few-edges))) (omega (arith, few-edges));
      }

  pub many-points : m ≡ length (mesh_of l).points
  unfolding mesh_of
  many-points = vertices.many

  pub many-edges : k ≡ length (mesh_of l).edges
  unfolding mesh_of
  many-edges = edges.many ∙ ap (λ s. length (all_met same_step (map edge_of s))) same-steps

-- of bytes, by what the two calls ensure
module _ (s : List ℕ) (n : ℕ) (c₀ c : List ℕ) (x₀ x : List Float) (e₀ e d₀ d : List ℕ) (m k : ℕ) (read : CornersRead s n c₀ x₀) (room : StepsRead c n e₀ d₀)
    (vertices : Numbered same_point flat_points (corners (stl_triangles s)) c₀ c x₀ x m) (edges : Numbered same_step flat_steps (map edge_of (steps_in n c)) e₀ e d₀ d k) where
  abbrev all : List Triangle
  all = stl_triangles s

  how-many : length all ≡ n
  unfolding stl_triangles
  how-many = triangles-length (count_in s) (drop 84 s) ∙ sym read.counted

  of-all : Numbered same_step flat_steps (map edge_of (steps_in (length all) c)) e₀ e d₀ d k
  of-all = subst (λ i. Numbered same_step flat_steps (map edge_of (steps_in i c)) e₀ e d₀ d k) (sym how-many) edges

  pub read_held : Held (mesh_of all) c x e d
  read_held =
      let h = how-many in
      mesh-held all c₀ c x₀ x e₀ e d₀ d m k vertices of-all (omega arith) (omega arith) (omega arith) (omega arith)

  pub read-points : m ≡ length (mesh_of all).points
  read-points = many-points all c₀ c x₀ x e₀ e d₀ d m k vertices of-all

  pub read-edges : k ≡ length (mesh_of all).edges
  read-edges = many-edges all c₀ c x₀ x e₀ e d₀ d m k vertices of-all

  -- "an edge's ninth fin included"
  pub read_fits : all_below (few (take (3 * n) e)) k ≡ all_below (few (mesh_of all).edge_numbers) (length (mesh_of all).edges)
  unfolding mesh_of
  read_fits = ap₂ (λ a i. all_below (few a) i) (ap (λ i. take (3 * i) e) (sym how-many) ∙ read_held.edges) read-edges
