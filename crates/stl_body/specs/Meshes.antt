-- What the steps of a triangle, the ends of an edge and the mesh of finite coordinates are to be. Definitions only.
use Rattle.std.specs.Prelude.{ℕ, ◌+◌, ◌*◌, ◌≤◌, ◌<◌, ◌≡◌, Bool, ◌&&◌, ltb, get_or}
use Rattle.std.proofs.Math.Bool.{true}
use mathlib.Core.List.{List}
use Rattle.std.proofs.Math.ListN.{length}
use Rattle.stl_body.specs.Read.{same_point, Step, step, same_step, edge_of, Mesh, nowhere}
use Rattle.stl_body.specs.Laws.{Apart}

-- ---- the three steps of a triangle go around

pub record Around (s t u : Step) : Type 0 where
  pub first : s.to ≡ t.from
  pub second : t.to ≡ u.from
  pub third : u.to ≡ s.from

abbrev pub AroundAt : List Step → ℕ → Type 0
AroundAt l i = Around (get_or l (i + 0) (step 0 0)) (get_or l (i + 1) (step 0 0)) (get_or l (i + 2) (step 0 0))

unfoldable pub ends_below : ℕ → Step → Bool
ends_below n s = ltb s.from n && ltb s.to n

-- ---- the mesh of triangles whose coordinates are finite

pub record Ranged (k : Mesh) : Type 0 where
  -- three fins to a triangle, each with its edge's number
  pub fins : length k.steps ≡ 3 * k.triangles
  pub numbers : length k.edge_numbers ≡ 3 * k.triangles
  -- "equal coordinates one vertex", "one edge for each unordered pair"
  pub points-apart : Apart same_point nowhere k.points
  pub edges-apart : Apart same_step (step 0 0) k.edges
  -- no more than there are corners
  pub few-points : length k.points ≤ 3 * k.triangles
  pub few-edges : length k.edges ≤ 3 * k.triangles
  -- the ends of an edge and of a step are vertices met, a fin's edge is an edge met, and joins the fin's ends
  pub ends : (i : ℕ) → i < length k.edges → ends_below (length k.points) (get_or k.edges i (step 0 0)) ≡ true
  pub step-ends : (i : ℕ) → i < 3 * k.triangles → ends_below (length k.points) (get_or k.steps i (step 0 0)) ≡ true
  pub fin-edge : (i : ℕ) → i < 3 * k.triangles → get_or k.edge_numbers i 0 < length k.edges
  pub loops : (j : ℕ) → j < k.triangles → AroundAt k.steps (3 * j)
  pub fin-joins : (i : ℕ) → i < 3 * k.triangles → get_or k.edges (get_or k.edge_numbers i 0) (step 0 0) ≡ edge_of (get_or k.steps i (step 0 0))
