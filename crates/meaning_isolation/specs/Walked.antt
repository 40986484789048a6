-- What a record that is there names, is met, in one model. Assumes nothing.
use Prim.Native.Nat.{ℕ}
use Rattle.std.specs.Prelude.{◌≡◌, true}
use mathlib.Core.List.{[], ◌∷◌}
use Rattle.meaning.specs.Lists.{member, listed}
use Rattle.meaning.specs.Model.{Model, has, body, region, shell, face, loop, fin, edge}
use Rattle.meaning.specs.Walks.{edge_vertices}
use Rattle.meaning_list_laws.specs.Lists.{member-head}
use Rattle.meaning_isolation.specs.Reached.{named, regions_met, shells_met, faces_met, loops_met, fins_met, edges_met, vertices_met, curves_met, surfaces_met, fins_seen}
use Rattle.meaning_isolation.specs.Laws.{in-front, behind, named_in}

-- ---- what a record that is there names, is met

module _ (m : Model) (b : ℕ) where
  pub region-in : has m.bodies b ≡ true → (r : ℕ) → member r (body m b).regions ≡ true → member r (regions_met m b) ≡ true
  unfolding regions_met
  region-in h r g = named_in m.bodies (λ d. d.regions) (b ∷ []) b r (member-head b []) h g

  module _ (r : ℕ) (met : member r (regions_met m b) ≡ true) (there : has m.regions r ≡ true) where
    pub shell-in : (s : ℕ) → member s (region m r).shells ≡ true → member s (shells_met m b) ≡ true
    unfolding shells_met
    shell-in s g = named_in m.regions (λ d. d.shells) (regions_met m b) r s met there g

  module _ (s : ℕ) (met : member s (shells_met m b) ≡ true) (there : has m.shells s ≡ true) where
    pub face-in : (f : ℕ) → member f (shell m s).faces ≡ true → member f (faces_met m b) ≡ true
    unfolding faces_met
    face-in f g = named_in m.shells (λ d. d.faces) (shells_met m b) s f met there g

    pub wire-in : (e : ℕ) → member e (shell m s).wire_edges ≡ true → member e (edges_met m b) ≡ true
    unfolding edges_met
    wire-in e g = behind e (named m.fins (λ d. d.edge ∷ []) (fins_met m b)) _ (named_in m.shells (λ d. d.wire_edges) (shells_met m b) s e met there g)

    pub acorn-in : (v : ℕ) → member v (shell m s).acorn_vertices ≡ true → member v (vertices_met m b) ≡ true
    unfolding vertices_met
    acorn-in v g = behind v (named m.edges edge_vertices (edges_met m b)) _ (named_in m.shells (λ d. d.acorn_vertices) (shells_met m b) s v met there g)

  module _ (f : ℕ) (met : member f (faces_met m b) ≡ true) (there : has m.faces f ≡ true) where
    pub loop-in : (l : ℕ) → member l (face m f).loops ≡ true → member l (loops_met m b) ≡ true
    unfolding loops_met
    loop-in l g = named_in m.faces (λ d. d.loops) (faces_met m b) f l met there g

    pub surface-in : (s : ℕ) → member s (listed (face m f).surface) ≡ true → member s (surfaces_met m b) ≡ true
    unfolding surfaces_met
    surface-in s g = named_in m.faces (λ d. listed d.surface) (faces_met m b) f s met there g

  module _ (l : ℕ) (met : member l (loops_met m b) ≡ true) (there : has m.loops l ≡ true) where
    pub fin-in : (i : ℕ) → member i (loop m l).fins ≡ true → member i (fins_met m b) ≡ true
    unfolding fins_met
    fin-in i g = named_in m.loops (λ d. d.fins) (loops_met m b) l i met there g

  -- a fin that is met is seen
  pub fin-seen : (i : ℕ) → member i (fins_met m b) ≡ true → member i (fins_seen m b) ≡ true
  unfolding fins_seen
  fin-seen i g = in-front i (fins_met m b) (named m.edges (λ d. d.fins) (edges_met m b)) g

  pub edge_in : (i : ℕ) → member i (fins_met m b) ≡ true → has m.fins i ≡ true → member (fin m i).edge (edges_met m b) ≡ true
  unfolding edges_met
  edge_in i met there =
      in-front (fin m i).edge (named m.fins (λ d. d.edge ∷ []) (fins_met m b)) _
      (named_in m.fins (λ d. d.edge ∷ []) (fins_met m b) i (fin m i).edge met there (member-head (fin m i).edge []))

  module _ (e : ℕ) (met : member e (edges_met m b) ≡ true) (there : has m.edges e ≡ true) where
    pub vertex-in : (v : ℕ) → member v (edge_vertices (edge m e)) ≡ true → member v (vertices_met m b) ≡ true
    unfolding vertices_met
    vertex-in v g = in-front v (named m.edges edge_vertices (edges_met m b)) _ (named_in m.edges edge_vertices (edges_met m b) e v met there g)

    pub curve-in : (c : ℕ) → member c (listed (edge m e).curve) ≡ true → member c (curves_met m b) ≡ true
    unfolding curves_met
    curve-in c g = named_in m.edges (λ d. listed d.curve) (edges_met m b) e c met there g

    pub listed-seen : (i : ℕ) → member i (edge m e).fins ≡ true → member i (fins_seen m b) ≡ true
    unfolding fins_seen
    listed-seen i g = behind i (fins_met m b) _ (named_in m.edges (λ d. d.fins) (edges_met m b) e i met there g)
