-- Sides whose faces stand in a walk, and the start of an edge in a fin's direction. Assumes nothing.
use Prim.Native.Nat.{ℕ}
use Rattle.std.specs.Prelude.{◌≡◌, Bool, false, ◌&&◌}
use Rattle.std.proofs.Math.Path.{refl}
use Rattle.std.proofs.Math.Bool.{true, cond}
use mathlib.Core.List.{[], List, ◌∷◌, ◌++◌, map}
use Rattle.meaning.specs.Lists.{joined, member, listed, the, is_some}
use Rattle.meaning.specs.Model.{Sense, positive, negative, Edge}
use Rattle.meaning.specs.Walks.{edge_vertices, directed}
use Rattle.meaning.specs.Inquire.{Side}
use Rattle.meaning_list_laws.specs.Tests.{and_both}
use Rattle.meaning_list_laws.specs.Lists.{member-head, member-tail}
use Rattle.meaning_isolation.specs.Laws.{in-front, behind, the-listed}

-- ---- sides whose faces stand in a walk

abbrev pub sides_in : List ℕ → List Side → Bool
sides_in w [] = true
sides_in w (s ∷ l) = member s.face w && sides_in w l

module _ (w : List ℕ) where
  sides-append : (k l : List Side) → sides_in w k ≡ true → sides_in w l ≡ true → sides_in w (k ++ l) ≡ true
  sides-append [] l h g = g
  sides-append (s ∷ k) l h g = let t = and_both (member s.face w) (sides_in w k) h in rw t.0 (sides-append k l t.1 g)

  pub sides-joined : (f : ℕ → List Side) (l : List ℕ) → ((y : ℕ) → member y l ≡ true → sides_in w (f y) ≡ true) → sides_in w (joined f l) ≡ true
  unfolding joined
  sides-joined f [] h = refl
  sides-joined f (y ∷ l) h = sides-append (f y) (joined f l) (h y (member-head y l)) (sides-joined f l (λ x q. h x (member-tail x y l q)))

  pub sides-listed : (s : ℕ) (l : List ℕ) → ((f : ℕ) → member f l ≡ true → member f w ≡ true) → sides_in w (map (λ f. record { shell = s; face = f }) l) ≡ true
  sides-listed s [] h = refl
  sides-listed s (f ∷ l) h = rw (h f (member-head f l)) (sides-listed s l (λ g q. h g (member-tail g f l q)))

  pub sides-if : (t : Bool) (l : List Side) → sides_in w l ≡ true → sides_in w (cond t l []) ≡ true
  sides-if true l h = h
  sides-if false l h = refl

-- the start of an edge in a fin's direction is one of its vertices
pub start-listed : (s : Sense) (e : Edge) → is_some (directed s e).start ≡ true → member (the (directed s e).start) (edge_vertices e) ≡ true
start-listed positive e h = in-front (the e.start) (listed e.start) (listed e.end) (the-listed e.start h)
start-listed negative e h = behind (the e.end) (listed e.start) (listed e.end) (the-listed e.end h)
