-- Computed: a closed surface and three that are not, what the checker has to find of them, what is written of one, and a corner that is stored with its other zero. Assumes nothing.
use Rattle.std.specs.Prelude.{ℕ, ◌≡◌, refl, true, false, List, [], ◌∷◌, ◌++◌, map}
use Rattle.std.proofs.Math.Option.{some}
use Rattle.std.specs.Float.Ieee.{neg}
use Rattle.float_vectors.specs.declared.vector.Point3.{Point3}
use Rattle.meaning.specs.Floats.{float_of}
use Rattle.meaning.specs.Lists.{run}
use Rattle.meaning.specs.Model.{Model, office-0}
use Rattle.meaning.specs.Faults.{fault, findings}
use Rattle.meaning.specs.Inquire.{solid_sides}
use Rattle.meaning.specs.Stone.{at, stone}
use Rattle.meaning.specs.Computing.{computing}
use Rattle.stl_format.specs.Stl.{Triangle, triangles_of, stl_refusal}
use Rattle.stl_format.specs.Drawing.{drawing}
use Rattle.stl_body.specs.Read.{corners, mesh_of, built}
use Rattle.stl_body.specs.Reading.{reading}
use Rattle.stl_body.specs.Laws.{holds}
use Rattle.stl_body.specs.Sound.{topology}
use Rattle.stl_body_laws.specs.Terms.{taken, both_ways, closed_surface, shown_by, edge_shown, edges_shown, read_report, dressed, stored_point, stored_triangle, same_triangles, minus_zero, plain_point}

abbrev whole : ℕ → ℕ → ℕ → Point3
whole x y z = at (float_of x) (float_of y) (float_of z)

abbrev triangle : Point3 → Point3 → Point3 → Triangle
triangle p q r = record { a = p; b = q; c = r }

abbrev o : Point3
o = whole 0 0 0

abbrev x : Point3
x = whole 1 0 0

abbrev y : Point3
y = whole 0 1 0

abbrev z : Point3
z = whole 0 0 1

abbrev three : List Triangle
three = triangle o y x ∷ triangle o x z ∷ triangle o z y ∷ []

-- a tetrahedron; without its last triangle; with it turned; with it twice
abbrev shapes : List (List Triangle)
shapes = (three ++ (triangle x y z ∷ [])) ∷ three ∷ (three ++ (triangle x z y ∷ [])) ∷ (three ++ (triangle x y z ∷ triangle x y z ∷ [])) ∷ []

which-closed : map (λ l. closed_surface (mesh_of l)) shapes ≡ true ∷ false ∷ false ∷ false ∷ []
unfolding computing reading holds taken both_ways closed_surface
which-closed = refl

-- behind the trial stone, which has 6 faces and 12 edges: reason 9 for each face; then 19 for an edge used once or thrice, 20 for one used twice in one direction
shown : map (λ l. read_report stone (mesh_of l)) shapes
    ≡ map (fault 9) (run 6 4)
    ∷ (map (fault 9) (run 6 3) ++ (fault 19 13 ∷ fault 19 15 ∷ fault 19 17 ∷ []))
    ∷ (map (fault 9) (run 6 4) ++ (fault 20 13 ∷ fault 20 15 ∷ fault 20 17 ∷ []))
    ∷ (map (fault 9) (run 6 5) ++ (fault 19 13 ∷ fault 19 15 ∷ fault 19 17 ∷ []))
    ∷ []
unfolding computing reading taken shown_by edge_shown edges_shown read_report
shown = refl

-- ---- the tetrahedron behind the trial stone, each face and each edge on the stone's first plane and line: nothing is found, and W-209 writes what was read

abbrev tetrahedron : List Triangle
tetrahedron = three ++ (triangle x y z ∷ [])

abbrev set : Model
set = dressed (built stone office-0 (mesh_of tetrahedron)) stone.curves stone.surfaces (λ i. some 0) (λ i. some 0)

nothing-found : findings set topology 1 ≡ []
unfolding computing reading dressed
nothing-found = refl

not-refused : stl_refusal set 1 ≡ 0
unfolding computing drawing reading dressed
not-refused = refl

as_read : triangles_of set (solid_sides set 1) ≡ tetrahedron
unfolding computing drawing reading dressed
as_read = refl

-- ---- "Both zeros count as equal, the first met is stored"

abbrev below : Point3
below = at (neg (float_of 0)) (float_of 0) (neg (float_of 0))

abbrev pillow : List Triangle
pillow = triangle o x y ∷ triangle y x below ∷ []

abbrev stored : List Triangle
stored = map (stored_triangle (mesh_of pillow).points) pillow

other-zero : stored ≡ triangle o x y ∷ triangle y x o ∷ []
unfolding computing reading stored_point stored_triangle
other-zero = refl

by_value : same_triangles pillow stored ≡ true
unfolding computing reading stored_point stored_triangle same_triangles
by_value = refl

not_plain : map plain_point (corners pillow) ≡ true ∷ true ∷ true ∷ true ∷ true ∷ false ∷ []
unfolding computing reading minus_zero plain_point
not_plain = refl
