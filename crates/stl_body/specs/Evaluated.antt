-- Reading computed: a tetrahedron into an empty model and behind the trial stone, both zeros, edges used once and thrice, and the refusals. Assumes nothing.
use Rattle.std.specs.Prelude.{ℕ, ◌≡◌, refl, false, List, [], ◌∷◌, ◌++◌, map, replicate, Float}
use Rattle.std.specs.Float.{inf, nan}
use Rattle.std.specs.Float.Ieee.{neg}
use Rattle.float_vectors.specs.declared.vector.Point3.{Point3}
use Rattle.meaning.specs.Floats.{float_of}
use Rattle.meaning.specs.Lists.{run}
use Rattle.meaning.specs.Model.{Model, Table, positive, negative, office-1, largest, body, edge, fin}
use Rattle.meaning.specs.Refuse.{given, refused}
use Rattle.meaning.specs.Faults.{CheckOptions, Finding, fault, findings}
use Rattle.meaning.specs.Stone.{at, stone}
use Rattle.meaning.specs.Computing.{computing}
use Rattle.stl_format.specs.Stl.{Triangle, stl_of}
use Rattle.stl_format.specs.Drawing.{drawing}
use Rattle.stl_body.specs.Read.{Mesh, step, stl_triangles, mesh_of, triangles_refusal, read_refusal, read_stl, model_after_read}
use Rattle.stl_body.specs.Reading.{reading}

-- ---- a tetrahedron, from outside

abbrev whole : ℕ → ℕ → ℕ → Point3
whole x y z = at (float_of x) (float_of y) (float_of z)

abbrev triangle : Point3 → Point3 → Point3 → Triangle
triangle p q r = record { a = p; b = q; c = r }

abbrev o : Point3
o = whole 0 0 0

abbrev x : Point3
x = whole 1 0 0

abbrev y : Point3
y = whole 0 1 0

abbrev z : Point3
z = whole 0 0 1

abbrev tetrahedron : List Triangle
tetrahedron = triangle o y x ∷ triangle o x z ∷ triangle o z y ∷ triangle x y z ∷ []

-- what is written (W-209) is read again
read_back : stl_triangles (stl_of tetrahedron) ≡ tetrahedron
unfolding computing drawing reading
read_back = refl

-- 4 in binary32; what stands in the header, the normal and the attribute is not read
abbrev four : List ℕ
four = 0 ∷ 0 ∷ 0x80 ∷ 0x40 ∷ []

only-corners : stl_triangles (replicate 80 7 ++ (1 ∷ 0 ∷ 0 ∷ 0 ∷ []) ++ replicate 12 255 ++ four ++ replicate 12 0 ++ four ++ replicate 12 0 ++ four ++ replicate 2 9) ≡ triangle (whole 4 0 0) (whole 0 4 0) (whole 0 0 4) ∷ []
unfolding computing reading
only-corners = refl

-- the vertices are o, y, x, z, the edges and fins as the loops meet them
met-in-order : mesh_of tetrahedron
    ≡ record {
      triangles = 4;
      points = o ∷ y ∷ x ∷ z ∷ [];
      steps = step 0 1 ∷ step 1 2 ∷ step 2 0 ∷ step 0 2 ∷ step 2 3 ∷ step 3 0 ∷ step 0 3 ∷ step 3 1 ∷ step 1 0 ∷ step 2 1 ∷ step 1 3 ∷ step 3 2 ∷ [];
      edges = step 0 1 ∷ step 1 2 ∷ step 0 2 ∷ step 2 3 ∷ step 0 3 ∷ step 1 3 ∷ [];
      edge_numbers = 0 ∷ 1 ∷ 2 ∷ 2 ∷ 3 ∷ 4 ∷ 4 ∷ 5 ∷ 0 ∷ 1 ∷ 5 ∷ 3 ∷ [];
    }
unfolding computing reading
met-in-order = refl

-- ---- read into a model with no record

abbrev emptied : {A : Type 0} → Table A → Table A
emptied t = record { used = 0; slot = t.slot }

nothing : Model
nothing =
    record {
      version = stone.version;
      precision = stone.precision;
      bodies = emptied stone.bodies;
      regions = emptied stone.regions;
      shells = emptied stone.shells;
      faces = emptied stone.faces;
      loops = emptied stone.loops;
      fins = emptied stone.fins;
      edges = emptied stone.edges;
      vertices = emptied stone.vertices;
      curves = emptied stone.curves;
      surfaces = emptied stone.surfaces;
    }

abbrev used : Model → List ℕ
used m =
    m.bodies.used
    ∷ m.regions.used
    ∷ m.shells.used
    ∷ m.faces.used
    ∷ m.loops.used
    ∷ m.fins.used
    ∷ m.edges.used
    ∷ m.vertices.used
    ∷ m.curves.used
    ∷ m.surfaces.used
    ∷ []

abbrev alone : Model
alone = model_after_read largest nothing 1 (stl_of tetrahedron)

its-records : used alone ≡ 1 ∷ 2 ∷ 2 ∷ 4 ∷ 4 ∷ 12 ∷ 6 ∷ 4 ∷ 0 ∷ 0 ∷ []
unfolding computing drawing reading nothing
its-records = refl

its-office : (body alone 0).office ≡ office-1
unfolding computing drawing reading nothing
its-office = refl

-- each edge has two fins of opposite sense
its-edges : map (λ e. (edge alone e).fins) (run 0 6) ≡ (0 ∷ 8 ∷ []) ∷ (1 ∷ 9 ∷ []) ∷ (2 ∷ 3 ∷ []) ∷ (4 ∷ 11 ∷ []) ∷ (5 ∷ 6 ∷ []) ∷ (7 ∷ 10 ∷ []) ∷ []
unfolding computing drawing reading nothing
its-edges = refl

its-senses : map (λ i. (fin alone i).sense) (0 ∷ 8 ∷ 1 ∷ 9 ∷ 2 ∷ 3 ∷ 4 ∷ 11 ∷ 5 ∷ 6 ∷ 7 ∷ 10 ∷ [])
    ≡ positive ∷ negative ∷ positive ∷ negative ∷ negative ∷ positive ∷ positive ∷ negative ∷ negative ∷ positive ∷ negative ∷ positive ∷ []
unfolding computing drawing reading nothing
its-senses = refl

-- ---- its topological report: "There are no surfaces or curves yet", so that each face lacks its surface, and nothing else is found

abbrev topology : CheckOptions
topology = record { geometry = false; edge_samples = 0 }

abbrev found_in : Model → List Triangle → ℕ → List Finding
found_in m l b = findings (model_after_read largest m 0 (stl_of l)) topology b

its-report : found_in nothing tetrahedron 0 ≡ map (fault 9) (run 0 4)
unfolding computing drawing reading nothing
its-report = refl

-- the same behind the trial stone: ids are counted from the used counts, and its vertex at (0, 0, 0) is not used
behind-the-stone : found_in stone tetrahedron 1 ≡ map (fault 9) (run 6 4)
unfolding computing drawing reading
behind-the-stone = refl

behind-its-records : used (model_after_read largest stone 0 (stl_of tetrahedron)) ≡ 2 ∷ 4 ∷ 4 ∷ 10 ∷ 10 ∷ 36 ∷ 18 ∷ 12 ∷ 12 ∷ 6 ∷ []
unfolding computing drawing reading
behind-its-records = refl

-- "An edge used once or thrice is left to the checker": reason 19
used-once : found_in nothing (triangle o y x ∷ []) 0 ≡ fault 9 0 ∷ map (fault 19) (run 0 3)
unfolding computing drawing reading nothing
used-once = refl

abbrev fanned : ℕ → List Triangle
fanned n = map (λ k. triangle o x (whole 0 k 1)) (run 1 n)

used-thrice : found_in nothing (fanned 3) 0 ≡ map (fault 9) (run 0 3) ++ map (fault 19) (run 0 7)
unfolding computing drawing reading nothing
used-thrice = refl

-- ---- "Both zeros count as equal, the first met is stored"

abbrev minus_o : Point3
minus_o = at (neg (float_of 0)) (float_of 0) (neg (float_of 0))

abbrev pillow : Mesh
pillow = mesh_of (triangle minus_o x y ∷ triangle o y x ∷ [])

both-zeros : pillow.points ≡ minus_o ∷ x ∷ y ∷ []
unfolding computing reading
both-zeros = refl

one-edge-each : pillow.edge_numbers ≡ 0 ∷ 1 ∷ 2 ∷ 2 ∷ 1 ∷ 0 ∷ []
unfolding computing reading
one-edge-each = refl

-- ---- its refusals

abbrev refusal_of : List Triangle → ℕ
refusal_of l = triangles_refusal largest nothing l

abbrev flat : Triangle
flat = triangle o x minus_o

abbrev far : Float → Triangle
far v = triangle o x (at (float_of 0) v (float_of 0))

-- 5 comes before 1 wherever the triangles stand, and both before 8
in_order : map refusal_of (tetrahedron ∷ (flat ∷ []) ∷ (flat ∷ far (inf false) ∷ []) ∷ (far nan ∷ []) ∷ fanned 8 ∷ fanned 9 ∷ (fanned 9 ++ (flat ∷ [])) ∷ []) ≡ 0 ∷ 1 ∷ 5 ∷ 5 ∷ 0 ∷ 8 ∷ 1 ∷ []
unfolding computing reading nothing
in_order = refl

-- 9 comes before the office's 1, which comes before the triangles' 5: a byte short of the count's 84, none, one too many, and corners that are no numbers
abbrev not_numbers : List ℕ
not_numbers = replicate 80 7 ++ (1 ∷ 0 ∷ 0 ∷ 0 ∷ []) ++ replicate 48 255 ++ (0 ∷ 0 ∷ [])

lengths-first : map (read_refusal largest nothing 2) (replicate 83 0 ∷ replicate 84 0 ∷ replicate 85 0 ∷ not_numbers ∷ []) ≡ 9 ∷ 1 ∷ 9 ∷ 1 ∷ []
unfolding computing reading nothing
lengths-first = refl

then-finite : map (read_stl largest nothing 0) (replicate 84 0 ∷ not_numbers ∷ []) ≡ given 0 ∷ refused 5 ∷ []
unfolding computing reading nothing
then-finite = refl
