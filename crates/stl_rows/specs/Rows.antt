-- What reading binary STL leaves in the lent memory (W-210): the records of the body that is built, as words and floats, laid one behind the other. Definitions only.
use Rattle.std.specs.Prelude.{ℕ, zero, suc, ◌+◌, ◌*◌, ◌/◌, cond, List, [], ◌∷◌, length, get_or, Float}
use Rattle.interval_arithmetic.specs.Ops.{zero_f}
use Rattle.float_vectors.specs.declared.vector.Point3.{Point3}
use Rattle.meaning.specs.Lists.{run}
use Rattle.memory_layout.specs.Names.{BODIES, REGIONS, SHELLS, FACES, LOOPS, FINS, EDGES, VERTICES}
use Rattle.memory_layout.specs.Layout.{word}
use Rattle.memory_writes.specs.Put.{put_words, put_reals, new_words, counted}
use Rattle.stl_body.specs.Read.{Step, step, rising, Mesh, fins_on, nowhere}

-- ---- records more in table k

-- one, with the words f at its front: what an accepted insert leaves, but that its lists stand in f
unfoldable pub appended_words : List ℕ → ℕ → List ℕ → List ℕ → List ℕ
appended_words room k f w = counted k (put_words room k (word w k) (new_words k f) w)

-- n, the j-th of them, from 0, with the words row j
unfoldable pub words_behind : List ℕ → ℕ → (ℕ → List ℕ) → ℕ → List ℕ → List ℕ
words_behind room k row zero w = w
words_behind room k row (suc n) w = appended_words room k (row n) (words_behind room k row n w)

-- and with the floats floats j, the first of them having the id i
unfoldable pub reals_behind : List ℕ → ℕ → ℕ → (ℕ → List Float) → ℕ → List Float → List Float
reals_behind room k i floats zero x = x
reals_behind room k i floats (suc n) x = put_reals room k (i + n) (floats n) (reals_behind room k i floats n x)

-- ---- the words of the k-th new record of each table, in the places where `Decode.antt` of `memory_layout` reads them: body, region, .. are the ids of the first new ones

-- "a solid body", which has the tag 3
abbrev pub body_row : ℕ → ℕ → ℕ → List ℕ
body_row office region k = 3 ∷ office ∷ 2 ∷ run region 2

-- "one void and one solid region": the mark is 0, then 1
abbrev pub region_row : ℕ → ℕ → ℕ → List ℕ
region_row body shell k = body ∷ k ∷ 1 ∷ (shell + k) ∷ []

-- "one shell in each", which lists all n faces
abbrev pub shell_row : ℕ → ℕ → ℕ → ℕ → List ℕ
shell_row region face n k = (region + k) ∷ n ∷ run face n

-- "faces have its shell in front, the solid's at the back"; no surface; the sense is positive
abbrev pub face_row : ℕ → ℕ → ℕ → List ℕ
face_row shell first k = 1 ∷ shell ∷ 1 ∷ (shell + 1) ∷ 0 ∷ 0 ∷ 0 ∷ 1 ∷ (first + k) ∷ []

abbrev pub loop_row : ℕ → ℕ → ℕ → List ℕ
loop_row face fin k = (face + k) ∷ 3 ∷ run (fin + 3 * k) 3

-- a fin that makes the step s, by its loop and edge; it has no pcurve
abbrev pub fin_words : ℕ → ℕ → Step → List ℕ
fin_words owner edge s = owner ∷ edge ∷ cond (rising s) 0 1 ∷ 0 ∷ []

-- an edge along the step s, whose ends are vertices behind the first; no curve, no tolerance of its own
abbrev pub edge_words : ℕ → List ℕ → Step → List ℕ
edge_words vertex fins s = 1 ∷ (vertex + s.from) ∷ 1 ∷ (vertex + s.to) ∷ 0 ∷ 0 ∷ 0 ∷ length fins ∷ fins

abbrev pub fin_row : ℕ → ℕ → Mesh → ℕ → List ℕ
fin_row first edge t k = fin_words (first + k / 3) (edge + get_or t.edge_numbers k 0) (get_or t.steps k (step 0 0))

abbrev pub edge_row : ℕ → ℕ → Mesh → ℕ → List ℕ
edge_row vertex fin t k = edge_words vertex (fins_on k fin t.edge_numbers) (get_or t.edges k (step 0 0))

-- no tolerance of its own
abbrev pub vertex_row : ℕ → List ℕ
vertex_row k = 0 ∷ []

-- ---- their floats, of those that have some; in place of a tolerance of its own stands 0, as an insert writes it

abbrev pub no_floats : ℕ → List Float
no_floats k = []

abbrev pub edge_floats : ℕ → List Float
edge_floats k = zero_f ∷ []

abbrev pub point_floats : Point3 → List Float
point_floats p = p.x ∷ p.y ∷ p.z ∷ zero_f ∷ []

abbrev pub vertex_floats : Mesh → ℕ → List Float
vertex_floats t k = point_floats (get_or t.points k nowhere)

-- ---- by table: how many, their words and their floats, w being the words at entry

abbrev pub new_counts : Mesh → List ℕ
new_counts t = 1 ∷ 2 ∷ 2 ∷ t.triangles ∷ t.triangles ∷ 3 * t.triangles ∷ length t.edges ∷ length t.points ∷ []

abbrev pub new_rows : List ℕ → ℕ → Mesh → List (ℕ → List ℕ)
new_rows w o t =
    body_row o (word w REGIONS)
    ∷ region_row (word w BODIES) (word w SHELLS)
    ∷ shell_row (word w REGIONS) (word w FACES) t.triangles
    ∷ face_row (word w SHELLS) (word w LOOPS)
    ∷ loop_row (word w FACES) (word w FINS)
    ∷ fin_row (word w LOOPS) (word w EDGES) t
    ∷ edge_row (word w VERTICES) (word w FINS) t
    ∷ vertex_row
    ∷ []

abbrev pub new_floats : Mesh → List (ℕ → List Float)
new_floats t = no_floats ∷ no_floats ∷ no_floats ∷ no_floats ∷ no_floats ∷ no_floats ∷ edge_floats ∷ vertex_floats t ∷ []

-- the first m tables, one after the other
unfoldable pub tables_words : List ℕ → List (ℕ → List ℕ) → List ℕ → ℕ → List ℕ → List ℕ
tables_words room rows counts zero w = w
tables_words room rows counts (suc m) w = words_behind room m (get_or rows m (λ _. [])) (word counts m) (tables_words room rows counts m w)

unfoldable pub tables_reals : List ℕ → List ℕ → List (ℕ → List Float) → List ℕ → ℕ → List Float → List Float
tables_reals room w floats counts zero x = x
tables_reals room w floats counts (suc m) x = reals_behind room m (word w m) (get_or floats m (λ _. [])) (word counts m) (tables_reals room w floats counts m x)

-- ---- bodies, regions, shells, faces, loops, fins, edges, vertices: what an accepted reading of the mesh t by the office o leaves

unfoldable pub read_words : List ℕ → List ℕ → ℕ → Mesh → List ℕ
read_words room w o t = tables_words room (new_rows w o t) (new_counts t) 8 w

unfoldable pub read_reals : List ℕ → List ℕ → List Float → Mesh → List Float
read_reals room w x t = tables_reals room w (new_floats t) (new_counts t) 8 x
