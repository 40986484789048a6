-- The slab profile computed: the trial stone, each rule broken, what is refused, and an L-shaped slab. Each edit of must-fail/ makes one of them false. Assumes nothing.
use Rattle.std.specs.Prelude.{ℕ, ◌+◌, ◌*◌, ◌-◌, ◌/◌, ◌%◌, ◌≡◌, refl, true, false, cond, List, [], ◌∷◌, map, ltb, eqb, pos, neg_ℤ, get_or, Float}
use Rattle.std.proofs.Math.Option.{Option, none, some}
use Rattle.std.specs.Float.Ieee.{neg}
use Rattle.std.specs.Float.{nan}
use Rattle.float_vectors.specs.declared.vector.Vec3.{Vec3}
use Rattle.geom_lines_planes.specs.declared.tolerance.Tolerance.TheVariants.{Session}
use Rattle.geom_lines_planes.specs.declared.tolerance.Version.TheVariants.{First}
use Rattle.meaning.specs.Lists.{run, rotated}
use Rattle.meaning.specs.Floats.{◌/ᶠ◌, float_of}
use Rattle.meaning.specs.Model.{Model, Fin, Edge, positive, negative, solid, sheet, office-0}
use Rattle.meaning.specs.Stone.{milli, at, way, line, plane, right, left, aft, fore, up, down, table_of, vertex_at, a_fin, a_loop, a_shell, a_region, stone, stone_face, corner}
use Rattle.meaning.specs.Blade.{with_body, with_region, with_face, with_loop, with_edge, with_vertex, with_surface, shell_is, start_at}
use Rattle.meaning.specs.Computing.{computing}
use Rattle.meaning_sheets.specs.Counting.{counting}
use Rattle.meaning_slabs.specs.Slabs.{accepted, broken, verdict, signed_axis, Spot, loop_area, areas, area_sum, area, profile, profile_refusal}
use Rattle.meaning_slabs.specs.Judging.{judging}

-- ---- the stone

-- two faces of 4 by 3 mm, two of 4 by 2 and two of 3 by 2: 64, 48 and 32 sixteenths
trial-stone : verdict stone 0 ≡ accepted
unfolding computing counting judging
trial-stone = refl

trial-areas : areas stone 0 ≡ 3072 ∷ 3072 ∷ 2048 ∷ 2048 ∷ 1536 ∷ 1536 ∷ []
unfolding computing counting judging
trial-areas = refl

trial-profile : profile stone 0 ≡ area 13312
unfolding computing counting judging
trial-profile = refl

-- ---- a signed axis: a zero of either sign; no other length, no second place, not a number

normals : map signed_axis
    (right ∷ fore ∷ down ∷ way (float_of 1) (float_of 0) (neg (float_of 0)) ∷ way (neg (float_of 0)) (neg (float_of 1)) (neg (float_of 0))
    ∷ way (float_of 0) (float_of 0) (float_of 0) ∷ way (float_of 2) (float_of 0) (float_of 0) ∷ way (float_of 1) (float_of 1) (float_of 0) ∷ way (float_of 1) (float_of 0) nan ∷ [])
    ≡ true ∷ true ∷ true ∷ true ∷ true ∷ false ∷ false ∷ false ∷ false ∷ []
unfolding computing judging
normals = refl

-- ---- each rule broken: its number, and the first that breaks it

abbrev oblique : Vec3
oblique = way (float_of 3 /ᶠ float_of 5) (float_of 4 /ᶠ float_of 5) (float_of 0)

-- the surfaces of two faces
abbrev tilted : ℕ → ℕ → Model → Model
tilted i j m = with_surface i (plane (corner 0) oblique) (with_surface j (plane (corner 0) oblique) m)

abbrev loops_of : ℕ → List ℕ → Model → Model
loops_of f l = with_face f (record { front = some 0; back = some 1; loops = l; surface = some f; sense = positive })

-- an edge of the stone with other ends
abbrev ended : ℕ → Option ℕ → Option ℕ → Model → Model
ended e a b = with_edge e (record { fins = []; start = a; end = b; curve = some e; tolerance = Session })

-- the stone without its last vertex
abbrev headless : Model
headless = record { version = stone.version; precision = stone.precision; bodies = stone.bodies; regions = stone.regions; shells = stone.shells; faces = stone.faces; loops = stone.loops; fins = stone.fins; edges = stone.edges; vertices = record { used = 7; slot = stone.vertices.slot }; curves = stone.curves; surfaces = stone.surfaces }

-- a half of a sixteenth: the stone begins there instead of at x = 0
abbrev half : Float
half = float_of 1 /ᶠ float_of 32

abbrev begun : Model
begun =
    start_at (at half (float_of 0) (float_of 0))
    (with_vertex 2 (vertex_at (at half (float_of 3) (float_of 0)))
    (with_vertex 4 (vertex_at (at half (float_of 0) (float_of 2)))
    (with_vertex 6 (vertex_at (at half (float_of 3) (float_of 2))) stone)))

-- the other zero in place of x = 0 at one corner: no coordinate differs by it
one-zero : verdict (start_at (at (neg (float_of 0)) (float_of 0) (float_of 0)) stone) 0 ≡ accepted
unfolding computing counting judging
one-zero = refl

each-rule : map (λ (m : Model). verdict m 0)
    (tilted 4 2 stone
    ∷ loops_of 1 (1 ∷ 0 ∷ []) stone
    ∷ with_loop 1 (a_loop 1 (4 ∷ 6 ∷ 5 ∷ 7 ∷ [])) stone
    ∷ ended 5 none (some 3) stone
    ∷ ended 5 (some 1) none stone
    ∷ start_at (at (float_of 1) (float_of 0) (float_of 1)) stone
    ∷ headless
    ∷ shell_is 0 [] [] [] (shell_is 1 [] (11 ∷ []) [] headless)
    ∷ begun
    ∷ shell_is 1 [] [] (3 ∷ 9 ∷ []) stone
    ∷ with_surface 3 (plane (corner 2) up) stone
    ∷ [])
    ≡ broken 1 2 ∷ broken 2 1 ∷ broken 3 4 ∷ broken 3 2 ∷ broken 3 1 ∷ broken 4 4 ∷ broken 4 7 ∷ broken 4 11 ∷ broken 5 0 ∷ broken 5 9 ∷ broken 6 3 ∷ []
unfolding computing counting judging
each-rule = refl

-- an end that is none where the other has vertex 0, and two that are none
no_end : map (λ (m : Model). verdict m 0) (ended 4 none (some 2) stone ∷ ended 4 none (some 2) (ended 0 none (some 1) stone) ∷ []) ≡ broken 3 3 ∷ broken 3 3 ∷ []
unfolding computing counting judging
no_end = refl

-- where several are broken, the first of the list
first-rule : map (λ (m : Model). verdict m 0)
    (loops_of 0 [] (tilted 5 5 stone) ∷ start_at (at half (float_of 1) (float_of 0)) stone ∷ with_surface 0 (plane (corner 0) right) begun ∷ [])
    ≡ broken 1 5 ∷ broken 4 4 ∷ broken 5 0 ∷ []
unfolding computing counting judging
first-rule = refl

-- a wire edge and an acorn vertex beside the stone's faces are looked at, and have no area; a body without a face is accepted
abbrev hollow : Model
hollow = with_body 0 (record { kind = solid; office = office-0; regions = 0 ∷ [] }) (with_region 0 (a_region 0 false []) stone)

beside : map (λ (m : Model). area_sum (areas m 0)) (shell_is 1 (0 ∷ []) (11 ∷ []) (7 ∷ []) stone ∷ hollow ∷ []) ≡ 13312 ∷ 0 ∷ []
unfolding computing counting judging
beside = refl

none-broken : map (λ (m : Model). verdict m 0) (shell_is 1 (0 ∷ []) (11 ∷ []) (7 ∷ []) stone ∷ hollow ∷ []) ≡ accepted ∷ accepted ∷ []
unfolding computing counting judging
none-broken = refl

-- ---- refusals

abbrev as_sheets : Model → Model
as_sheets = with_body 0 (record { kind = sheet; office = office-0; regions = 0 ∷ 1 ∷ [] })

-- "those of the walks .., 6 as for volume, then 8 for an accepted body and a short area list": a shell that lists no face that there is; not solid; five entries for six faces, six; none, where a rule is broken
refused-with : profile_refusal (shell_is 1 (9 ∷ []) [] [] stone) 0 6 ∷ profile_refusal stone 1 6 ∷ profile_refusal (as_sheets stone) 0 6 ∷ profile_refusal (as_sheets (tilted 0 0 stone)) 0 0 ∷ profile_refusal stone 0 5 ∷ profile_refusal stone 0 6 ∷ profile_refusal begun 0 0 ∷ []
    ≡ 2 ∷ 2 ∷ 6 ∷ 6 ∷ 8 ∷ 0 ∷ 0 ∷ []
unfolding computing counting judging
refused-with = refl

-- ---- loops alone: a rectangle, the other way round, begun elsewhere; an L; there and back

abbrev spot_at : ℕ → ℕ → Spot
spot_at a b = record { u = pos a; v = pos b }

abbrev oblong : List Spot
oblong = spot_at 1 2 ∷ spot_at 6 2 ∷ spot_at 6 5 ∷ spot_at 1 5 ∷ []

abbrev ell : List Spot
ell = spot_at 0 0 ∷ spot_at 4 0 ∷ spot_at 4 1 ∷ spot_at 1 1 ∷ spot_at 1 3 ∷ spot_at 0 3 ∷ []

loops-alone : map loop_area (oblong ∷ (spot_at 1 5 ∷ spot_at 6 5 ∷ spot_at 6 2 ∷ spot_at 1 2 ∷ []) ∷ rotated oblong ∷ ell ∷ (spot_at 0 0 ∷ spot_at 4 0 ∷ []) ∷ [] ∷ [])
    ≡ pos 15 ∷ neg_ℤ (pos 15) ∷ pos 15 ∷ pos 6 ∷ pos 0 ∷ pos 0 ∷ []
unfolding judging
loops-alone = refl

-- ---- an L-shaped slab, 2 mm thick: the six corners of `ell` in millimetres, below and above. Edge i runs below from corner i to the next, 6 + i above, 12 + i upwards; face 0 is below, 1 above, 2 + i behind edge i

abbrev ell_point : ℕ → Float → Vec3
ell_point i z =
    get_or
    (way (float_of 0) (float_of 0) z ∷ way (float_of 4) (float_of 0) z ∷ way (float_of 4) (float_of 1) z ∷ way (float_of 1) (float_of 1) z ∷ way (float_of 1) (float_of 3) z ∷ way (float_of 0) (float_of 3) z ∷ [])
    i (way z z z)

abbrev ell_vertex : ℕ → Vec3
ell_vertex i = cond (ltb i 6) (ell_point i (float_of 0)) (ell_point (i - 6) (float_of 2))

-- the corner behind corner i
abbrev following : ℕ → ℕ
following i = cond (eqb i 5) 0 (i + 1)

abbrev ell_edge : ℕ → ℕ → Edge
ell_edge a b = record { fins = []; start = some a; end = some b; curve = some 0; tolerance = Session }

abbrev ell_edge_at : ℕ → Edge
ell_edge_at e = cond (ltb e 6) (ell_edge e (following e)) (cond (ltb e 12) (ell_edge e (6 + following (e - 6))) (ell_edge (e - 12) (e - 6)))

-- fins 0 to 5 go round below, 6 to 11 above; 12 + 4 i to 15 + 4 i round face 2 + i: its edge below, up, above, down
abbrev ell_side : ℕ → ℕ → Fin
ell_side i k =
    get_or (a_fin (2 + i) i positive ∷ a_fin (2 + i) (12 + following i) positive ∷ a_fin (2 + i) (6 + i) negative ∷ a_fin (2 + i) (12 + i) negative ∷ []) k (a_fin 0 0 positive)

abbrev ell_fin : ℕ → Fin
ell_fin i = cond (ltb i 12) (a_fin (i / 6) i positive) (ell_side ((i - 12) / 4) ((i - 12) % 4))

abbrev ell_normal : ℕ → Vec3
ell_normal f = get_or (down ∷ up ∷ fore ∷ right ∷ aft ∷ right ∷ aft ∷ left ∷ []) f up

abbrev ell_slab : Model
ell_slab =
    record {
      version = First;
      precision = milli;
      bodies = stone.bodies;
      regions = stone.regions;
      shells = table_of (a_shell 0 (run 0 8)) (a_shell 1 (run 0 8) ∷ []);
      faces = record { used = 8; slot = stone_face };
      loops = record { used = 8; slot = λ l. a_loop l (cond (ltb l 2) (run (6 * l) 6) (run (12 + 4 * (l - 2)) 4)) };
      fins = record { used = 36; slot = ell_fin };
      edges = record { used = 18; slot = ell_edge_at };
      vertices = record { used = 12; slot = λ i. vertex_at (at (ell_vertex i).x (ell_vertex i).y (ell_vertex i).z) };
      curves = table_of (line (corner 0) right) [];
      surfaces = record { used = 8; slot = λ i. plane (corner 0) (ell_normal i) };
    }

-- 6 square millimetres below and above, then 4, 1, 3, 2, 1 and 3 by 2
ell-slab : verdict ell_slab 0 ≡ accepted
unfolding computing counting judging
ell-slab = refl

ell-areas : areas ell_slab 0 ≡ 1536 ∷ 1536 ∷ 2048 ∷ 512 ∷ 1536 ∷ 1024 ∷ 512 ∷ 1536 ∷ []
unfolding computing counting judging
ell-areas = refl
