-- Box and volume (inquire.rs; 01, "Box and volume"). Definitions only.
use Rattle.std.specs.Prelude.{ℕ, Bool, true, false, not, cond, List, [], ◌∷◌, map, reverse, eqb, ltb, length, get_or, Float}
use Rattle.std.proofs.Math.Option.{Option}
use Rattle.interval_arithmetic.specs.Ops.{zero_f}
use Rattle.float_vectors.specs.declared.vector.Point3.{Point3}
use Rattle.float_vectors.specs.Space.{◌+ᶠ◌, finite_point, minus, dot_v, cross_v}
use Rattle.geom_lines_planes.specs.Refuse.{◌unless◌, ◌then◌}
use Rattle.geom_carriers.specs.Queries.{line_refusal, plane_refusal}
use Rattle.meaning.specs.Lists.{all, joined, the, is_some, is}
use Rattle.meaning.specs.Floats.{◌/ᶠ◌, float_of, lesser, greater, to_vec}
use Rattle.meaning.specs.Model.{Model, BodyKind, acorn, wire, sheet, solid, general, has, body, region, shell, face, loop, edge, point_of, curve, surface}
use Rattle.meaning.specs.Refuse.{Answer, answered, first_of, ◌if◌}
use Rattle.meaning.specs.Walks.{face_walk, edge_walk, vertex_walk, faces_refusal, edges_refusal, vertices_refusal, ends_of}

-- ---- `require_polyhedral`: 01, "Both first walk faces (no surface 1, missing 2, not a plane 7), then edges (no curve 1, missing 2, not a line 7)"

unfoldable pub flat_face : Model → ℕ → ℕ
flat_face m f =
    2 unless has m.faces f
    then 1 unless is_some (face m f).surface
    then plane_refusal (surface m (the (face m f).surface))

unfoldable pub straight_edge : Model → ℕ → ℕ
straight_edge m e =
    2 unless has m.edges e
    then 1 unless is_some (edge m e).curve
    then line_refusal (curve m (the (edge m e).curve))

unfoldable pub require_polyhedral : Model → ℕ → ℕ
require_polyhedral m b =
    faces_refusal m b
    then first_of (flat_face m) (face_walk m b)
    then edges_refusal m b
    then first_of (straight_edge m) (edge_walk m b)

-- ---- `body_bounding_box`

-- bbox.rs
pub record Aabb : Type 0 where
  pub min : Point3
  pub max : Point3

-- `Aabb::including`
abbrev pub including : Aabb → Point3 → Aabb
including b p =
    record {
      min = record { x = lesser b.min.x p.x; y = lesser b.min.y p.y; z = lesser b.min.z p.z };
      max = record { x = greater b.max.x p.x; y = greater b.max.y p.y; z = greater b.max.z p.z };
    }

unfoldable pub grown : Aabb → List Point3 → Aabb
grown b [] = b
grown b (p ∷ l) = grown (including b p) l

-- `Aabb::from_points`. No box is read where there is no point
unfoldable pub box_of : List Point3 → Aabb
box_of [] = record { min = record { x = zero_f; y = zero_f; z = zero_f }; max = record { x = zero_f; y = zero_f; z = zero_f } }
box_of (p ∷ l) = grown (record { min = p; max = p }) l

-- 01, "Box: missing vertex 2, no vertex 4, a coordinate not finite 4 (added)"
unfoldable pub box_refusal : Model → ℕ → ℕ
box_refusal m b =
    require_polyhedral m b
    then vertices_refusal m b
    then 2 unless all (has m.vertices) (vertex_walk m b)
    then 4 if eqb (length (vertex_walk m b)) 0
    then 4 unless all (λ v. finite_point (point_of m v)) (vertex_walk m b)

abbrev pub body_bounding_box : Model → ℕ → Answer Aabb
body_bounding_box m b = answered (box_refusal m b) (box_of (map (point_of m) (vertex_walk m b)))

-- ---- `body_volume`

abbrev pub is_solid : BodyKind → Bool
is_solid acorn = false
is_solid wire = false
is_solid sheet = false
is_solid solid = true
is_solid general = false

-- a face as a shell lists it
pub record Side : Type 0 where
  pub shell : ℕ
  pub face : ℕ

abbrev pub sides_of : Model → ℕ → List Side
sides_of m s = map (λ f. record { shell = s; face = f }) (shell m s).faces

-- 01, "per face in solid regions": in list order, as often as it is listed
unfoldable pub solid_sides : Model → ℕ → List Side
solid_sides m b = joined (λ r. cond (region m r).solid (joined (sides_of m) (region m r).shells) []) (body m b).regions

-- the shell is the face's back, so that the face looks out of the solid; or it is its front
abbrev pub outward : Model → Side → Bool
outward m s = is (face m s.face).back s.shell

abbrev pub inward : Model → Side → Bool
inward m s = is (face m s.face).front s.shell

abbrev pub alike : Bool → Bool → Bool
alike true b = b
alike false b = not b

-- the fins of a face's only loop
abbrev pub rim : Model → ℕ → List ℕ
rim m f = (loop m (get_or (face m f).loops 0 0)).fins

abbrev pub start_of : Model → ℕ → Option ℕ
start_of m i = (ends_of m i).start

-- 01, "a start none 7, vertex missing 2"
abbrev pub start_refusal : Model → ℕ → ℕ
start_refusal m i = 7 unless is_some (start_of m i) then 2 unless has m.vertices (the (start_of m i))

-- `oriented_face_volume`: 01, "side not exactly one 1, loops not one 7, fewer than three fins 4, .."
unfoldable pub side_refusal : Model → Side → ℕ
side_refusal m s =
    1 if alike (outward m s) (inward m s)
    then 7 unless eqb (length (face m s.face).loops) 1
    then 4 if ltb (length (rim m s.face)) 3
    then first_of (start_refusal m) (rim m s.face)

unfoldable pub sides_refusal : Model → List Side → ℕ
sides_refusal m [] = 0
sides_refusal m (s ∷ l) = let rest = sides_refusal m l in side_refusal m s then rest

-- 01, "Volume: not solid 6; per face in solid regions: ..; no face at all 4"
unfoldable pub volume_refusal : Model → ℕ → ℕ
volume_refusal m b =
    require_polyhedral m b
    then 6 unless is_solid (body m b).kind
    then sides_refusal m (solid_sides m b)
    then 4 if eqb (length (solid_sides m b)) 0

-- 01, "the source's fan from the first point": o·((p - o) × (q - o)) for each two neighbours p, q of those behind o, added to acc
unfoldable pub fan : Point3 → Float → List Point3 → Float
fan o acc [] = acc
fan o acc (p ∷ []) = acc
fan o acc (p ∷ q ∷ l) = fan o (acc +ᶠ dot_v (to_vec o) (cross_v (minus p o) (minus q o))) (q ∷ l)

-- `polygon_volume`: 01, "each face divided by six"
unfoldable pub polygon_volume : List Point3 → Float
polygon_volume [] = zero_f
polygon_volume (o ∷ l) = fan o zero_f l /ᶠ float_of 6

-- 01, "a front side reverses the points"
unfoldable pub side_volume : Model → Side → Float
side_volume m s =
    let points = map (λ i. point_of m (the (start_of m i))) (rim m s.face) in
    polygon_volume (cond (inward m s) (reverse points) points)

-- 01, "added in walk order"
unfoldable pub sum_volumes : Model → Float → List Side → Float
sum_volumes m acc [] = acc
sum_volumes m acc (s ∷ l) = sum_volumes m (acc +ᶠ side_volume m s) l

abbrev pub body_volume : Model → ℕ → Answer Float
body_volume m b = answered (volume_refusal m b) (sum_volumes m zero_f (solid_sides m b))
