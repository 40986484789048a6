-- The slab profile (W-212, whose words are quoted). Definitions only.
use Rattle.std.specs.Prelude.{ℕ, zero, suc, ◌+◌, Bool, true, false, ◌&&◌, ◌||◌, cond, List, [], ◌∷◌, ◌++◌, map, eqb, ltb, ℤ, pos, nat_abs, ◌+ℤ◌, ◌-ℤ◌, ◌*ℤ◌, length, get_or, Float}
use Rattle.std.proofs.Math.Option.{Option}
use Rattle.std.specs.Float.Ieee.{eq, neg}
use Rattle.float_grid.specs.Grid.{sixteenths}
use Rattle.float_vectors.specs.declared.vector.Point3.{Point3}
use Rattle.float_vectors.specs.declared.vector.Vec3.{Vec3}
use Rattle.interval_arithmetic.specs.Ops.{zero_f}
use Rattle.geom_lines_planes.specs.Refuse.{◌unless◌, ◌then◌}
use Rattle.geom_carriers.specs.Queries.{the_plane}
use Rattle.meaning.specs.Lists.{all, the, is_some, is}
use Rattle.meaning.specs.Floats.{float_of}
use Rattle.meaning.specs.Model.{Model, has, body, face, edge, surface, point_of}
use Rattle.meaning.specs.Refuse.{◌if◌, first_refusal, first_of}
use Rattle.meaning.specs.Walks.{face_walk, edge_walk, vertex_walk, ends_of}
use Rattle.meaning.specs.Inquire.{is_solid, require_polyhedral, rim, start_of}
use Rattle.meaning_sheets.specs.Sheets.{grid_point}

module _ {A B : Type 0} where
  -- of each two neighbours of a list, in order
  unfoldable pub steps : (A → A → B) → List A → List B
  steps f [] = []
  steps f (p ∷ []) = []
  steps f (p ∷ q ∷ l) = f p q ∷ steps f (q ∷ l)

module _ {A : Type 0} where
  -- the entries, and the first again: behind the last comes the first
  abbrev pub closed : List A → List A
  closed [] = []
  closed (x ∷ l) = x ∷ (l ++ (x ∷ []))

-- ---- the rules, each of one entity

-- "every plane normal is a signed axis": 1 or -1 in one place, a zero of either sign in the two others
abbrev pub unit_f : Float → Bool
unit_f x = eq x (float_of 1) || eq x (neg (float_of 1))

abbrev pub nought : Float → Bool
nought x = eq x zero_f

unfoldable pub signed_axis : Vec3 → Bool
signed_axis n =
    unit_f n.x && nought n.y && nought n.z
    || nought n.x && unit_f n.y && nought n.z
    || nought n.x && nought n.y && unit_f n.z

abbrev pub normal_of : Model → ℕ → Vec3
normal_of m f = (the_plane (surface m (the (face m f).surface))).normal

unfoldable pub along_normal : Model → ℕ → Bool
along_normal m f = signed_axis (normal_of m f)

-- "every face has one loop"
unfoldable pub one_loop : Model → ℕ → Bool
one_loop m f = eqb (length (face m f).loops) 1

-- "each fin ends where the next starts": the fin i, behind which comes j. "A missing .. end breaks the rule that reads it"
unfoldable pub ends_at : Model → ℕ → ℕ → Bool
ends_at m i j = is_some (ends_of m i).end && is (start_of m j) (the (ends_of m i).end)

-- "A missing vertex or end breaks the rule that reads it"
abbrev pub standing : Model → Option ℕ → Bool
standing m o = is_some o && has m.vertices (the o)

-- "every edge's ends differ in exactly one coordinate"
abbrev pub differs : Float → Float → ℕ
differs a b = cond (eq a b) 0 1

unfoldable pub differing : Point3 → Point3 → ℕ
differing p q = differs p.x q.x + differs p.y q.y + differs p.z q.z

unfoldable pub along_axis : Model → ℕ → Bool
along_axis m e =
    standing m (edge m e).start
    && standing m (edge m e).end
    && eqb (differing (point_of m (the (edge m e).start)) (point_of m (the (edge m e).end))) 1

-- "every coordinate is on W-201's grid"
unfoldable pub grid_vertex : Model → ℕ → Bool
grid_vertex m v = has m.vertices v && grid_point (point_of m v)

-- the axis of a normal that is a signed axis, and a point's coordinate on an axis: 0 for x, 1 for y, 2 for z
unfoldable pub axis_of : Vec3 → ℕ
axis_of n = cond (unit_f n.x) 0 (cond (unit_f n.y) 1 2)

unfoldable pub on : ℕ → Point3 → Float
on a p = cond (eqb a 0) p.x (cond (eqb a 1) p.y p.z)

-- a face's corners, where the fins of its loop start
abbrev pub corner_at : Model → ℕ → Point3
corner_at m i = point_of m (the (start_of m i))

abbrev pub face_axis : Model → ℕ → ℕ
face_axis m f = axis_of (normal_of m f)

-- "each face's corners have one exact value on its normal's axis": all are there, and each has the first one's
unfoldable pub level : Model → ℕ → List ℕ → Bool
level m a fins = all (λ i. eq (on a (corner_at m i)) (on a (corner_at m (get_or fins 0 0)))) fins

unfoldable pub level_face : Model → ℕ → Bool
level_face m f = all (λ i. standing m (start_of m i)) (rim m f) && level m (face_axis m f) (rim m f)

-- ---- "the first broken rule of this list and the first entity in walk order that breaks it"

-- 0 where a rule holds of all entities of a walk, else the first one's id, and one
abbrev pub first_broken : (ℕ → Bool) → List ℕ → ℕ
first_broken holds walk = first_of (λ x. suc x unless holds x) walk

-- of the fins of a face's loop
unfoldable pub broken_fin : Model → ℕ → ℕ
broken_fin m f = first_refusal (steps (λ i j. suc i unless ends_at m i j) (closed (rim m f)))

unfoldable pub rules : Model → ℕ → List ℕ
rules m b =
    first_broken (along_normal m) (face_walk m b)
    ∷ first_broken (one_loop m) (face_walk m b)
    ∷ first_of (broken_fin m) (face_walk m b)
    ∷ first_broken (along_axis m) (edge_walk m b)
    ∷ first_broken (grid_vertex m) (vertex_walk m b)
    ∷ first_broken (level_face m) (face_walk m b)
    ∷ []

-- a body is accepted, or the number of a rule, from 1, and the id of a face for the rules 1, 2 and 6, of a fin for 3, of an edge for 4 and of a vertex for 5
pub data Verdict : Type 0 where
  accepted : Verdict
  broken : ℕ → ℕ → Verdict

unfoldable pub judged : ℕ → List ℕ → Verdict
judged k [] = accepted
judged k (zero ∷ l) = judged (suc k) l
judged k (suc x ∷ l) = broken k x

-- "It accepts exactly the bodies for which all rules hold and otherwise names .."
unfoldable pub verdict : Model → ℕ → Verdict
verdict m b = judged 1 (rules m b)

-- ---- "the exact area in square sixteenths, face by face and in all"

-- a corner on its face's plane: its two coordinates beside the axis a, in sixteenths
pub record Spot : Type 0 where
  pub u : ℤ
  pub v : ℤ

unfoldable pub spot : ℕ → Point3 → Spot
spot a p = record { u = sixteenths (on (cond (eqb a 0) 1 0) p); v = sixteenths (on (cond (eqb a 2) 1 2) p) }

-- the signed area between a straight way along an axis, from p to q, and the line where u is 0
unfoldable pub strip : Spot → Spot → ℤ
strip p q = p.u *ℤ (q.v -ℤ p.v)

unfoldable pub sumℤ : List ℤ → ℤ
sumℤ [] = pos 0
sumℤ (z ∷ l) = z +ℤ sumℤ l

-- "the signed area of its loop", whose ways are along the axes
unfoldable pub loop_area : List Spot → ℤ
loop_area l = sumℤ (steps strip (closed l))

-- "a face's area is the size of the signed area of its loop"
unfoldable pub face_area : Model → ℕ → ℕ
face_area m f = nat_abs (loop_area (map (λ i. spot (face_axis m f) (corner_at m i)) (rim m f)))

-- "face by face"
unfoldable pub areas : Model → ℕ → List ℕ
areas m b = map (face_area m) (face_walk m b)

-- "and in all"
unfoldable pub area_sum : List ℕ → ℕ
area_sum [] = 0
area_sum (n ∷ l) = n + area_sum l

-- ---- what is told

abbrev pub is_accepted : Verdict → Bool
is_accepted accepted = true
is_accepted (broken k x) = false

-- the area in all of an accepted body; of another the first broken rule and the entity that breaks it
pub data Profile : Type 0 where
  area : ℕ → Profile
  breaks : ℕ → ℕ → Profile

abbrev pub profiled : Verdict → ℕ → Profile
profiled accepted n = area n
profiled (broken k x) n = breaks k x

unfoldable pub profile : Model → ℕ → Profile
profile m b = profiled (verdict m b) (area_sum (areas m b))

-- 8 where the list, one of n entries, is too short for an accepted body
unfoldable pub short_list : Model → ℕ → ℕ → ℕ
short_list m b n = 8 if is_accepted (verdict m b) && ltb n (length (areas m b))

-- "those of the walks that begin box and volume, 6 as for volume, then 8 for an accepted body and a short area list"
unfoldable pub profile_refusal : Model → ℕ → ℕ → ℕ
profile_refusal m b n =
    require_polyhedral m b
    then 6 unless is_solid (body m b).kind
    then short_list m b n
