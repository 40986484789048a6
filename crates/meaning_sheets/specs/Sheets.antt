-- The stone sheet in whole numbers (W-201, whose words are quoted). Definitions only.
use Rattle.std.specs.Prelude.{ℕ, zero, suc, ◌+◌, ◌-◌, ◌*◌, ◌^◌, Bool, true, ◌&&◌, cond, List, [], ◌∷◌, map, reverse, leb, ltb, ℤ, pos, nat_abs, ◌+ℤ◌, ◌-ℤ◌, ◌*ℤ◌, length}
use Rattle.std.proofs.Math.Option.{Option, none, some}
use Rattle.std.specs.Int.Signed.{lt_z}
use Rattle.float_grid.specs.Grid.{on_grid, sixteenths}
use Rattle.float_vectors.specs.declared.vector.Point3.{Point3}
use Rattle.geom_lines_planes.specs.Refuse.{◌unless◌, ◌then◌}
use Rattle.meaning.specs.Lists.{the}
use Rattle.meaning.specs.Model.{Model, point_of}
use Rattle.meaning.specs.Refuse.{◌if◌}
use Rattle.meaning.specs.Inquire.{Side, solid_sides, rim, start_of, inward, volume_refusal}
use Rattle.meaning.specs.Offices.{office_refusal, body_for}

-- ---- six times the volume as a whole number of cubic sixteenths

-- a point in sixteenths
pub record Corner : Type 0 where
  pub x : ℤ
  pub y : ℤ
  pub z : ℤ

abbrev pub grid_point : Point3 → Bool
grid_point p = on_grid p.x && on_grid p.y && on_grid p.z

unfoldable pub corner : Point3 → Corner
corner p = record { x = sixteenths p.x; y = sixteenths p.y; z = sixteenths p.z }

-- p - q, v · w and v × w, as the float volume has them (`minus`, `dot_v`, `cross_v`)
unfoldable pub minus_c : Corner → Corner → Corner
minus_c p q = record { x = p.x -ℤ q.x; y = p.y -ℤ q.y; z = p.z -ℤ q.z }

unfoldable pub dot_c : Corner → Corner → ℤ
dot_c v w = v.x *ℤ w.x +ℤ v.y *ℤ w.y +ℤ v.z *ℤ w.z

unfoldable pub cross_c : Corner → Corner → Corner
cross_c v w =
    record {
      x = v.y *ℤ w.z -ℤ v.z *ℤ w.y;
      y = v.z *ℤ w.x -ℤ v.x *ℤ w.z;
      z = v.x *ℤ w.y -ℤ v.y *ℤ w.x;
    }

-- a triangle of the fan: o·((p - o) × (q - o)), six times the volume of the cone from the origin to it
unfoldable pub wedge : Corner → Corner → Corner → ℤ
wedge o p q = dot_c o (cross_c (minus_c p o) (minus_c q o))

-- "the same .. fans as the float volume" (`fan`, `polygon_volume`), not divided by six
unfoldable pub whole_fan : Corner → List Corner → ℤ
whole_fan o [] = pos 0
whole_fan o (p ∷ []) = pos 0
whole_fan o (p ∷ q ∷ l) = wedge o p q +ℤ whole_fan o (q ∷ l)

unfoldable pub whole_polygon : List Corner → ℤ
whole_polygon [] = pos 0
whole_polygon (o ∷ l) = whole_fan o l

-- the points of a side's fan, those of `side_volume`: "a front side reverses the points"
unfoldable pub side_points : Model → Side → List Point3
side_points m s =
    let points = map (λ i. point_of m (the (start_of m i))) (rim m s.face) in
    cond (inward m s) (reverse points) points

unfoldable pub whole_side : Model → Side → ℤ
whole_side m s = whole_polygon (map corner (side_points m s))

unfoldable pub whole_sum : Model → List Side → ℤ
whole_sum m [] = pos 0
whole_sum m (s ∷ l) = whole_side m s +ℤ whole_sum m l

-- "six times the volume as a whole number of cubic sixteenths, over the same faces .. as the float volume"
abbrev pub six_volume : Model → ℕ → ℤ
six_volume m b = whole_sum m (solid_sides m b)

-- ---- its refusals

unfoldable pub grid_points : List Point3 → Bool
grid_points [] = true
grid_points (p ∷ l) = grid_point p && grid_points l

unfoldable pub grid_sides : Model → List Side → Bool
grid_sides m [] = true
grid_sides m (s ∷ l) = grid_points (side_points m s) && grid_sides m l

-- the triangles of the fans: of a side, its fins less two
unfoldable pub triangles : Model → List Side → ℕ
triangles m [] = 0
triangles m (s ∷ l) = (length (rim m s.face) - 2) + triangles m l

-- "all volume refusals, then 5 for a coordinate off the grid or too large, then 8 where a body has more than 4,096 triangles"
unfoldable pub stone_refusal : Model → ℕ → ℕ
stone_refusal m b =
    volume_refusal m b
    then 5 unless grid_sides m (solid_sides m b)
    then 8 if ltb 4096 (triangles m (solid_sides m b))

-- ---- the sheet

-- a stone that was taken: its body, and six times its volume
pub record Stone : Type 0 where
  pub body : ℕ
  pub number : ℤ

-- "One running sheet .. keeps the number of stones, the exact total .. and the largest stone so far (signed; none at first)"
pub record Sheet : Type 0 where
  pub stones : ℕ
  pub total : ℤ
  pub largest : Option Stone

abbrev pub new_sheet : Sheet
new_sheet = record { stones = 0; total = pos 0; largest = none }

-- "among equals the largest is the first met"
abbrev pub larger : Option Stone → Stone → Stone
larger none s = s
larger (some t) s = cond (lt_z t.number s.number) s t

-- "each body taken in updates that sheet where it stands"
unfoldable pub with_stone : Sheet → Stone → Sheet
with_stone h s = record { stones = suc h.stones; total = h.total +ℤ s.number; largest = some (larger h.largest s) }

-- "9 for a sheet of over 65,536 stones or with a total above 3·2^60 in size per stone"
unfoldable pub sheet_readable : Sheet → Bool
sheet_readable h = leb h.stones 65536 && leb (nat_abs h.total) (3 * 2 ^ 60 * h.stones)

-- ".. then 8 where the sheet already has 65,536 stones"; the office that asks is tested behind 9 (W-206)
unfoldable pub take_refusal : Model → ℕ → ℕ → Sheet → ℕ
take_refusal m o b h =
    9 unless sheet_readable h
    then office_refusal o
    then stone_refusal m (body_for m o b)
    then 8 unless ltb h.stones 65536

abbrev pub stone_of : Model → ℕ → Stone
stone_of m b = record { body = b; number = six_volume m b }

abbrev pub where_taken : ℕ → Sheet → Sheet → Sheet
where_taken zero before after = after
where_taken (suc n) before after = before

-- the sheet behind the call: "A refused body leaves the sheet as found"
unfoldable pub sheet_after : Model → ℕ → ℕ → Sheet → Sheet
sheet_after m o b h = where_taken (take_refusal m o b h) h (with_stone h (stone_of m (body_for m o b)))

-- "One running sheet is handed from body to body", each asked for by an office, refused or not
pub record Ask : Type 0 where
  pub office : ℕ
  pub body : ℕ

unfoldable pub after_takes : Model → List Ask → Sheet → Sheet
after_takes m [] h = h
after_takes m (a ∷ l) h = after_takes m l (sheet_after m a.office a.body h)
