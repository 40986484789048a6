-- "read what was written gives a body with the same triangles": what W-209 writes of any body is read as its triangles. Assumes nothing.
use Rattle.std.specs.Prelude.{ℕ, ◌^◌, ◌<◌, ◌≡◌, Bool, true, false, ◌&&◌, List, [], ◌∷◌, ◌++◌, length}
use Rattle.std.proofs.Math.Path.{refl}
use Rattle.float_vectors.specs.declared.vector.Point3.{Point3}
use Rattle.geom_lines_planes.specs.Refuse.{◌unless◌}
use Rattle.meaning.specs.Model.{Model}
use Rattle.meaning.specs.Inquire.{Side, solid_sides, volume_refusal}
use Rattle.meaning_list_laws.specs.Tests.{and_both, then-zero, unless-zero}
use Rattle.meaning_sheets.specs.Sheets.{side_points}
use Rattle.stl_format.specs.Stl.{Triangle, fan_triangles, polygon_triangles, side_triangles, triangles_of, body_stl, narrow_point, narrow_points, narrow_sides, stl_refusal}
use Rattle.stl_body.specs.Read.{stl_triangles, corners}
use Rattle.stl_body.proofs.Back.{read_back}

-- the corners of the fans are points of the sides
narrow-append : (k l : List Triangle) → narrow_points (corners (k ++ l)) ≡ (narrow_points (corners k) && narrow_points (corners l))
unfolding corners narrow_points
narrow-append [] l = refl
narrow-append (t ∷ k) l = by (narrow_point t.a) (narrow_point t.b) (narrow_point t.c) (narrow-append k l)
  where
    by : (a b c : Bool) → narrow_points (corners (k ++ l)) ≡ (narrow_points (corners k) && narrow_points (corners l))
        → (a && (b && (c && narrow_points (corners (k ++ l))))) ≡ ((a && (b && (c && narrow_points (corners k)))) && narrow_points (corners l))
    by true true true e = e
    by true true false e = refl
    by true false c e = refl
    by false b c e = refl

fan-narrow : (o : Point3) (l : List Point3) → narrow_point o ≡ true → narrow_points l ≡ true → narrow_points (corners (fan_triangles o l)) ≡ true
unfolding corners narrow_points fan_triangles
fan-narrow o [] f h = refl
fan-narrow o (p ∷ []) f h = refl
fan-narrow o (p ∷ q ∷ l) f h =
    let a = and_both (narrow_point p) (narrow_point q && narrow_points l) h in
    let b = and_both (narrow_point q) (narrow_points l) a.1 in
    rw (f, a.0, b.0) (fan-narrow o (q ∷ l) f a.1)

polygon-narrow : (l : List Point3) → narrow_points l ≡ true → narrow_points (corners (polygon_triangles l)) ≡ true
unfolding polygon_triangles
polygon-narrow [] h = unfold corners narrow_points in refl
polygon-narrow (o ∷ l) h = fan-narrow o l head.0 head.1
  where
    head : (narrow_point o ≡ true) × (narrow_points l ≡ true)
    head = and_both (narrow_point o) (narrow_points l) (unfold narrow_points in h)

sides-narrow : (k : Model) (l : List Side) → narrow_sides k l ≡ true → narrow_points (corners (triangles_of k l)) ≡ true
unfolding narrow_sides triangles_of side_triangles
sides-narrow k [] h = unfold corners narrow_points in refl
sides-narrow k (a ∷ l) h =
    let both = and_both (narrow_points (side_points k a)) (narrow_sides k l) h in
    rw (narrow-append (polygon_triangles (side_points k a)) (triangles_of k l), polygon-narrow (side_points k a) both.0) (sides-narrow k l both.1)

write-passed : (k : Model) (c : ℕ) → stl_refusal k c ≡ 0 → narrow_sides k (solid_sides k c) ≡ true
unfolding stl_refusal
write-passed k c h = unless-zero 4 (narrow_sides k (solid_sides k c)) (then-zero (volume_refusal k c) (5 unless narrow_sides k (solid_sides k c)) h).1

-- bit by bit
pub reads-back : (k : Model) (c : ℕ) → stl_refusal k c ≡ 0 → length (triangles_of k (solid_sides k c)) < 2 ^ 32 → stl_triangles (body_stl k c) ≡ triangles_of k (solid_sides k c)
reads-back k c h few = read_back (triangles_of k (solid_sides k c)) (sides-narrow k (solid_sides k c) (write-passed k c h)) few
