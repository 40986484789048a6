-- "Outside stones come in the same format": what W-209 writes of triangles is read as those triangles, bit by bit. Assumes nothing.
use Rattle.std.specs.Prelude.{ℕ, ◌+◌, ◌*◌, ◌^◌, ◌<◌, ◌≡◌, true, ◌&&◌, List, [], ◌∷◌, ◌++◌, length, drop, Float}
use Rattle.std.proofs.Math.Path.{refl}
use Rattle.std.proofs.Common.{ap, ◌∙◌, drop_at, eq-eqb}
use Rattle.std.specs.Float.{binary32}
use Rattle.std.specs.Float.Ieee.{of_bits, to_bits}
use Rattle.std.specs.Float.Ieee.Bits.{of_bits-to_bits, to_bits-lt}
use Rattle.float_narrow.specs.Narrow.{narrow, narrow_bits}
use Rattle.float_narrow.specs.Laws.{narrow-fits}
use Rattle.float_vectors.specs.declared.vector.Point3.{Point3}
use Rattle.meaning.specs.Lists.{joined}
use Rattle.meaning_list_laws.specs.Tests.{and_both}
use Rattle.image_format.specs.Bytes.{little, number}
use Rattle.image_laws.specs.Numbers.{number-little}
use Rattle.stl_format.specs.Stl.{Triangle, triangle_bytes, triangles_bytes, stl_of, narrow_point, narrow_points}
use Rattle.stl_format.specs.Laws.{triangle-length, stl-length}
use Rattle.stl_body.specs.Read.{coordinate_in, corner_in, triangle_in, triangles_in, count_in, stl_triangles, length_fits, corners}

abbrev bytes : Float → List ℕ
bytes v = little 4 (narrow_bits v) ++ []

coordinate-back : (v : Float) → narrow v ≡ true → of_bits binary32 (number 4 (bytes v)) ≡ v
unfolding narrow_bits
coordinate-back v h =
    let f = narrow-fits v h in
    rw h (ap (of_bits binary32) (number-little 4 (to_bits binary32 v) [] (to_bits-lt binary32 v f)) ∙ of_bits-to_bits binary32 v f)

abbrev again : Point3 → Point3
again p = record { x = of_bits binary32 (number 4 (bytes p.x)); y = of_bits binary32 (number 4 (bytes p.y)); z = of_bits binary32 (number 4 (bytes p.z)) }

point-back : (p : Point3) → narrow_point p ≡ true → again p ≡ p
point-back p h =
    let front = and_both (narrow p.x && narrow p.y) (narrow p.z) h in
    let both = and_both (narrow p.x) (narrow p.y) front.0 in
    rw (coordinate-back p.x both.0, coordinate-back p.y both.1, coordinate-back p.z front.1)

abbrev of_corners : Point3 → Point3 → Point3 → Triangle
of_corners p q r = record { a = p; b = q; c = r }

triangle-back : (t : Triangle) (s : List ℕ) → narrow_point t.a ≡ true → narrow_point t.b ≡ true → narrow_point t.c ≡ true → triangle_in (triangle_bytes t ++ s) ≡ t
unfolding triangle_in corner_in coordinate_in triangle_bytes joined little number
triangle-back t s f g h =
    ap (λ p. of_corners p (again t.b) (again t.c)) (point-back t.a f) ∙ ap (λ p. of_corners t.a p (again t.c)) (point-back t.b g) ∙ ap (λ p. of_corners t.a t.b p) (point-back t.c h)

triangles-back : (l : List Triangle) → narrow_points (corners l) ≡ true → triangles_in (length l) (triangles_bytes l) ≡ l
unfolding triangles_in triangles_bytes narrow_points corners
triangles-back [] h = refl
triangles-back (t ∷ l) h =
    let first = and_both (narrow_point t.a) _ h in
    let second = and_both (narrow_point t.b) _ first.1 in
    let third = and_both (narrow_point t.c) _ second.1 in
    rw (triangle-back t (triangles_bytes l) first.0 second.0 third.0, drop_at (triangle_bytes t) (triangles_bytes l) 50 (triangle-length t), triangles-back l third.1)

count-back : (l : List Triangle) → length l < 2 ^ 32 → count_in (stl_of l) ≡ length l
unfolding count_in stl_of
count-back l h = number-little 4 (length l) (triangles_bytes l) h

-- of triangles that W-209 writes: all coordinates are binary32 values, and the count is of 32 bits
pub read_back : (l : List Triangle) → narrow_points (corners l) ≡ true → length l < 2 ^ 32 → stl_triangles (stl_of l) ≡ l
unfolding stl_triangles
read_back l h few = rw (count-back l few) (rest ∙ triangles-back l h)
  where
    rest : triangles_in (length l) (drop 84 (stl_of l)) ≡ triangles_in (length l) (triangles_bytes l)
    rest = unfold stl_of little in refl

pub length_back : (l : List Triangle) → length l < 2 ^ 32 → length_fits (stl_of l) ≡ true
unfolding length_fits
length_back l few = rw (count-back l few) (eq-eqb (length (stl_of l)) (84 + 50 * length l) (stl-length l))
