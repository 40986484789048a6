-- Lengths of the bytes, and one side more. Assumes nothing.
use Rattle.std.specs.Prelude.{◌+◌, ◌-◌, ◌*◌, ◌≡◌, refl, ◌&&◌, List, [], ◌∷◌, ◌++◌, length}
use Rattle.std.proofs.Common.{arith, sym, ap, ◌∙◌, append_assoc, length-append}
use Rattle.float_vectors.specs.declared.vector.Point3.{Point3}
use Rattle.meaning.specs.Lists.{joined}
use Rattle.meaning.specs.Model.{Model}
use Rattle.meaning.specs.Inquire.{Side}
use Rattle.meaning_list_laws.specs.Tests.{and_assoc}
use Rattle.meaning_sheets.specs.Sheets.{side_points}
use Rattle.image_format.specs.Bytes.{little}
use Rattle.stl_format.specs.Stl.{Triangle, fan_triangles, polygon_triangles, side_triangles, triangles_of, triangle_bytes, triangles_bytes, stl_of, narrow_points, narrow_sides}

pub triangle-length : (t : Triangle) → length (triangle_bytes t) ≡ 50
unfolding triangle_bytes little joined
triangle-length t = refl

pub triangles-length : (l : List Triangle) → length (triangles_bytes l) ≡ 50 * length l
unfolding triangles_bytes
triangles-length [] = refl
triangles-length (t ∷ l) = let a = length-append (triangle_bytes t) (triangles_bytes l) in let b = triangle-length t in let c = triangles-length l in omega arith

pub stl-length : (l : List Triangle) → length (stl_of l) ≡ 84 + 50 * length l
unfolding stl_of little
stl-length l = let c = triangles-length l in omega arith

pub fan-length : (o : Point3) (l : List Point3) → length (fan_triangles o l) ≡ length l - 1
unfolding fan_triangles
fan-length o [] = refl
fan-length o (p ∷ []) = refl
fan-length o (p ∷ q ∷ l) = let r = fan-length o (q ∷ l) in omega arith

pub polygon-length : (l : List Point3) → length (polygon_triangles l) ≡ length l - 2
unfolding polygon_triangles
polygon-length [] = refl
polygon-length (o ∷ l) = let r = fan-length o l in omega arith

-- one part behind the other
pub triangles-both : (m : Model) (k l : List Side) → triangles_of m (k ++ l) ≡ triangles_of m k ++ triangles_of m l
unfolding triangles_of
triangles-both m [] l = refl
triangles-both m (s ∷ k) l = ap (λ t. side_triangles m s ++ t) (triangles-both m k l) ∙ sym (append_assoc (side_triangles m s) (triangles_of m k) (triangles_of m l))

pub narrow_both : (m : Model) (k l : List Side) → narrow_sides m (k ++ l) ≡ (narrow_sides m k && narrow_sides m l)
unfolding narrow_sides
narrow_both m [] l = refl
narrow_both m (s ∷ k) l = ap (λ t. narrow_points (side_points m s) && t) (narrow_both m k l) ∙ sym (and_assoc (narrow_points (side_points m s)) (narrow_sides m k) (narrow_sides m l))
