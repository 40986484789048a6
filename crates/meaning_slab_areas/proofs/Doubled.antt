-- A face's area is the size of the signed area of its loop: rests on `signed-area-doubled` of proofs/Statements.antt. Assumes nothing.
use Rattle.std.specs.Prelude.{ℕ, ◌+◌, ◌≡◌, true, ℤ, pos, negsuc, nat_abs, ◌+ℤ◌}
use Rattle.std.proofs.Common.{arith, sym, ap, ◌∙◌}
use Rattle.meaning.specs.Lists.{member}
use Rattle.meaning.specs.Model.{Model}
use Rattle.meaning.specs.Walks.{face_walk}
use Rattle.meaning_slabs.specs.Slabs.{verdict, accepted, loop_area, face_area}
use Rattle.meaning_slab_areas.specs.Usual.{shoelace, corners_of}
use Rattle.meaning_slab_areas.proofs.Statements.{signed-area-doubled}

-- 2. "a face's area is the size of" it: twice it is the size of that sum
pub area-doubled : (m : Model) (b : ℕ) → verdict m b ≡ accepted → (f : ℕ) → member f (face_walk m b) ≡ true
    → face_area m f + face_area m f ≡ nat_abs (shoelace (corners_of m f))
unfolding face_area
area-doubled m b e f h = sym (size-doubled (loop_area (corners_of m f))) ∙ ap nat_abs (signed-area-doubled m b e f h)
  where
    size-doubled : (z : ℤ) → nat_abs (z +ℤ z) ≡ nat_abs z + nat_abs z
    size-doubled (pos n) = omega arith
    size-doubled (negsuc n) = omega arith
