-- The statement on one face of this crate, which rests on proofs/Areas.antt and proofs/Faces.antt. Assumes nothing.
-- "the exact area in square sixteenths, face by face and in all; a face's area is the size of the signed area of its loop" (W-212), of every accepted body. Assumes nothing.
use Rattle.std.specs.Prelude.{ℕ, ◌+◌, ◌≡◌, true, ℤ, ◌+ℤ◌}
use Rattle.meaning.specs.Lists.{member}
use Rattle.meaning.specs.Model.{Model}
use Rattle.meaning.specs.Walks.{face_walk}
use Rattle.meaning_slabs.specs.Slabs.{verdict, accepted, loop_area}
use Rattle.meaning_slab_laws.specs.Verdicts.{accepted-holds}
use Rattle.meaning_slab_areas.specs.Usual.{shoelace, corners_of}
use Rattle.meaning_slab_areas.proofs.Areas.{half-of-the-shoelace}
use Rattle.meaning_slab_areas.proofs.Faces.{face-straight}

-- 1. "the signed area of its loop": twice it is the usual sum over the face's corners
pub signed-area-doubled : (m : Model) (b : ℕ) → verdict m b ≡ accepted → (f : ℕ) → member f (face_walk m b) ≡ true
    → loop_area (corners_of m f) +ℤ loop_area (corners_of m f) ≡ shoelace (corners_of m f)
signed-area-doubled m b e f h = half-of-the-shoelace (corners_of m f) (face-straight m b (accepted-holds m b e) f h)
