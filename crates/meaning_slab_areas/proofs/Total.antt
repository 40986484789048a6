-- The areas of all faces together: rests on `area-doubled` of proofs/Doubled.antt. Assumes nothing.
use Rattle.std.specs.Prelude.{ℕ, ◌+◌, ◌≡◌, refl, true, List, [], ◌∷◌, map, nat_abs}
use Rattle.std.proofs.Common.{arith}
use Rattle.meaning.specs.Lists.{member}
use Rattle.meaning.specs.Model.{Model}
use Rattle.meaning.specs.Walks.{face_walk}
use Rattle.meaning_list_laws.specs.Lists.{member-head, member-tail}
use Rattle.meaning_slabs.specs.Slabs.{verdict, accepted, face_area, areas, area_sum}
use Rattle.meaning_slab_areas.specs.Usual.{shoelace, corners_of}
use Rattle.meaning_slab_areas.proofs.Doubled.{area-doubled}

-- 3. "and in all": twice it is those sizes together
pub total-doubled : (m : Model) (b : ℕ) → verdict m b ≡ accepted
    → area_sum (areas m b) + area_sum (areas m b) ≡ area_sum (map (λ f. nat_abs (shoelace (corners_of m f))) (face_walk m b))
unfolding areas area_sum
total-doubled m b e = added (face_walk m b) (area-doubled m b e)
  where
    added : (l : List ℕ) → ((f : ℕ) → member f l ≡ true → face_area m f + face_area m f ≡ nat_abs (shoelace (corners_of m f)))
        → area_sum (map (face_area m) l) + area_sum (map (face_area m) l) ≡ area_sum (map (λ f. nat_abs (shoelace (corners_of m f))) l)
    added [] h = refl
    added (f ∷ l) h = omega (arith, h f (member-head f l), added l (λ g q. h g (member-tail g f l q)))
