-- The theorems of specs/Areas.antt that rest on those of specs/ that the edits of must-fail/ make fail. Assumes nothing.
use Rattle.std.proofs.Common.{arith, sym, ap, ◌∙◌}
use Rattle.std.specs.Prelude.{◌≡◌, List, [], ◌∷◌, ◌++◌, ℤ, pos, ◌+ℤ◌, ◌-ℤ◌}
use Rattle.std.proofs.Math.Path.{refl}
use Rattle.std.proofs.Math.IntN.{+ℤ_idr}
use Rattle.float_values.specs.Laws.Pairs.{over, under}
use Rattle.float_values.specs.Laws.Integers.{sum-parts, diff-parts, same_parts}
use Rattle.meaning_slabs.specs.Slabs.{steps, closed, Spot, strip, sumℤ, loop_area}
use Rattle.meaning_slab_areas.specs.Usual.{crossed, shoelace, Straight}
use Rattle.meaning_slab_areas.specs.Areas.{own, one}

-- a way from p to z
along : (p : Spot) (l : List Spot) (z : Spot) → Straight (p ∷ (l ++ (z ∷ [])))
    → sumℤ (steps strip (p ∷ (l ++ (z ∷ [])))) +ℤ sumℤ (steps strip (p ∷ (l ++ (z ∷ [])))) ≡ sumℤ (steps crossed (p ∷ (l ++ (z ∷ [])))) +ℤ (own z -ℤ own p)
unfolding steps sumℤ
along p [] z s =
    ap (λ (t : ℤ). t +ℤ t) (+ℤ_idr (strip p z)) ∙ one p z s.0 ∙ ap (λ (t : ℤ). t +ℤ (own z -ℤ own p)) (sym (+ℤ_idr (crossed p z)))
along p (q ∷ l) z s = joined-up (strip p q) (sumℤ (steps strip (q ∷ (l ++ (z ∷ []))))) (crossed p q) (sumℤ (steps crossed (q ∷ (l ++ (z ∷ []))))) (own p) (own q) (own z) (one p q s.0) (along q l z s.1)
  where
    joined-up : (S T C D P Q Z : ℤ) → S +ℤ S ≡ C +ℤ (Q -ℤ P) → T +ℤ T ≡ D +ℤ (Z -ℤ Q) → (S +ℤ T) +ℤ (S +ℤ T) ≡ (C +ℤ D) +ℤ (Z -ℤ P)
    joined-up S T C D P Q Z e f =
        same_parts ((S +ℤ T) +ℤ (S +ℤ T)) ((C +ℤ D) +ℤ (Z -ℤ P))
        (omega (
          arith,
          sum-parts S T,
          sum-parts (S +ℤ T) (S +ℤ T),
          sum-parts S S,
          sum-parts T T,
          diff-parts Q P,
          diff-parts Z Q,
          diff-parts Z P,
          sum-parts C (Q -ℤ P),
          sum-parts D (Z -ℤ Q),
          sum-parts C D,
          sum-parts (C +ℤ D) (Z -ℤ P),
          ap over e,
          ap under e,
          ap over f,
          ap under f,
        ))

-- "the signed area of its loop": twice it is the usual sum
pub half-of-the-shoelace : (l : List Spot) → Straight (closed l) → loop_area l +ℤ loop_area l ≡ shoelace l
unfolding loop_area shoelace
half-of-the-shoelace [] s = unfold steps sumℤ in refl
half-of-the-shoelace (p ∷ l) s =
    along p l p s ∙ ap (λ (t : ℤ). sumℤ (steps crossed (p ∷ (l ++ (p ∷ [])))) +ℤ t) (same_parts (own p -ℤ own p) (pos 0) (omega (arith, diff-parts (own p) (own p)))) ∙ +ℤ_idr (sumℤ (steps crossed (p ∷ (l ++ (p ∷ [])))))
