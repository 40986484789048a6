-- The theorem of specs/Numbers.antt that rests on `fin-eleventh`: the rows of a split are the tests of 01. Assumes nothing.
use Prim.Native.Nat.{ℕ}
use Rattle.std.specs.Prelude.{◌≡◌}
use Rattle.std.proofs.Math.Path.{refl, ap, ap₂}
use Rattle.std.proofs.Common.{◌∙◌}
use mathlib.Core.List.{List, [], ◌∷◌, map}
use Rattle.std.specs.Float.Ieee.{Float}
use Rattle.geom_lines_planes.specs.Refuse.{◌then◌}
use Rattle.meaning.specs.Lists.{member}
use Rattle.meaning.specs.Model.{Model, Limits, edge}
use Rattle.meaning.specs.Refuse.{◌if◌, first_refusal}
use Rattle.meaning.specs.Split.{test11-fins, split_tests}
use Rattle.meaning_stops.specs.Stops.{numbers, refusal_of}
use Rattle.meaning_stops.specs.Splits.{row11-fin, row11-fins, split_stops}
use Rattle.meaning_stops.specs.Laws.{parts-append}
use Rattle.meaning_stops.specs.Numbers.{fin-eleventh, third, fourth, fifth, sixth, seventh, eighth, twelfth, thirteenth, first, second, ninth, tenth}

module _ (m : Model) (e : ℕ) (t : Float) where
  eleventh : (seen l : List ℕ) → first_refusal (numbers (row11-fins m e t seen l)) ≡ test11-fins m e t seen l
  unfolding row11-fins test11-fins first_refusal
  eleventh seen [] = refl
  eleventh seen (i ∷ l) =
      ap (λ (n : ℕ). 1 if member i seen then n)
      (parts-append (row11-fin m e t i) (row11-fins m e t (i ∷ seen) l) ∙ ap₂ (λ (a b : ℕ). a then b) (fin-eleventh m e t i) (eleventh (i ∷ seen) l))

-- each row refuses what its test does, whatever id was asked about
pub rows-are-tests : (x : Limits) (m : Model) (asked e : ℕ) (t : Float) → map refusal_of (split_stops x m asked e t) ≡ split_tests x m e t
unfolding split_stops refusal_of
rows-are-tests x m asked e t =
    rw (first m e t asked, second m e t asked, third x m e, fourth x m e, fifth x m e, sixth x m e, seventh x m e, eighth x m e, ninth m e t, tenth m e t, eleventh m e t [] (edge m e).fins, twelfth x m e, thirteenth x m e)
