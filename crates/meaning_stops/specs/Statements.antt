-- What is told of a refusal is the call's own: its number is what the call refuses with, it is `accepted` exactly where the call is, and it is the first in the order of the tests, for all models. Assumes nothing.
use Rattle.std.specs.Prelude.{ℕ, suc, ◌≡◌, refl, List, [], ◌∷◌, map, Float}
use Rattle.std.proofs.Common.{ap}
use Rattle.geom_lines_planes.specs.Refuse.{◌then◌}
use Rattle.meaning.specs.Model.{Model, Limits}
use Rattle.meaning.specs.Refuse.{first_refusal}
use Rattle.meaning.specs.Offices.{office_refusal}
use Rattle.meaning_stops.specs.Stops.{nothing, part, Row, ◌∶◌, refusal_of, Stop, accepted}
use Rattle.meaning_stops.specs.Splits.{split_stops, bounds_stops}
use Rattle.meaning_stops.specs.Laws.{Stopped}
use Rattle.meaning_stops.specs.Numbers.{one}

-- what is told of a call with the refusal n, whose tests are these rows
pub record Tells (rows : List Row) (s : Stop) (n : ℕ) : Type 0 where
  -- "its row's number is exactly what .. refuses with"
  pub number : s.number ≡ n
  -- "it is 'accepted' exactly where .. is"
  pub accepted-where : n ≡ 0 → s ≡ accepted
  pub accepted-only : s ≡ accepted → n ≡ 0
  -- "the entity is the first in the order of the tests": the rows before the stop's pass, and the parts before it in its row
  pub first : (k : ℕ) → n ≡ suc k → Stopped rows s

-- ---- "Why is this split refused?"

-- "for an office": 1 for an office above 1 in row 0, then the thirteen rows
abbrev pub with_office : ℕ → List Row → List Row
with_office o l = (0 ∶ part 1 (office_refusal o) nothing nothing ∷ []) ∷ l

pub office-number : (o : ℕ) (l : List Row) (n : ℕ) → first_refusal (map refusal_of l) ≡ n → first_refusal (map refusal_of (with_office o l)) ≡ (office_refusal o then n)
unfolding first_refusal refusal_of
office-number o l n e = rw (one (office_refusal o)) (ap (λ (k : ℕ). office_refusal o then k) e)

pub rows-in-order : (x : Limits) (m : Model) (asked e : ℕ) (t : Float)
    → map (λ r. r.row) (split_stops x m asked e t) ≡ 1 ∷ 2 ∷ 3 ∷ 4 ∷ 5 ∷ 6 ∷ 7 ∷ 8 ∷ 9 ∷ 10 ∷ 11 ∷ 12 ∷ 13 ∷ []
unfolding split_stops
rows-in-order x m asked e t = refl

pub bounds-in-order : (m : Model) (e : ℕ) → map (λ r. r.row) (bounds_stops m e) ≡ 2 ∷ 4 ∷ 5 ∷ 6 ∷ 7 ∷ 8 ∷ []
unfolding bounds_stops
bounds-in-order m e = refl
