-- What the statements ask can be met: two blades, one of each office, and the same with the other's records changed (meaning_isolation/specs/TwoOffices.antt). Assumes nothing.
use Rattle.std.specs.Prelude.{◌≡◌, refl, [], ◌∷◌, map}
use Rattle.meaning.specs.Computing.{computing}
use Rattle.meaning_isolation.specs.TwoOffices.{other_blades}
use Rattle.meaning_stops.specs.Stops.{stop_words}
use Rattle.meaning_stops.specs.Bodies.{edges_stop}
use Rattle.meaning_stops.specs.Opened.{opened}

-- office 1 is told which shell of its body is missing, office 0 no more than the id that it asked about
other-blades-told : map (λ o. stop_words (edges_stop other_blades o 1)) (0 ∷ 1 ∷ []) ≡ (2 ∷ 1 ∷ 1 ∷ 0 ∷ 1 ∷ 10 ∷ 0 ∷ []) ∷ (2 ∷ 1 ∷ 3 ∷ 2 ∷ 7 ∷ 1 ∷ 1 ∷ []) ∷ []
unfolding computing opened
other-blades-told = refl
