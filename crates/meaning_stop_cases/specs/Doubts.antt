-- What is unchecked of the trial stone where a measurement is in doubt, computed. Assumes nothing.
-- A doubt is five words: the query (1 curve, 2 surface, 3 off curve, 4 sample, 5 ring) and the sample's number, the record's class and id, the fin.
use Rattle.std.specs.Prelude.{ℕ, ◌≡◌, refl, true, List, [], ◌∷◌, map}
use Rattle.std.proofs.Math.Option.{some}
use Rattle.geom_lines_planes.specs.declared.tolerance.Tolerance.TheVariants.{Own}
use Rattle.geom_carriers.specs.declared.Carrier.TheVariants as Carriers
use Rattle.meaning.specs.Floats.{◌/ᶠ◌, float_of}
use Rattle.meaning.specs.Model.{Edge, Model}
use Rattle.meaning.specs.Refuse.{Answer, refused, given}
use Rattle.meaning.specs.Faults.{report_of, findings, sawing}
use Rattle.meaning.specs.Stone.{at, stone}
use Rattle.meaning.specs.Blade.{quarter, with_vertex, with_edge, with_surface}
use Rattle.meaning.specs.Computing.{computing}
use Rattle.meaning_doubts.specs.Doubts.{Doubt, doubts, office_doubts, kept_doubts, doubt_words}
use Rattle.meaning_doubts.specs.Opened.{opened}

abbrev told : Model → List (List ℕ)
told m = map doubt_words (doubts m sawing 0)

sound : told stone ≡ []
unfolding computing opened
sound = refl

-- the corner 0 half a unit off the lines of the edges 0 and 8, just at the sum of both tolerances: of each fin of theirs one doubt
abbrev tolerant : ℕ → ℕ → List ℕ → Edge
tolerant e v l = record { fins = l; start = some 0; end = some v; curve = some e; tolerance = Own quarter }

abbrev doubtful : Model
doubtful =
    with_edge 0 (tolerant 0 1 (3 ∷ 8 ∷ []))
    (with_edge 8 (tolerant 8 4 (11 ∷ 16 ∷ [])) (with_vertex 0 (record { point = at (float_of 0) (float_of 1 /ᶠ float_of 2) (float_of 0); tolerance = Own quarter }) stone))

off-curve : told doubtful ≡ (3 ∷ 0 ∷ 7 ∷ 0 ∷ 3 ∷ []) ∷ (3 ∷ 0 ∷ 7 ∷ 0 ∷ 8 ∷ []) ∷ (3 ∷ 0 ∷ 7 ∷ 0 ∷ 11 ∷ []) ∷ (3 ∷ 0 ∷ 7 ∷ 0 ∷ 16 ∷ []) ∷ []
unfolding computing opened
off-curve = refl

-- the top is "other": of each of its four fins both ends and three samples
abbrev covered : Model
covered = with_surface 1 Carriers.Other stone

abbrev along : ℕ → ℕ → ℕ → ℕ → List (List ℕ) → List (List ℕ)
along i e v w l =
    (2 ∷ 0 ∷ 7 ∷ v ∷ i ∷ []) ∷ (2 ∷ 0 ∷ 7 ∷ w ∷ i ∷ []) ∷ (4 ∷ 1 ∷ 6 ∷ e ∷ i ∷ []) ∷ (4 ∷ 2 ∷ 6 ∷ e ∷ i ∷ []) ∷ (4 ∷ 3 ∷ 6 ∷ e ∷ i ∷ []) ∷ l

top : told covered ≡ along 4 2 4 5 (along 5 7 5 7 (along 6 3 6 7 (along 7 6 4 6 [])))
unfolding computing opened
top = refl

-- as many as the report says
unchecked : map (λ m. (report_of (findings m sawing 0)).unchecked) (stone ∷ doubtful ∷ covered ∷ []) ≡ 0 ∷ 4 ∷ 20 ∷ []
unfolding computing
unchecked = refl

-- a list of three keeps the first three
kept-three : map doubt_words (kept_doubts 3 (doubts doubtful sawing 0)) ≡ (3 ∷ 0 ∷ 7 ∷ 0 ∷ 3 ∷ []) ∷ (3 ∷ 0 ∷ 7 ∷ 0 ∷ 8 ∷ []) ∷ (3 ∷ 0 ∷ 7 ∷ 0 ∷ 11 ∷ []) ∷ []
unfolding computing opened
kept-three = refl

-- an office above 1; samples; the other office's body, and one that is missing
abbrev asked : ℕ → ℕ → ℕ → Answer (List Doubt)
asked o n b = office_doubts stone o (record { geometry = true; edge_samples = n }) b

refusals : asked 2 3 0 ∷ asked 0 256 0 ∷ asked 1 3 0 ∷ asked 0 3 1 ∷ asked 0 3 0 ∷ [] ≡ refused 1 ∷ refused 1 ∷ refused 2 ∷ refused 2 ∷ given [] ∷ []
unfolding computing opened
refusals = refl
