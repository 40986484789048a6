-- Calls of `split_line_edge` one after the other, each of an office (W-206, "splits by both offices in any order"), and the rows of tests of one. Definitions only.
use Rattle.std.specs.Prelude.{ℕ, cond, not, List, [], ◌∷◌, eqb, leb, Float}
use Rattle.meaning.specs.Split.{Cut}
use Rattle.meaning.specs.Offices.{edge_for, OfficeCut}
use Rattle.meaning_split_laws.specs.Rows.{Step, ◌when◌}
use Rattle.meaning_office_laws.specs.Terms.{office_rows}
use Rattle.memory_layout.specs.Decode.{decode}
use Rattle.memory_layout.specs.Readable.{readable}
use Rattle.memory_layout.specs.Limits.{limits}
use Rattle.split_place.specs.SplitNumber.{office_split_number}
use Rattle.split_edge.specs.After.{office_split_words, office_split_reals}

-- each call has the words and the floats that the one before it left, whoever made it and whatever it answered
unfoldable pub office_calls_words : List ℕ → List ℕ → List Float → List OfficeCut → List ℕ
office_calls_words room w x [] = w
office_calls_words room w x (c ∷ l) =
    office_calls_words room (office_split_words room w x c.office c.edge c.fraction) (office_split_reals room w x c.office c.edge c.fraction) l

unfoldable pub office_calls_reals : List ℕ → List ℕ → List Float → List OfficeCut → List Float
office_calls_reals room w x [] = x
office_calls_reals room w x (c ∷ l) =
    office_calls_reals room (office_split_words room w x c.office c.edge c.fraction) (office_split_reals room w x c.office c.edge c.fraction) l

-- the edges of the accepted ones, in their order
unfoldable pub office_calls_edges : List ℕ → List ℕ → List Float → List OfficeCut → List ℕ
office_calls_edges room w x [] = []
office_calls_edges room w x (c ∷ l) =
    let rest = office_calls_edges room (office_split_words room w x c.office c.edge c.fraction) (office_split_reals room w x c.office c.edge c.fraction) l in
    cond (eqb (office_split_number room w x c.office c.edge c.fraction) 0) (c.edge ∷ rest) rest

-- the same calls without offices: those of an office above 1 left out, the others of what the edge is for the office
unfoldable pub heard : List ℕ → List ℕ → List Float → List OfficeCut → List Cut
heard room w x [] = []
heard room w x (c ∷ l) =
    let rest = heard room (office_split_words room w x c.office c.edge c.fraction) (office_split_reals room w x c.office c.edge c.fraction) l in
    cond (leb c.office 1) (record { edge = edge_for (decode room w x) c.office c.edge; fraction = c.fraction } ∷ rest) rest

-- 01, "Every call tests 9 first"; then the office's row and the thirteen of the split
abbrev pub office_call_rows : List ℕ → List ℕ → List Float → ℕ → ℕ → Float → List (List Step)
office_call_rows room w x o e t = (9 when not (readable room w x) ∷ []) ∷ office_rows (limits room) (decode room w x) o e t
