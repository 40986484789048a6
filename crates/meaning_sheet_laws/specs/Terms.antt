-- The words of the statements, as definitions. Assumes nothing.
use Rattle.std.specs.Prelude.{ℕ, zero, suc, ◌≡◌, Bool, true, ◌&&◌, List, [], ◌∷◌, ◌++◌, ℤ, pos, ◌+ℤ◌}
use Rattle.std.specs.Int.Signed.{lt_z, le_z}
use Rattle.meaning.specs.Model.{Model}
use Rattle.meaning.specs.Offices.{body_for}
use Rattle.meaning_sheets.specs.Sheets.{Stone, Sheet, stone_of, take_refusal, sheet_after, Ask}

abbrev pub listed_where_taken : ℕ → Stone → List Stone → List Stone
listed_where_taken zero s l = s ∷ l
listed_where_taken (suc n) s l = l

-- the stones of the asks that are not refused, in their order
unfoldable pub taken_stones : Model → List Ask → Sheet → List Stone
taken_stones m [] h = []
taken_stones m (a ∷ l) h =
    listed_where_taken (take_refusal m a.office a.body h) (stone_of m (body_for m a.office a.body))
    (taken_stones m l (sheet_after m a.office a.body h))

unfoldable pub sum_of : List Stone → ℤ
sum_of [] = pos 0
sum_of (s ∷ l) = s.number +ℤ sum_of l

unfoldable pub all_stones : (Stone → Bool) → List Stone → Bool
all_stones p [] = true
all_stones p (s ∷ l) = p s && all_stones p l

abbrev pub smaller : Stone → Stone → Bool
smaller g t = lt_z t.number g.number

abbrev pub not_larger : Stone → Stone → Bool
not_larger g t = le_z t.number g.number

-- g is a stone of the list, none of the list is larger, and each in front of it is smaller: "among equals the largest is the first met"
pub record FirstGreatest (g : Stone) (l : List Stone) : Type 0 where
  pub front : List Stone
  pub back : List Stone
  pub listed : l ≡ front ++ (g ∷ back)
  pub front-smaller : all_stones (smaller g) front ≡ true
  pub none-larger : all_stones (not_larger g) l ≡ true
