-- With room, whether a body is taken does not depend on the sheet: this rests on that a readable sheet stays readable. Assumes nothing.
use Rattle.std.specs.Prelude.{ℕ, zero, suc, ◌+◌, ◌≤◌, ◌≡◌, refl, true, length}
use Rattle.std.proofs.Common.{arith, ap₂, ◌∙◌}
use mathlib.Core.List.{List, [], ◌∷◌, filter_map}
use Rattle.std.proofs.Math.Option.{Option-elim}
use Rattle.meaning.specs.Model.{Model}
use Rattle.meaning.specs.Offices.{body_for}
use Rattle.meaning_sheets.specs.Sheets.{Stone, Sheet, sheet_readable, stone_of, sheet_after, Ask}
use Rattle.meaning_sheet_laws.specs.Terms.{listed_where_taken, taken_stones}
use Rattle.meaning_sheet_laws.specs.Takes.{own_refusal, own-refusal, one_more}
use Rattle.meaning_sheet_laws.proofs.Takes.{stays-readable}
use Rattle.meaning_sheet_laws.specs.Orders.{stone_where, asked_stone}

pub taken-asked : (m : Model) (l : List Ask) (h : Sheet) → sheet_readable h ≡ true → h.stones + length l ≤ 65536 → taken_stones m l h ≡ filter_map (asked_stone m) l
unfolding taken_stones asked_stone filter_map Option-elim
taken-asked m [] h r q = refl
taken-asked m (a ∷ l) h r q =
    ap₂ (λ (n : ℕ) (k : List Stone). listed_where_taken n s k) (own-refusal m a.office a.body h r (omega arith))
    (taken-asked m l (sheet_after m a.office a.body h) (stays-readable m a.office a.body h r) (omega (arith, one_more m a.office a.body h)))
    ∙ by (own_refusal m a.office a.body) (filter_map (asked_stone m) l)
  where
    s : Stone
    s = stone_of m (body_for m a.office a.body)

    by : (n : ℕ) (k : List Stone) → listed_where_taken n s k ≡ Option-elim (stone_where n s) k (λ (t : Stone). t ∷ k)
    by zero k = refl
    by (suc n) k = refl
