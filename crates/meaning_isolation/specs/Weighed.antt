-- All that a sheet asks of a body's sides, in two models; and the sheet behind what an office takes in, where it is told the same stones (W-201). Assumes nothing.
use Prim.Native.Nat.{ℕ, zero, suc}
use Rattle.std.specs.Prelude.{◌≡◌}
use Rattle.std.proofs.Math.Path.{refl, ap}
use Rattle.std.proofs.Common.{◌∙◌}
use mathlib.Core.List.{[], List, ◌∷◌}
use Rattle.std.proofs.Math.Dec.{ltb}
use Rattle.geom_lines_planes.specs.Refuse.{◌unless◌, ◌then◌}
use Rattle.meaning.specs.Model.{Model}
use Rattle.meaning.specs.Inquire.{Side}
use Rattle.meaning.specs.Offices.{office_refusal, body_for}
use Rattle.meaning_sheets.specs.Sheets.{Sheet, whole_sum, grid_sides, triangles, stone_refusal, with_stone, sheet_readable, take_refusal, stone_of, where_taken, sheet_after, after_takes}
use Rattle.meaning_list_laws.specs.Tests.{then-zero}
use Rattle.meaning_isolation.specs.Laws.{answered-number, answered-value}
use Rattle.meaning_isolation.specs.Told.{body_stone, asked_by}

-- all that a sheet asks of the sides k in m, and of the sides l in n
pub record SameWeight (m n : Model) (k l : List Side) : Type 0 where
  pub grid : grid_sides m k ≡ grid_sides n l
  pub fans : triangles m k ≡ triangles n l
  pub sum : whole_sum m k ≡ whole_sum n l

-- ---- the sheet behind what an office takes in, where it is told the same stones

module _ (m n : Model) (b c : ℕ) (e : body_stone m b ≡ body_stone n c) where
  pub told-number : stone_refusal m b ≡ stone_refusal n c
  told-number = answered-number (stone_refusal m b) (stone_refusal n c) (stone_of m b) (stone_of n c) e

  pub told-stone : stone_refusal m b ≡ 0 → stone_of m b ≡ stone_of n c
  told-stone = answered-value (stone_refusal m b) (stone_refusal n c) (stone_of m b) (stone_of n c) e

module _ (m n : Model) (o b : ℕ) (h : Sheet) (e : body_stone m (body_for m o b) ≡ body_stone n (body_for n o b)) where
  pub take_same : take_refusal m o b h ≡ take_refusal n o b h
  unfolding take_refusal
  take_same = ap (λ k. 9 unless sheet_readable h then office_refusal o then k then 8 unless ltb h.stones 65536) (told-number m n (body_for m o b) (body_for n o b) e)

  stone-given : take_refusal m o b h ≡ 0 → stone_refusal m (body_for m o b) ≡ 0
  unfolding take_refusal
  stone-given z = (then-zero (stone_refusal m (body_for m o b)) _ (then-zero (office_refusal o) _ (then-zero (9 unless sheet_readable h) _ z).1).1).0

  pub sheet-same : sheet_after m o b h ≡ sheet_after n o b h
  unfolding sheet_after
  sheet-same = by (take_refusal m o b h) refl ∙ ap (λ k. where_taken k h (with_stone h (stone_of n (body_for n o b)))) take_same
    where
      by : (k : ℕ) → take_refusal m o b h ≡ k → where_taken k h (with_stone h (stone_of m (body_for m o b))) ≡ where_taken k h (with_stone h (stone_of n (body_for n o b)))
      by zero z = ap (with_stone h) (told-stone m n (body_for m o b) (body_for n o b) e (stone-given z))
      by (suc k) z = refl

pub takes_same : (m n : Model) (o : ℕ) → ((b : ℕ) → body_stone m (body_for m o b) ≡ body_stone n (body_for n o b)) → (l : List ℕ) (h : Sheet) → after_takes m (asked_by o l) h ≡ after_takes n (asked_by o l) h
unfolding after_takes
takes_same m n o e [] h = refl
takes_same m n o e (b ∷ l) h = takes_same m n o e l (sheet_after m o b h) ∙ ap (after_takes n (asked_by o l)) (sheet-same m n o b h (e b))
