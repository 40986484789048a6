-- That a readable sheet stays readable: this rests on the sizes. Assumes nothing.
use Prim.Native.Nat.{ℕ, zero, suc, ◌<◌}
use native.Mathlib.Omega.{arith}
use Rattle.std.specs.Prelude.{◌≡◌, true}
use Rattle.std.proofs.Math.Path.{refl}
use Rattle.meaning.specs.Model.{Model}
use Rattle.meaning.specs.Offices.{body_for}
use Rattle.meaning_sheets.specs.Sheets.{Stone, Sheet, with_stone, sheet_readable, stone_refusal, take_refusal, stone_of, where_taken, sheet_after}
use Rattle.meaning_sheet_laws.specs.Sizes.{size-sum}
use Rattle.meaning_sheet_laws.proofs.Sizes.{stone-taken}
use Rattle.meaning_sheet_laws.specs.Takes.{Readable, readable-means, readable-if, taken-means}

module _ (m : Model) (o b : ℕ) (h : Sheet) where
  pub stays-readable : sheet_readable h ≡ true → sheet_readable (sheet_after m o b h) ≡ true
  unfolding sheet_after with_stone
  stays-readable r = by (take_refusal m o b h) refl
    where
      s : Stone
      s = stone_of m (body_for m o b)

      added : stone_refusal m (body_for m o b) ≡ 0 → h.stones < 65536 → Readable h → Readable (with_stone h s)
      added z q p =
          record { few = q; total-small = omega (arith, p.total-small, size-sum h.total s.number, stone-taken m (body_for m o b) z) }

      by : (n : ℕ) → take_refusal m o b h ≡ n → sheet_readable (where_taken n h (with_stone h s)) ≡ true
      by zero z = readable-if (with_stone h s) (added (taken-means m o b h z).0 (taken-means m o b h z).1 (readable-means h r))
      by (suc n) z = r
