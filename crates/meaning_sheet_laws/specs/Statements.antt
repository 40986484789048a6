-- What holds of every stone sheet and every refused take (W-201, whose words are quoted). Assumes nothing.
use Rattle.std.specs.Prelude.{ℕ, suc, ◌*◌, ◌^◌, ◌≤◌, ◌≡◌, refl, true, nat_abs}
use Rattle.std.proofs.Common.{arith}
use Rattle.meaning.specs.Model.{Model}
use Rattle.meaning_sheets.specs.Sheets.{Sheet, new_sheet, sheet_readable, take_refusal, sheet_after}
use Rattle.meaning_sheet_laws.specs.Takes.{readable-means}

-- 1. What was taken never makes a sheet unreadable (proofs/Statements.antt), and the new sheet is readable
pub new-readable : sheet_readable new_sheet ≡ true
unfolding sheet_readable
new-readable = refl

-- 2. No total outgrows its two words: 65,536 stones of at most 3·2^60 each
pub total_size : (h : Sheet) → sheet_readable h ≡ true → nat_abs h.total ≤ 3 * 2 ^ 76
total_size h r = omega (arith, readable-means h r)

-- 3. "A refused body leaves the sheet as found"
pub refused-changes-nothing : (m : Model) (o b : ℕ) (h : Sheet) (n : ℕ) → take_refusal m o b h ≡ suc n → sheet_after m o b h ≡ h
unfolding sheet_after
refused-changes-nothing m o b h n e = rw e
