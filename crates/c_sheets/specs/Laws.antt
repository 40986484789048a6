-- That the slots keep a sheet. Assumes nothing.
use Rattle.std.specs.Prelude.{ℕ, ◌≡◌, refl, [], ◌∷◌}
use Rattle.sheet_words.specs.declared.StoneSheet.{StoneSheet}
use Rattle.c_sheets.specs.Slots.{sheet_in, sheet_out}

-- a sheet that was written is the one that the next body is taken in on
pub in-out : (s : StoneSheet) → sheet_in (sheet_out s) ≡ s
unfolding sheet_in sheet_out
in-out s = refl

-- a sheet that was read and is written unchanged leaves the slots as they were
pub out-in : (a b c d e : ℕ) → sheet_out (sheet_in (a ∷ b ∷ c ∷ d ∷ e ∷ [])) ≡ (a ∷ b ∷ c ∷ d ∷ e ∷ [])
unfolding sheet_in sheet_out
out-in a b c d e = refl
