-- The stone sheet in five words (W-201). Definitions only.
use Rattle.std.specs.Prelude.{ℕ, suc, ◌+◌, ◌-◌, ◌*◌, ◌/◌, ◌%◌, ◌^◌, cond, ℤ, pos, negsuc, ◌==◌, nat_lt}
use Rattle.std.proofs.Math.Option.{Option, none, some}
use Rattle.meaning_sheets.specs.Sheets.{Stone, Sheet}
use Rattle.sheet_words.specs.declared.StoneSheet.{StoneSheet}

-- two's complement: of H + H numbers, those from H on are the negative ones
unfoldable pub as_signed : ℕ → ℕ → ℤ
as_signed H w = cond (nat_lt w H) (pos w) (negsuc (H + H - suc w))

unfoldable pub as_word : ℕ → ℤ → ℕ
as_word H (pos n) = n
as_word H (negsuc n) = H + H - suc n

-- "the exact total in two words", the lower one first; "the largest stone so far (signed; none at first)": none where there is no stone
unfoldable pub sheet_of : StoneSheet → Sheet
sheet_of s =
    record {
      stones = s.stones;
      total = as_signed (2 ^ 127) (s.high * 2 ^ 64 + s.low);
      largest = cond (s.stones == 0) none (some (record { body = s.body; number = as_signed (2 ^ 63) s.largest }));
    }

-- the words of a sheet; without a largest stone they are 0
abbrev pub body_of : Option Stone → ℕ
body_of none = 0
body_of (some t) = t.body

abbrev pub number_of : Option Stone → ℕ
number_of none = 0
number_of (some t) = as_word (2 ^ 63) t.number

unfoldable pub words_of_sheet : Sheet → StoneSheet
words_of_sheet h =
    record {
      stones = h.stones;
      low = as_word (2 ^ 127) h.total % 2 ^ 64;
      high = as_word (2 ^ 127) h.total / 2 ^ 64;
      body = body_of h.largest;
      largest = number_of h.largest;
    }
