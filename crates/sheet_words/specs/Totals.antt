-- The two words of a total. Definitions only.
use Rattle.std.specs.Prelude.{◌/◌, ◌%◌, ◌^◌, ℤ}
use Rattle.sheet_words.specs.Words.{as_word}
use Rattle.sheet_words.specs.declared.Total.{Total}

unfoldable pub words_of_total : ℤ → Total
words_of_total z = record { low = as_word (2 ^ 127) z % 2 ^ 64; high = as_word (2 ^ 127) z / 2 ^ 64 }
