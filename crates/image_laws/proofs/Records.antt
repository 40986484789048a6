-- The theorems of specs/Records.antt that rest on numbers-read. Assumes nothing.
use Rattle.std.specs.Prelude.{ℕ, ◌+◌, ◌*◌, ◌≡◌, drop}
use Rattle.std.proofs.Common.{ap, ◌∙◌}
use mathlib.Core.List.{List, ◌++◌}
use Rattle.std.proofs.Math.Seq.{drop-append_seam}
use Rattle.memory_layout.specs.Layout.{word}
use Rattle.image_format.specs.Bytes.{words, floats, lists, words_in, floats_in, lists_in}
use Rattle.image_format.specs.Fields.{Fields, word_counts, float_counts, list_counts, record_image, office_in, fields_in, behind}
use Rattle.image_laws.proofs.Numbers.{words-read, floats-read, lists-read}
use Rattle.image_laws.specs.Records.{Fitting, from-words, from-floats, from-lists, record-mark}

module _ (k : ℕ) (f : Fields) (s : List ℕ) (fit : Fitting k f) where
  abbrev whole : List ℕ
  whole = record_image k f ++ s

  words_back : words_in (word word_counts k) (drop 2 whole) ≡ f.words
  words_back = rw (from-words k f s fit, ← fit.words) (words-read f.words _ fit.small)

  floats-back : floats_in (word float_counts k) (drop (2 + 4 * word word_counts k) whole) ≡ f.floats
  floats-back = rw (from-floats k f s fit, ← fit.floats) (floats-read f.floats _ fit.double)

  lists_back : lists_in (word list_counts k) (drop (2 + 4 * word word_counts k + 8 * word float_counts k) whole) ≡ f.lists
  lists_back = rw (from-lists k f s fit, ← fit.lists) (lists-read f.lists _ fit.short)

  pub fields_read : fields_in k (record_image k f ++ s) ≡ f
  unfolding fields_in
  fields_read = λ i. record { office = (ap (office_in k) (record-mark k f s fit) ∙ fit.mark.told) i; words = words_back i; floats = floats-back i; lists = lists_back i }

  pub behind-read : behind k (record_image k f ++ s) ≡ s
  unfolding behind
  behind-read = rw fields_read (drop-append_seam (record_image k f) s)
