-- The numbers, floats and lists of a record by their places, and what is written for them again: for each table. No reader of a public promise needs this file. Assumes nothing.
use Rattle.std.specs.Prelude.{ℕ, zero, suc, ◌+◌, ◌*◌, ◌≡◌, refl, List, [], ◌∷◌, map, length, drop}
use Rattle.std.proofs.Common.{ap, ◌∙◌, drop-drop}
use Rattle.std.proofs.lemmas.List.{length-map}
use Rattle.std.specs.Float.{binary64}
use Rattle.std.specs.Float.Ieee.{of_bits}
use Rattle.memory_layout.specs.Layout.{word}
use Rattle.image_format.specs.Bytes.{number, lists_in}
use Rattle.image_format.specs.Fields.{Fields, word_counts, float_counts, list_counts, office_in, fields_in}
use Rattle.image_laws.specs.Numbers.{numbers_in, words-in, floats-in}
use Rattle.image_record_test.specs.Parts.{fixed_size}

-- n numbers of w bytes each, from the place q on
unfoldable pub numbers_at : ℕ → ℕ → ℕ → List ℕ → List ℕ
numbers_at w zero q s = []
numbers_at w (suc n) q s = number w (drop q s) ∷ numbers_at w n (q + w) s

pub numbers-at : (w n q : ℕ) (s : List ℕ) → numbers_in w n (drop q s) ≡ numbers_at w n q s
unfolding numbers_at numbers_in
numbers-at w zero q s = refl
numbers-at w (suc n) q s = ap (λ (l : List ℕ). number w (drop q s) ∷ l) (ap (numbers_in w n) (drop-drop w q s) ∙ numbers-at w n (q + w) s)

-- the fields, by their places
unfoldable pub fields_here : ℕ → List ℕ → Fields
fields_here k s =
    record {
      office = office_in k (number 2 s);
      words = numbers_at 4 (word word_counts k) 2 s;
      floats = map (of_bits binary64) (numbers_at 8 (word float_counts k) (2 + 4 * word word_counts k) s);
      lists = lists_in (word list_counts k) (drop (fixed_size k) s);
    }

pub fields-here : (k : ℕ) (s : List ℕ) → fields_in k s ≡ fields_here k s
unfolding fields_in fields_here
fields-here k s =
    rw (
      words-in (word word_counts k) (drop 2 s),
      numbers-at 4 (word word_counts k) 2 s,
      floats-in (word float_counts k) (drop (2 + 4 * word word_counts k) s),
      numbers-at 8 (word float_counts k) (2 + 4 * word word_counts k) s,
    )

pub numbers_at-long : (w n q : ℕ) (s : List ℕ) → length (numbers_at w n q s) ≡ n
unfolding numbers_at
numbers_at-long w zero q s = refl
numbers_at-long w (suc n) q s = ap suc (numbers_at-long w n (q + w) s)

pub here-words : (k : ℕ) (s : List ℕ) → length (fields_here k s).words ≡ word word_counts k
unfolding fields_here
here-words k s = numbers_at-long 4 (word word_counts k) 2 s

pub here-floats : (k : ℕ) (s : List ℕ) → length (fields_here k s).floats ≡ word float_counts k
unfolding fields_here
here-floats k s = length-map (numbers_at 8 (word float_counts k) (2 + 4 * word word_counts k) s) (of_bits binary64) ∙ numbers_at-long 8 (word float_counts k) (2 + 4 * word word_counts k) s
