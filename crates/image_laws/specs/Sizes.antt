-- The sizes of the format by table, held against those of the lent memory, and the counts by their places. Assumes nothing.
use Rattle.std.specs.Prelude.{ℕ, zero, suc, ◌+◌, ◌*◌, ◌≤◌, ◌<◌, ◌≡◌, refl, List, [], eqb, leb, length, get_or, drop}
use Rattle.std.proofs.Common.{arith, sym, ap, ◌∙◌, drop-drop, eqb-true, leb-true}
use Rattle.meaning.specs.Lists.{all_below}
use Rattle.meaning_list_laws.specs.Tests.{all_below-at}
use Rattle.memory_layout.specs.Layout.{word_strides, real_strides, word}
use Rattle.image_format.specs.Bytes.{number, words_in}
use Rattle.image_format.specs.Fields.{word_counts, float_counts, list_counts, list_places_of, fields_in}
use Rattle.image_format.specs.Image.{count_in}

pub numbers_fit : (k : ℕ) → k < 10 → word word_counts k ≤ word word_strides k
unfolding all_below
numbers_fit k h = leb-true (word word_counts k) (word word_strides k) (all_below-at (λ j. leb (word word_counts j) (word word_strides j)) 10 k refl h)

pub all-floats : (k : ℕ) → k < 10 → word real_strides k ≡ word float_counts k
unfolding all_below
all-floats k h = eqb-true (word real_strides k) (word float_counts k) (all_below-at (λ j. eqb (word real_strides j) (word float_counts j)) 10 k refl h)

pub places-many : (k : ℕ) → k < 10 → length (get_or list_places_of k []) ≡ word list_counts k
unfolding all_below
places-many k h =
    eqb-true (length (get_or list_places_of k [])) (word list_counts k) (all_below-at (λ j. eqb (length (get_or list_places_of j [])) (word list_counts j)) 10 k refl h)

word-at : (n j : ℕ) (s : List ℕ) → j < n → word (words_in n s) j ≡ number 4 (drop (4 * j) s)
unfolding words_in
word-at zero j s h = absurd (omega arith)
word-at (suc n) zero s h = refl
word-at (suc n) (suc j) s h =
    let e : 4 + 4 * j ≡ 4 * suc j = omega arith in
    word-at n j (drop 4 s) (omega arith) ∙ ap (number 4) (drop-drop (4 * j) 4 s ∙ ap (λ (k : ℕ). drop k s) e)

pub count_at : (b : List ℕ) (k : ℕ) → k < 10 → number 4 (drop (2 + 4 * k) b) ≡ count_in b k
unfolding count_in fields_in
count_at b k h = sym (word-at 10 k (drop 2 b) h ∙ ap (number 4) (drop-drop (4 * k) 2 b))
