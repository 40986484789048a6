-- That what the functions do on their way is what stands in the memory at the end. Assumes nothing.
use Prim.Native.Nat.{ℕ, zero, suc, ◌+◌, ◌-◌, ◌*◌, ◌≤◌, ◌<◌}
use Rattle.std.proofs.Common.{add_assoc, add-one, ◌∙◌, eqb-true, ne_eqb, leb-true, ltb-true}
use native.Mathlib.Omega.{arith}
use Rattle.std.specs.Prelude.{◌≡◌, Bool, true, ◌&&◌, eqb, leb, ltb, Float}
use Rattle.std.proofs.Math.Path.{refl, sym, ap, ap₂}
use mathlib.Core.List.{List, [], ◌∷◌, ◌++◌}
use Rattle.std.proofs.Math.ListN.{length, get_or, drop, length-drop}
use Rattle.std.proofs.Math.Seq.{drop-drop}
use Rattle.meaning.specs.Lists.{all_below}
use Rattle.meaning_list_laws.specs.Tests.{and_both, all_below-at}
use Rattle.memory_layout.specs.Names.{BODIES}
use Rattle.memory_layout.specs.Layout.{word_strides, real_strides, word, words_of}
use Rattle.memory_layout.specs.Laid.{office}
use Rattle.memory_writes.specs.Put.{over, put_words, put_reals}
use Rattle.memory_writes.specs.Over.{length_over, taken_back}
use Rattle.image_format.specs.Bytes.{number, words_in, floats_in, lists_in}
use Rattle.image_format.specs.Fields.{list_limits_of, PRECISION_RECORD, word_counts, list_counts, list_places_of, office_in, fields_in, behind}
use Rattle.image_format.specs.Image.{count_in, behind_records, table_bytes, fields_at}
use Rattle.image_laws.specs.Numbers.{length-words_in, flat}
use Rattle.image_laws.specs.Sizes.{all-floats, places-many}
use Rattle.image_record_test.specs.Good.{record_size}
use Rattle.image_record_test.specs.Parts.{fixed_size}
use Rattle.image_record_test.specs.Spelled.{within}
use Rattle.image_record_test.specs.Tested.{lists-size, limits-many, record-size}
use Rattle.image_loading.specs.Laid.{lists_laid, front_of, record_laid, records_laid, floats_laid, words_laid, reals_laid}
use Rattle.image_loading.specs.Facts.{Lies, Loadable}
use Rattle.image_loading.specs.Steps.{behind_list, list_over, behind_lists, lists_over, ListsLie, Stands, Reached, tables_laid, table_floats_laid}

-- ---- by table: the arrays of the code, and what has room in a record

abbrev pub ten_counts : List ℕ
ten_counts = 1 ∷ 2 ∷ 1 ∷ 7 ∷ 1 ∷ 4 ∷ 7 ∷ 1 ∷ 1 ∷ 1 ∷ []

pub its-count : (k : ℕ) → k < 10 → get_or ten_counts k 0 ≡ word word_counts k
unfolding all_below
its-count k h = eqb-true (get_or ten_counts k 0) (word word_counts k) (all_below-at (λ j. eqb (get_or ten_counts j 0) (word word_counts j)) 10 k refl h)

pub no-places : (k : ℕ) → (k ≡ 0 → ⊥) → (k ≡ 1 → ⊥) → (k ≡ 2 → ⊥) → (k ≡ 3 → ⊥) → (k ≡ 4 → ⊥) → (k ≡ 6 → ⊥) → get_or list_places_of k [] ≡ []
no-places zero a b c d e f = absurd (a refl)
no-places (suc zero) a b c d e f = absurd (b refl)
no-places (suc (suc zero)) a b c d e f = absurd (c refl)
no-places (suc (suc (suc zero))) a b c d e f = absurd (d refl)
no-places (suc (suc (suc (suc zero)))) a b c d e f = absurd (e refl)
no-places (suc (suc (suc (suc (suc zero))))) a b c d e f = refl
no-places (suc (suc (suc (suc (suc (suc zero)))))) a b c d e f = absurd (f refl)
no-places (suc (suc (suc (suc (suc (suc (suc k))))))) a b c d e f = refl

-- a list at each place, as long as its limit, ends within so many words
unfoldable lists_fit : List ℕ → List ℕ → ℕ → Bool
lists_fit [] limits long = true
lists_fit (p ∷ places) limits long = ltb (p + get_or limits 0 0) long && lists_fit places (drop 1 limits) long

lists-fit : (k : ℕ) → k < 10 → lists_fit (get_or list_places_of k []) (get_or list_limits_of k []) (word word_strides k) ≡ true
unfolding all_below lists_fit
lists-fit k h = all_below-at (λ j. lists_fit (get_or list_places_of j []) (get_or list_limits_of j []) (word word_strides j)) 10 k refl h

-- the front of a list lent, written and taken back is as long
pub front_long : {A : Type 0} (n : ℕ) (a l : List A) → length a ≡ n → n ≤ length l → length (a ++ drop n l) ≡ length l
front_long n a l e h = ap length (taken_back 0 n a l e) ∙ length_over 0 a l (omega arith)

-- ---- the lists of a record

lists-lie : (places limits b : List ℕ) (at long : ℕ) → lists_fit places limits long ≡ true → length limits ≡ length places
    → within limits (lists_in (length places) (drop at b)) ≡ true → at + 4 * length (flat (lists_in (length places) (drop at b))) ≤ length b
    → ListsLie places b at long
unfolding lists_fit lists_in within behind_list
lists-lie [] limits b at long f e h g = omega arith
lists-lie (p ∷ places) [] b at long f e h g = absurd (omega arith)
lists-lie (p ∷ places) (limit ∷ limits) b at long f e h g =
    let s : List ℕ = drop at b in
    let n : ℕ = number 4 s in
    let m : ℕ = length (words_in n (drop 4 s)) in
    let many : m ≡ n = length-words_in n (drop 4 s) in
    let d : drop (4 * suc n) s ≡ drop (at + 4 * suc n) b = drop-drop (4 * suc n) at b in
    let fits = and_both (ltb (p + limit) long) (lists_fit places limits long) f in
    let short = and_both (leb m limit) (within limits (lists_in (length places) (drop (4 * suc n) s))) h in
    let in_words : p + limit < long = ltb-true (p + limit) long fits.0 in
    let few : m ≤ limit = leb-true m limit short.0 in
    let size = lists-size (length places) s in
    let rest : at + 4 * suc n + 4 * length (flat (lists_in (length places) (drop (4 * suc n) s))) ≤ length b = omega arith in
    (record { whole = omega arith; room = omega arith }, lists-lie places limits b (at + 4 * suc n) long fits.1 (omega arith) (rw d at short.1) (rw d at rest))

-- a list with its count in front is one number more
front_of_lem : (s : List ℕ) → words_in (suc (number 4 s)) s ≡ length (words_in (number 4 s) (drop 4 s)) ∷ words_in (number 4 s) (drop 4 s)
unfolding words_in
front_of_lem s = ap (λ (m : ℕ). m ∷ words_in (number 4 s) (drop 4 s)) (sym (length-words_in (number 4 s) (drop 4 s)))

lists-over : (places b : List ℕ) (at : ℕ) (w : List ℕ) → lists_over places b at w ≡ lists_laid places (lists_in (length places) (drop at b)) w
unfolding lists_over lists_laid lists_in list_over behind_list
lists-over [] b at w = refl
lists-over (p ∷ places) b at w =
    let s : List ℕ = drop at b in
    let n : ℕ = number 4 s in
    lists-over places b (at + 4 * suc n) (over p (words_in (suc n) s) w)
    ∙ ap₂ (λ (r l : List ℕ). lists_laid places (lists_in (length places) r) (over p l w)) (sym (drop-drop (4 * suc n) at b)) (front_of_lem s)

lists-behind : (places b : List ℕ) (at : ℕ) → behind_lists places b at ≡ at + 4 * length (flat (lists_in (length places) (drop at b)))
unfolding behind_lists behind_list
lists-behind [] b at = unfold lists_in flat in omega arith
lists-behind (p ∷ places) b at =
    let s : List ℕ = drop at b in
    let n : ℕ = number 4 s in
    let size = lists-size (length places) s in
    lists-behind places b (at + 4 * suc n) ∙ rw (← drop-drop (4 * suc n) at b) (omega arith)

-- ---- a record that begins at a place

-- a body's kind and office, and the numbers of all others
pub body-front : (b : List ℕ) (at : ℕ) → front_of BODIES (fields_in BODIES (drop at b)) ≡ number 4 (drop (at + 2) b) ∷ office (office_in BODIES (number 2 (drop at b))) ∷ []
unfolding front_of fields_in words_in
body-front b at = rw (← drop-drop 2 at b)

pub plain-front : (k : ℕ) (b : List ℕ) (at : ℕ) → (k ≡ BODIES → ⊥) → front_of k (fields_in k (drop at b)) ≡ words_in (word word_counts k) (drop (at + 2) b)
unfolding front_of fields_in
plain-front k b at h = rw (ne_eqb k BODIES h, ← drop-drop 2 at b)

pub fixed-there : (k : ℕ) (s : List ℕ) → Lies k s → fixed_size k ≤ length s
fixed-there k s l = let e = record-size k s in omega (arith, l.long)

module _ (k : ℕ) (b : List ℕ) (at : ℕ) (l : Lies k (drop at b)) where
  pub lists-there : at ≤ length b → ListsLie (get_or list_places_of k []) b (at + fixed_size k) (word word_strides k)
  unfolding fields_in
  lists-there h =
      let s : List ℕ = drop at b in
      let c : List ℕ = get_or list_places_of k [] in
      let many : length c ≡ word list_counts k = places-many k l.table in
      let limits : length (get_or list_limits_of k []) ≡ word list_counts k = limits-many k l.table in
      let left : length s ≡ length b - at = length-drop at b in
      let d : drop (fixed_size k) s ≡ drop (at + fixed_size k) b = drop-drop (fixed_size k) at b in
      let size = record-size k s in
      let long : at + fixed_size k + 4 * length (flat (lists_in (word list_counts k) (drop (fixed_size k) s))) ≤ length b = omega (arith, l.long) in
      lists-lie c (get_or list_limits_of k []) b (at + fixed_size k) (word word_strides k) (lists-fit k l.table) (limits ∙ sym many) (rw (many, ← d) l.short) (rw (many, ← d) long)

  lists-read : lists_in (word list_counts k) (drop (fixed_size k) (drop at b)) ≡ (fields_in k (drop at b)).lists
  unfolding fields_in
  lists-read = refl

  pub record-laid : (w : List ℕ)
      → lists_over (get_or list_places_of k []) b (at + fixed_size k) (over 0 (front_of k (fields_in k (drop at b))) w) ≡ record_laid k (fields_in k (drop at b)) w
  unfolding record_laid
  record-laid w =
      lists-over (get_or list_places_of k []) b (at + fixed_size k) (over 0 (front_of k (fields_in k (drop at b))) w)
      ∙ rw (places-many k l.table, ← drop-drop (fixed_size k) at b, lists-read)

  pub record-behind : behind_lists (get_or list_places_of k []) b (at + fixed_size k) ≡ at + record_size k (drop at b)
  record-behind =
      lists-behind (get_or list_places_of k []) b (at + fixed_size k)
      ∙ rw (places-many k l.table, ← drop-drop (fixed_size k) at b, record-size k (drop at b)) (add_assoc at (fixed_size k) _)

  pub record-floats : floats_in (word real_strides k) (drop (at + 2 + 4 * word word_counts k) b) ≡ (fields_in k (drop at b)).floats
  unfolding fields_in
  record-floats =
      ap₂ floats_in (all-floats k l.table)
      (ap (λ (n : ℕ). drop n b) (add_assoc at 2 (4 * word word_counts k)) ∙ sym (drop-drop (2 + 4 * word word_counts k) at b))

-- ---- the records of a table

-- behind record i the next one begins
pub stands-next : (k i : ℕ) (s b : List ℕ) (at : ℕ) → Stands (behind_records k i s) b at → Lies k (behind_records k i s)
    → Stands (behind_records k (suc i) s) b (at + record_size k (drop at b))
unfolding behind_records behind record_size
stands-next k i s b at h l =
    let left : length (drop at b) ≡ length b - at = length-drop at b in
    let e : drop at b ≡ behind_records k i s = h.rest in
    let long : record_size k (drop at b) ≤ length (drop at b) = rw e l.long in
    record {
      inside = omega (arith, h.inside);
      rest = rw (← e) (sym (drop-drop (record_size k (drop at b)) at b));
    }

-- one record more
pub next-record : (room b : List ℕ) (k i at : ℕ) (w w₀ : List ℕ) (x x₀ : List Float)
    → Reached (behind_records k i (table_bytes b k)) b at (records_laid room b k i w₀) w w₀ (floats_laid room b k i x₀) x x₀
    → Lies k (behind_records k i (table_bytes b k))
    → (r : ℕ) → r ≡ at + record_size k (drop at b)
    → (v : List ℕ) → v ≡ put_words room k i (record_laid k (fields_in k (drop at b)) (words_of room w k i)) w → length v ≡ length w
    → (y : List Float) → y ≡ put_reals room k i (fields_in k (drop at b)).floats x → length y ≡ length x
    → Reached (behind_records k (i + 1) (table_bytes b k)) b r (records_laid room b k (i + 1) w₀) v w₀ (floats_laid room b k (i + 1) x₀) y x₀
unfolding records_laid floats_laid fields_at
next-record room b k i at w w₀ x x₀ p l r er v ev lv y ey ly =
    let rest = p.place.rest in
    rw (add-one i, er)
    (record {
      place = stands-next k i (table_bytes b k) b at p.place l;
      words = ev ∙ ap₂ (λ (s u : List ℕ). put_words room k i (record_laid k (fields_in k s) (words_of room u k i)) u) rest p.words;
      floats = ey ∙ ap₂ (λ (s : List ℕ) (u : List Float). put_reals room k i (fields_in k s).floats u) rest p.floats;
      words_long = lv ∙ p.words_long;
      floats-long = ly ∙ p.floats-long;
    })

-- ---- the tables

pub first-table : (b : List ℕ) → 50 ≤ length b → Stands (table_bytes b 0) b 50
unfolding table_bytes behind record_size lists_in flat
first-table b h = record { inside = h; rest = ap (λ (n : ℕ). drop n b) (sym (record-size PRECISION_RECORD b)) }

-- one table more
pub next-table : (room b : List ℕ) (k at : ℕ) (w w₀ : List ℕ) (x x₀ : List Float)
    → Reached (table_bytes b k) b at (tables_laid room b k w₀) w w₀ (table_floats_laid room b k x₀) x x₀
    → (r : ℕ) → Stands (table_bytes b (suc k)) b r
    → (v : List ℕ) → v ≡ records_laid room b k (count_in b k) w → length v ≡ length w
    → (y : List Float) → y ≡ floats_laid room b k (count_in b k) x → length y ≡ length x
    → Reached (table_bytes b (k + 1)) b r (tables_laid room b (k + 1) w₀) v w₀ (table_floats_laid room b (k + 1) x₀) y x₀
unfolding tables_laid table_floats_laid
next-table room b k at w w₀ x x₀ p r place v ev lv y ey ly =
    rw (add-one k)
    (record {
      place = place;
      words = ev ∙ ap (records_laid room b k (count_in b k)) p.words;
      floats = ey ∙ ap (floats_laid room b k (count_in b k)) p.floats;
      words_long = lv ∙ p.words_long;
      floats-long = ly ∙ p.floats-long;
    })

-- the lent memory stays as long
pub still-loadable : (room w v : List ℕ) (x y : List Float) (b : List ℕ) → Loadable room w x b → length v ≡ length w → length y ≡ length x → Loadable room v y b
still-loadable room w v x y b l e f =
    record {
      lent = record { small = l.lent.small; words = rw e l.lent.words; reals = rw f l.lent.reals };
      counts = l.counts;
      head = l.head;
      lies = l.lies;
    }

module _ (room b : List ℕ) where
  pub words-laid : (k : ℕ) (w : List ℕ) → tables_laid room b k (over 0 (fields_in PRECISION_RECORD b).words w) ≡ words_laid room b k w
  unfolding tables_laid words_laid
  words-laid zero w = refl
  words-laid (suc k) w = ap (records_laid room b k (count_in b k)) (words-laid k w)

  pub reals-laid : (k : ℕ) (x : List Float) → table_floats_laid room b k (over 0 (fields_in PRECISION_RECORD b).floats x) ≡ reals_laid room b k x
  unfolding table_floats_laid reals_laid
  reals-laid zero x = refl
  reals-laid (suc k) x = ap (floats_laid room b k (count_in b k)) (reals-laid k x)
