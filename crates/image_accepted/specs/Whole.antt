-- Bytes are the records of an image just where the code's tests pass, and what is known of each of them then. Assumes nothing.
use Rattle.std.specs.Prelude.{ℕ, ◌-◌, ◌≤◌, ◌<◌, ◌≡◌, Bool, ◌&&◌, List}
use native.Mathlib.Omega.{arith}
use Rattle.std.proofs.Math.Path.{refl, sym, ap}
use Rattle.std.proofs.Common.{◌∙◌}
use Rattle.std.proofs.Math.Bool.{true, false}
use Rattle.std.proofs.Math.Dec.{eqb, leb}
use Rattle.std.proofs.Math.ListN.{length, drop, length-drop}
use borrow.Author.Tests.{eqb-true, eq-eqb, leb-true, le-leb}
use Rattle.geom_lines_planes.specs.declared.tolerance.Version.TheVariants.{First}
use Rattle.meaning.specs.Lists.{all_below, every}
use Rattle.meaning.specs.Edits.{precision_ok}
use Rattle.meaning_list_laws.specs.Tests.{and_both, and_assoc, and-true, and-false, both_ways, all_below-at, all_below-all}
use Rattle.memory_layout.specs.Layout.{word, largest_tables}
use Rattle.image_format.specs.Bytes.{number, same_bytes}
use Rattle.image_format.specs.Fields.{PRECISION_RECORD, marks, behind}
use Rattle.image_format.specs.Image.{count_in, behind_records, table_bytes, fields_at, records_image, model_of, held}
use Rattle.image_laws.specs.Numbers.{Bytes}
use Rattle.image_laws.specs.Starts.{starts}
use Rattle.image_record_test.specs.Good.{holds, record_good}
use Rattle.image_accepted.specs.Ends.{tables_end, Ends, tables_end_lem, tables-good}
use Rattle.image_accepted.specs.Found.{written_at, records_same, up_to, head-long, same-image}
use Rattle.image_accepted.specs.Head.{precision_in, head_good, head-is}

-- no table has more records than 01's largest
unfoldable pub counts_good : List ℕ → Bool
counts_good b = all_below (λ k. leb (count_in b k) (word largest_tables k)) 10

-- what `accepted` asks of the precision's record and the tables, the bytes behind the version's record
unfoldable pub records_accepted : List ℕ → Bool
records_accepted b = held (model_of b First) && same_bytes (records_image (model_of b First)) b

-- what the code tests
unfoldable pub image_good : List ℕ → Bool
image_good b = head_good b && counts_good b && eqb (tables_end b 10) (length b)

-- what is known of them
pub record Found (b : List ℕ) : Type 0 where
  pub head : 50 ≤ length b
  pub precision : precision_ok (precision_in b) ≡ true
  pub counts : (k : ℕ) → k < 10 → count_in b k ≤ word largest_tables k
  pub good : (k i : ℕ) → k < 10 → i < count_in b k → record_good k (behind_records k i (table_bytes b k)) ≡ true

-- the records of table k are held
unfoldable records_held : List ℕ → ℕ → Bool
records_held b k = all_below (λ i. holds k (fields_at b k i)) (count_in b k)

held-is : (b : List ℕ) → held (model_of b First) ≡ (precision_ok (model_of b First).precision && all_below (λ k. leb (count_in b k) (word largest_tables k) && records_held b k) 10)
unfolding held model_of every all_below records_held holds
held-is b = simp (and-true, and_assoc)

pub head-room : (b : List ℕ) → head_good b ≡ true → 50 ≤ length b
unfolding head_good
head-room b e =
    leb-true 50 (length b)
    (and_both (leb 50 (length b)) (eqb (number 2 b) (word marks PRECISION_RECORD)) (and_both (leb 50 (length b) && eqb (number 2 b) (word marks PRECISION_RECORD)) (precision_ok (precision_in b)) e).0).0

module _ (b : List ℕ) (bytes : Bytes b) where
  abbrev held_at : ℕ → Bool
  held_at k = leb (count_in b k) (word largest_tables k) && records_held b k

  abbrev same_at : ℕ → Bool
  same_at k = records_same k (table_bytes b k) (count_in b k)

  -- the tests of the definition, in the order of the code
  accepted-is : records_accepted b ≡ (head_good b && (all_below held_at 10 && all_below same_at 10 && eqb (length (table_bytes b 10)) 0))
  unfolding records_accepted
  accepted-is = rw (held-is b, same-image b bytes, ← head-is b bytes) (regroup (precision_ok (model_of b First).precision) (all_below held_at 10) (starts (up_to b 0) b) (all_below same_at 10) _)
    where
      regroup : (p h s t e : Bool) → ((p && h) && ((s && t) && e)) ≡ ((p && s) && (h && t && e))
      regroup true h true t e = sym (and_assoc h t e)
      regroup true h false t e = and-false h
      regroup false h s t e = refl

  -- the first record begins behind the precision's
  head-ends : 50 ≤ length b → Ends b (table_bytes b 0) 50
  unfolding table_bytes behind
  head-ends h = record { there = omega arith; inside = h; rest = ap (λ (n : ℕ). drop n b) (sym (head-long b bytes).0) }

  -- one record: it is held, and the same
  good_of : (k i : ℕ) → k < 10 → i < count_in b k → all_below held_at 10 ≡ true → all_below same_at 10 ≡ true → record_good k (behind_records k i (table_bytes b k)) ≡ true
  unfolding record_good records_held records_same fields_at
  good_of k i h l p q =
      let u = and_both (leb (count_in b k) (word largest_tables k)) (records_held b k) (all_below-at held_at 10 k p h) in
      rw (all_below-at (λ j. holds k (fields_at b k j)) (count_in b k) i u.1 l)
      (all_below-at (λ j. starts (written_at k (table_bytes b k) j) (behind_records k j (table_bytes b k))) (count_in b k) i (all_below-at same_at 10 k q h) l)

  held_of : ((k i : ℕ) → k < 10 → i < count_in b k → record_good k (behind_records k i (table_bytes b k)) ≡ true) → ((k : ℕ) → k < 10 → records_held b k ≡ true) × ((k : ℕ) → k < 10 → same_at k ≡ true)
  unfolding record_good records_held records_same fields_at
  held_of g = (
    λ k h. all_below-all (λ i. holds k (fields_at b k i)) (count_in b k) (λ i l. (and_both (holds k (fields_at b k i)) (starts (written_at k (table_bytes b k) i) (behind_records k i (table_bytes b k))) (g k i h l)).0),
    λ k h. all_below-all (λ i. starts (written_at k (table_bytes b k) i) (behind_records k i (table_bytes b k))) (count_in b k) (λ i l. (and_both (holds k (fields_at b k i)) (starts (written_at k (table_bytes b k) i) (behind_records k i (table_bytes b k))) (g k i h l)).1),
  )

  found_of : all_below held_at 10 ≡ true → head_good b ≡ true → all_below same_at 10 ≡ true → Found b
  unfolding head_good
  found_of p h q =
      record {
        head = head-room b h;
        precision = (and_both (leb 50 (length b) && eqb (number 2 b) (word marks PRECISION_RECORD)) (precision_ok (precision_in b)) h).1;
        counts = λ k l. leb-true (count_in b k) (word largest_tables k) (and_both (leb (count_in b k) (word largest_tables k)) (records_held b k) (all_below-at held_at 10 k p l)).0;
        good = λ k i l m. good_of k i l m p q;
      }

  abbrev left : Bool
  left = eqb (length (table_bytes b 10)) 0

  all_of : records_accepted b ≡ true → (head_good b ≡ true) × (all_below held_at 10 ≡ true) × (all_below same_at 10 ≡ true) × (left ≡ true)
  all_of e =
      let p = and_both (head_good b) (all_below held_at 10 && all_below same_at 10 && left) (sym accepted-is ∙ e) in
      let q = and_both (all_below held_at 10 && all_below same_at 10) left p.1 in
      let r = and_both (all_below held_at 10) (all_below same_at 10) q.0 in
      (p.0, r.0, r.1, q.1)

  pub records-found : records_accepted b ≡ true → Found b
  records-found e = let a = all_of e in found_of a.1 a.0 a.2

  -- the last record ends where the bytes do
  ends_there : Found b → length (table_bytes b 10) ≡ 0 → tables_end b 10 ≡ length b
  ends_there f z =
      let e = tables_end_lem b bytes (head-ends f.head) 10 (omega arith) (λ k h i l. f.good k i h l) in
      let d : length b - tables_end b 10 ≡ 0 = sym (length-drop (tables_end b 10) b) ∙ ap length e.rest ∙ z in
      let i = e.inside in
      omega arith

  counts_of : Found b → counts_good b ≡ true
  unfolding counts_good
  counts_of f = all_below-all (λ k. leb (count_in b k) (word largest_tables k)) 10 (λ k h. le-leb (count_in b k) (word largest_tables k) (f.counts k h))

  pub image-good : records_accepted b ≡ image_good b
  unfolding image_good
  image-good =
      both_ways _ _
      (λ e. let a = all_of e in
      let f = records-found e in
      rw (a.0, counts_of f) (eq-eqb (tables_end b 10) (length b) (ends_there f (eqb-true (length (table_bytes b 10)) 0 a.3))))
      (λ e. let p = and_both (head_good b && counts_good b) (eqb (tables_end b 10) (length b)) e in
      let q = and_both (head_good b) (counts_good b) p.0 in
      let h = head-room b q.0 in
      let z : tables_end b 10 ≡ length b = eqb-true (tables_end b 10) (length b) p.1 in
      let g = tables-good b bytes (head-ends h) 10 (omega arith) (omega arith) in
      let t = tables_end_lem b bytes (head-ends h) 10 (omega arith) g in
      let u = held_of (λ k i l m. g k l i m) in
      let end : length (table_bytes b 10) ≡ 0 = sym (ap length t.rest) ∙ length-drop (tables_end b 10) b ∙ omega arith in
      accepted-is ∙ rw (q.0, all_held q.1 u.0, all_below-all same_at 10 u.1) (eq-eqb (length (table_bytes b 10)) 0 end))
    where
      all_held : counts_good b ≡ true → ((k : ℕ) → k < 10 → records_held b k ≡ true) → all_below held_at 10 ≡ true
      all_held c h =
          all_below-all held_at 10 (λ k l. rw (all_below-at (λ j. leb (count_in b j) (word largest_tables j)) 10 k (unfold counts_good in c) l) (h k l))
