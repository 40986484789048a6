-- The image as the code makes it is the image of the decoded model, and as long as the code says. Assumes nothing.
use Prim.Native.Nat.{ℕ, zero, suc, ◌+◌, ◌*◌, ◌≤◌, ◌<◌}
use Rattle.std.proofs.Common.{zero-add, mul-suc, le_of_eq, eq-or-lt_of_le, add-one, sym, ◌∙◌, inl, inr, length-take-le, leb-true, eq-eqb, ne_eqb}
use native.Mathlib.Omega.{arith}
use Rattle.std.specs.Prelude.{◌≡◌, leb, length, take, drop, Float}
use Rattle.std.proofs.Math.Path.{refl, ap}
use mathlib.Core.List.{List, [], ◌∷◌, ◌++◌, append_assoc, append-nil}
use Rattle.std.proofs.Math.ListN.{length-append}
use Rattle.std.specs.Float.Ieee.{nan}
use Rattle.geom_lines_planes.specs.declared.tolerance.Version.{Version}
use Rattle.geom_lines_planes.specs.declared.tolerance.Version.TheVariants.{First, Second}
use Rattle.geom_lines_planes.specs.Refuse.{◌unless◌}
use Rattle.meaning.specs.Lists.{run, joined}
use Rattle.meaning_list_laws.specs.Lists.{joined-none, joined_snoc}
use Rattle.meaning_list_laws.specs.Tests.{then-zero, unless-zero}
use Rattle.memory_layout.specs.Names.{VERSION}
use Rattle.memory_layout.specs.Layout.{word_strides, word, word_at, real_at, words_of, reals_of}
use Rattle.memory_layout.specs.Decode.{version_of, decode}
use Rattle.memory_layout.specs.Readable.{readable}
use Rattle.memory_layout.specs.Fit.{Sized, Fit}
use Rattle.memory_layout.specs.Laws.{capacity-le, before-tables, used-inside, precision-there, fit_of}
use Rattle.memory_layout.proofs.Laws.{words-length, reals-length}
use Rattle.memory_layout.specs.TableRows.{rows_fit, words_row, reals-row}
use Rattle.memory_layout.proofs.TableRows.{table-rows}
use Rattle.memory_writes.specs.Put.{over}
use Rattle.image_format.specs.Bytes.{little, words, floats, lists}
use Rattle.image_format.specs.Fields.{PRECISION_RECORD, record_image}
use Rattle.image_format.specs.Image.{precision_fields, table_image, records_image, version_image, image_of}
use Rattle.image_laws.specs.Numbers.{length-little, length-words, length-floats}
use Rattle.image_records.specs.Kept.{fields_of, Kept, record_length}
use Rattle.image_records.specs.Laws.{entries, written_out, over-turn, listed_of, image-length, record-small}
use Rattle.image_writer.specs.Answers.{write_number}
use Rattle.image_writer.specs.Rows.{row_words, row_reals, rows_image, total, rows_length, Rows, WordRows, table_length, tables_length, Used, version_bytes, image_length, precision_bytes, table_of, tables_of}

-- ---- sums

pub total-none : (f : ℕ → ℕ) → total f 0 ≡ 0
unfolding total
total-none f = refl

total-more : (f : ℕ → ℕ) (i : ℕ) → total f (i + 1) ≡ total f i + f i
unfolding total
total-more f i = ap (total f) (add-one i)

pub total-turn : (f : ℕ → ℕ) (i n x : ℕ) → n ≡ total f i → x ≡ f i → n + x ≡ total f (i + 1)
total-turn f i n x e g = let a = total-more f i in omega arith

pub total-small : (f : ℕ → ℕ) (b n : ℕ) → ((i : ℕ) → i < n → f i ≤ b) → total f n ≤ b * n
unfolding total
total-small f b zero g = omega arith
total-small f b (suc n) g =
    let a = total-small f b n (λ i h. g i (omega arith)) in
    let d = g n (omega arith) in
    let m = mul-suc b n in
    omega arith

-- ---- what stands for each number, one behind the other

module _ (g : ℕ → List ℕ) where
  each_none : joined g (run 0 0) ≡ []
  unfolding run
  each_none = joined-none g

  each_turn : (i : ℕ) → joined g (run 0 (i + 1)) ≡ joined g (run 0 i) ++ g i
  unfolding run
  each_turn i = ap (λ (n : ℕ). joined g (run 0 n)) (add-one i) ∙ joined_snoc g (run 0 i) (0 + i) ∙ ap (λ (n : ℕ). joined g (run 0 i) ++ g n) (zero-add i)

  each-longer : (i : ℕ) → length (joined g (run 0 (i + 1))) ≡ length (joined g (run 0 i)) + length (g i)
  each-longer i = ap length (each_turn i) ∙ length-append (joined g (run 0 i)) (g i)

  each-mono : (i n : ℕ) → i ≤ n → length (joined g (run 0 i)) ≤ length (joined g (run 0 n))
  each-mono i zero h = le_of_eq (ap (λ (m : ℕ). length (joined g (run 0 m))) (omega arith))
  each-mono i (suc n) h = elim (eq-or-lt_of_le h) [
    | inl e ↦ le_of_eq (ap (λ (m : ℕ). length (joined g (run 0 m))) e)
    | inr q ↦
        let a = each-mono i n (omega arith) in
        let b = rw (add-one n) at (each-longer n) in
        omega arith
  ]

  each_long : (f : ℕ → ℕ) (n : ℕ) → ((i : ℕ) → i < n → length (g i) ≡ f i) → length (joined g (run 0 n)) ≡ total f n
  each_long f zero h = ap length each_none ∙ sym (total-none f)
  each_long f (suc n) h =
      let a = each_long f n (λ i q. h i (omega arith)) in
      let b = rw (add-one n) at (each-longer n) in
      let d = rw (add-one n) at (total-more f n) in
      let e = h n (omega arith) in
      omega arith

-- ---- the records of a table

abbrev row_image : ℕ → List ℕ → List Float → ℕ → List ℕ
row_image k w x i = record_image k (fields_of k (row_words k w i) (row_reals k x i))

module _ (k : ℕ) (w : List ℕ) (x : List Float) where
  pub rows_none : rows_image k w x 0 ≡ []
  unfolding rows_image
  rows_none = each_none (row_image k w x)

  pub rows-turn : (i : ℕ) → rows_image k w x (i + 1) ≡ rows_image k w x i ++ row_image k w x i
  unfolding rows_image
  rows-turn i = each_turn (row_image k w x) i

  pub rows-within : (i n : ℕ) → i < n → length (rows_image k w x i) + length (row_image k w x i) ≤ length (rows_image k w x n)
  unfolding rows_image
  rows-within i n h =
      let a = each-mono (row_image k w x) (i + 1) n (omega arith) in
      let b = each-longer (row_image k w x) i in
      omega arith

  pub rows_long : (n : ℕ) → Rows k n w x → length (rows_image k w x n) ≡ rows_length k w n
  unfolding rows_image rows_length
  rows_long n r = each_long (row_image k w x) (λ i. record_length k (row_words k w i)) n (λ i h. image-length k (row_words k w i) (row_reals k x i) (r.kept i h))

pub rows-small : (k : ℕ) (w : List ℕ) (n i : ℕ) → WordRows k n w → i ≤ n → rows_length k w i ≤ 12378 * i
unfolding rows_length
rows-small k w n i r h = total-small (λ j. record_length k (row_words k w j)) 12378 i (λ j q. record-small k (row_words k w j) (r.listed j (omega arith)))

-- ---- a table of readable memory

pub kept_of : (room w : List ℕ) (x : List Float) → Fit room w x → (k i : ℕ) → k < 10 → i < word w k → Kept k (words_of room w k i) (reals_of room x k i)
kept_of room w x f k i h g =
    let p = used-inside room w x k i f.sized h g in
    record {
      whole = record { table = h; words = words-length room w k i p.0; reals = reals-length room x k i p.1 };
      ok = f.rows k i h g;
    }

pub used-of : (room w : List ℕ) (x : List Float) → Fit room w x → Used room w
used-of room w x f =
    record {
      small = f.sized.small;
      words = f.sized.words;
      counts = f.sized.counts;
      listed = λ k i h g. listed_of k (words_of room w k i) (reals_of room x k i) (kept_of room w x f k i h g);
    }

pub rows_of : (room w : List ℕ) (x : List Float) → Fit room w x → (k : ℕ) → k < 10 → Rows k (word w k) (drop (word_at room k 0) w) (drop (real_at room k 0) x)
rows_of room w x f k h =
    record {
      rows = table-rows room w x k f.sized h;
      kept = λ i g. rw (words_row, reals-row) (kept_of room w x f k i h g);
    }

-- where its words begin, and its records among them
pub word_rows : (room w : List ℕ) → Used room w → (k : ℕ) → k < 10 → (word_at room k 0 ≤ length w) × WordRows k (word w k) (drop (word_at room k 0) w)
word_rows room w u k h =
    let c = u.counts k h in
    let d = capacity-le room u.small k h in
    let p = rows_fit w 11 word_strides room k (word w k) h c u.words in
    (p.0, record { table = h; few = omega arith; words = p.1; listed = λ i g. rw words_row (u.listed k i h g) })

pub table-image : (room w : List ℕ) (x : List Float) (k : ℕ) → rows_image k (drop (word_at room k 0) w) (drop (real_at room k 0) x) (word w k) ≡ table_of room w x k
unfolding rows_image table_of
table-image room w x k = simp (words_row, reals-row)

pub table-length : (room w : List ℕ) (k : ℕ) → rows_length k (drop (word_at room k 0) w) (word w k) ≡ table_length room w k
unfolding rows_length table_length
table-length room w k = simp words_row

-- ---- the precision's record: a mark, the ten counts, a float

pub ten-words : (room w : List ℕ) (x : List Float) → Sized room w x → 10 ≤ length w
ten-words room w x s = let a = s.words in let b = before-tables 11 word_strides room 10 in omega arith

module _ (w : List ℕ) (x : List Float) (g : 10 ≤ length w) (h : 1 ≤ length x) where
  counts-long : length (words (take 10 w)) ≡ 40
  counts-long = length-words (take 10 w) ∙ ap (λ (n : ℕ). 4 * n) (length-take-le 10 w g)

  float-long : length (floats (take 1 x)) ≡ 8
  float-long = length-floats (take 1 x) ∙ ap (λ (n : ℕ). 8 * n) (length-take-le 1 x h)

  pub precision-long : length (precision_bytes w x) ≡ 50
  unfolding precision_bytes
  precision-long =
      let m : List ℕ = little 2 0x5250 in
      let b = length-append (m ++ words (take 10 w)) (floats (take 1 x)) in
      let c = length-append m (words (take 10 w)) in
      let d = length-little 2 0x5250 in
      let e = counts-long in
      let f = float-long in
      omega arith

  pub precision-written : (at : ℕ) (b : List ℕ) → at + 50 ≤ length b
      → over (at + 42) (floats (take 1 x)) (over (at + 2) (words (take 10 w)) (over at (little 2 0x5250) b)) ≡ over at (precision_bytes w x) b
  unfolding precision_bytes
  precision-written at b q =
      let m : List ℕ = little 2 0x5250 in
      let l : List ℕ = words (take 10 w) in
      let r : List ℕ = floats (take 1 x) in
      let c = length-append m l in
      let d = length-little 2 0x5250 in
      let e = counts-long in
      let f = float-long in
      let u : over (at + 2) l (over at m b) ≡ over at (m ++ l) b = over-turn at (at + 2) m l (over at m b) b (omega arith) refl (omega arith) in
      over-turn at (at + 42) (m ++ l) r (over (at + 2) l (over at m b)) b (omega arith) u (omega arith)

-- ---- the version's record: a mark, and 2

pub first-bytes : (w : List ℕ) → (word w VERSION ≡ 2 → ⊥) → version_bytes w ≡ []
unfolding version_bytes version_image
first-bytes w e = rw (ne_eqb (word w VERSION) 2 e)

pub second-bytes : (w : List ℕ) → word w VERSION ≡ 2 → version_bytes w ≡ little 2 0x4e56 ++ words (2 ∷ [])
unfolding version_bytes version_image record_image floats lists
second-bytes w e = rw (eq-eqb (word w VERSION) 2 e) (simp append-nil)

pub second-long : (w : List ℕ) → word w VERSION ≡ 2 → length (version_bytes w) ≡ 6
second-long w e = ap length (second-bytes w e) ∙ length-append (little 2 0x4e56) (words (2 ∷ [])) ∙ rw (length-little 2 0x4e56, length-words (2 ∷ []))

pub version-short : (w : List ℕ) → length (version_bytes w) ≤ 6
unfolding version_bytes
version-short w = short (version_of (word w VERSION))
  where
    short : (v : Version) → length (version_image v) ≤ 6
    short First = unfold version_image in omega arith
    short Second = unfold version_image record_image little joined floats lists in omega arith

pub version-written : (w b : List ℕ) → word w VERSION ≡ 2 → 6 ≤ length b → over 2 (words (2 ∷ [])) (over 0 (little 2 0x4e56) b) ≡ over 0 (version_bytes w) b
version-written w b e h =
    let c = length-little 2 0x4e56 in
    let d = length-words (2 ∷ []) in
    over-turn 0 2 (little 2 0x4e56) (words (2 ∷ [])) (over 0 (little 2 0x4e56) b) b (omega arith) refl (omega arith)
    ∙ ap (λ (i : List ℕ). over 0 i b) (sym (second-bytes w e))

-- ---- the tables

module _ (room w : List ℕ) (x : List Float) where
  pub tables-none : tables_of room w x 0 ≡ []
  unfolding tables_of
  tables-none = each_none (table_of room w x)

  pub tables-turn : (k : ℕ) → tables_of room w x (k + 1) ≡ tables_of room w x k ++ table_of room w x k
  unfolding tables_of
  tables-turn k = each_turn (table_of room w x) k

  pub tables-within : (k n : ℕ) → k < n → length (tables_of room w x k) + length (table_of room w x k) ≤ length (tables_of room w x n)
  unfolding tables_of
  tables-within k n h =
      let a = each-mono (table_of room w x) (k + 1) n (omega arith) in
      let b = each-longer (table_of room w x) k in
      omega arith

  -- ---- the whole

  precision-parts : Sized room w x → record_image PRECISION_RECORD (precision_fields (decode room w x)) ≡ precision_bytes w x
  unfolding precision_bytes record_image decode lists entries
  precision-parts s =
      append-nil _
      ∙ ap (λ (l : List ℕ). little 2 0x5250 ++ words l ++ floats (entries nan x 1)) (written_out 0 w 10 (ten-words room w x s))
      ∙ ap (λ (l : List Float). little 2 0x5250 ++ words (take 10 w) ++ floats l) (written_out nan x 1 (precision-there room w x s))

  behind-precision : records_image (decode room w x) ≡ record_image PRECISION_RECORD (precision_fields (decode room w x)) ++ tables_of room w x 10
  unfolding tables_of table_of records_image table_image decode fields_of run joined
  behind-precision = simp (append_assoc, append-nil)

  behind-version : image_of (decode room w x) ≡ version_bytes w ++ records_image (decode room w x)
  unfolding image_of decode version_bytes
  behind-version = refl

  image-parts : Sized room w x → image_of (decode room w x) ≡ version_bytes w ++ (precision_bytes w x ++ tables_of room w x 10)
  image-parts s = behind-version ∙ ap (λ (r : List ℕ). version_bytes w ++ r) (behind-precision ∙ ap (λ (p : List ℕ). p ++ tables_of room w x 10) (precision-parts s))

  -- the image behind the precision's record
  pub whole_long : Sized room w x → length (image_of (decode room w x)) ≡ length (version_bytes w) + 50 + length (tables_of room w x 10)
  whole_long s =
      let p : List ℕ = precision_bytes w x in
      let t : List ℕ = tables_of room w x 10 in
      let a = ap length (image-parts s) in
      let b = length-append (version_bytes w) (p ++ t) in
      let c = length-append p t in
      let d = precision-long w x (ten-words room w x s) (precision-there room w x s) in
      omega arith

  -- ---- as long as the code says

  module _ (f : Fit room w x) where
    pub table-long : (k : ℕ) → k < 10 → length (table_of room w x k) ≡ table_length room w k
    table-long k h =
        sym (ap length (table-image room w x k))
        ∙ rows_long k (drop (word_at room k 0) w) (drop (real_at room k 0) x) (word w k) (rows_of room w x f k h)
        ∙ table-length room w k

    pub image-long : length (image_of (decode room w x)) ≡ image_length room w
    unfolding image_length tables_length tables_of
    image-long =
        let a = whole_long f.sized in
        let d = each_long (table_of room w x) (table_length room w) 10 table-long in
        omega arith

pub table-small : (room w : List ℕ) → Used room w → (k : ℕ) → k < 10 → table_length room w k ≤ 50700288
table-small room w u k h =
    let p = (word_rows room w u k h).1 in
    let a = rows-small k (drop (word_at room k 0) w) (word w k) (word w k) p (omega arith) in
    let b = table-length room w k in
    let c = p.few in
    omega arith

pub tables-small : (room w : List ℕ) → Used room w → (k : ℕ) → k ≤ 10 → total (table_length room w) k ≤ 50700288 * k
tables-small room w u k h = total-small (table_length room w) 50700288 k (λ i q. table-small room w u i (omega arith))

-- ---- turns of the loops that count

pub rows-length-none : (k : ℕ) (w : List ℕ) → rows_length k w 0 ≡ 0
unfolding rows_length
rows-length-none k w = total-none (λ i. record_length k (row_words k w i))

pub rows-length-turn : (k : ℕ) (w : List ℕ) (i n m : ℕ) → n ≡ rows_length k w i → m ≡ record_length k (row_words k w i) → n + m ≡ rows_length k w (i + 1)
unfolding rows_length
rows-length-turn k w i n m e f = total-turn (λ j. record_length k (row_words k w j)) i n m e f

pub tables-length-none : (room w : List ℕ) → tables_length room w 0 ≡ 50
unfolding tables_length
tables-length-none room w = let e = total-none (table_length room w) in omega arith

pub tables-length-turn : (room w : List ℕ) (k n m : ℕ) → n ≡ tables_length room w k → m ≡ table_length room w k → n + m ≡ tables_length room w (k + 1)
unfolding tables_length
tables-length-turn room w k n m e f = let a = total-more (table_length room w) k in omega arith

pub tables-length-small : (room w : List ℕ) → Used room w → (k : ℕ) → k ≤ 10 → tables_length room w k ≤ 507002930
unfolding tables_length
tables-length-small room w u k h = let a = tables-small room w u k h in omega arith

-- ---- the calls

pub whole-written : (room w : List ℕ) (x : List Float) (b : List ℕ) → Sized room w x → length (image_of (decode room w x)) ≤ length b
    → over (length (version_bytes w) + 50) (tables_of room w x 10) (over (length (version_bytes w)) (precision_bytes w x) (over 0 (version_bytes w) b)) ≡ over 0 (image_of (decode room w x)) b
whole-written room w x b s h =
    let v : List ℕ = version_bytes w in
    let p : List ℕ = precision_bytes w x in
    let t : List ℕ = tables_of room w x 10 in
    let a = whole_long room w x s in
    let c = length-append v p in
    let d = precision-long w x (ten-words room w x s) (precision-there room w x s) in
    let u : over (length v) p (over 0 v b) ≡ over 0 (v ++ p) b = over-turn 0 (length v) v p (over 0 v b) b (omega arith) refl (omega arith) in
    over-turn 0 (length v + 50) (v ++ p) t (over (length v) p (over 0 v b)) b (omega arith) u (omega arith)
    ∙ ap (λ (i : List ℕ). over 0 i b) (append_assoc v p t ∙ sym (image-parts room w x s))

-- an image that is written
pub record Open (room w : List ℕ) (x : List Float) (b : List ℕ) : Type 0 where
  pub fit : Fit room w x
  pub long : length (image_of (decode room w x)) ≤ length b

pub write-open : (room w : List ℕ) (x : List Float) (b : List ℕ) → write_number room w x b ≡ 0 → Open room w x b
unfolding write_number
write-open room w x b e =
    let n : ℕ = length (image_of (decode room w x)) in
    let a = then-zero (9 unless readable room w x) (8 unless leb n (length b)) e in
    record { fit = fit_of room w x (unless-zero 8 (readable room w x) a.0); long = leb-true n (length b) (unless-zero 7 (leb n (length b)) a.1) }
