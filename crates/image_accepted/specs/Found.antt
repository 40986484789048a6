-- What is written for the model in the bytes b, behind the version, is b just where each record is the one that is written for it, and nothing is left. Assumes nothing.
use Prim.Native.Nat.{ℕ, zero, suc, ◌+◌, ◌*◌, ◌≤◌, ◌<◌}
use Rattle.std.proofs.Common.{zero-add, arith, ◌∙◌, length-append, drop-drop}
use Rattle.std.specs.Prelude.{◌≡◌, Bool, eqb}
use Rattle.std.proofs.Math.Path.{refl, sym, ap, ap₂}
use Rattle.std.proofs.Math.Bool.{◌&&◌}
use mathlib.Core.List.{List, [], ◌++◌, append-nil}
use Rattle.std.proofs.Math.ListN.{length, drop}
use Rattle.geom_lines_planes.specs.declared.tolerance.Version.TheVariants.{First}
use Rattle.meaning.specs.Lists.{run, joined, all_below}
use Rattle.meaning_list_laws.specs.Lists.{joined_snoc}
use Rattle.meaning_list_laws.specs.Tests.{and_assoc, and-true, all_below-none, all_below-suc}
use Rattle.image_format.specs.Bytes.{lists, words_in, floats_in, lists_in, same_bytes}
use Rattle.image_format.specs.Fields.{PRECISION_RECORD, record_image, fields_in, behind}
use Rattle.image_format.specs.Image.{precision_fields, table_image, records_image, count_in, behind_records, table_bytes, fields_at, model_of}
use Rattle.image_laws.specs.Numbers.{Bytes}
use Rattle.image_laws.specs.Machines.{behind-bytes, table-bytes}
use Rattle.image_laws.specs.Records.{length-image}
use Rattle.image_laws.specs.Starts.{starts, starts-both, same-both, same_end}
use Rattle.image_record_test.specs.Good.{spelled, record_size}
use Rattle.image_accepted.specs.Ends.{spelled-size}

-- ---- the records of one table, from the bytes s on

abbrev pub written_at : ℕ → List ℕ → ℕ → List ℕ
written_at k s i = record_image k (spelled k (fields_in k (behind_records k i s)))

unfoldable pub records_written : ℕ → List ℕ → ℕ → List ℕ
records_written k s n = joined (written_at k s) (run 0 n)

unfoldable pub records_same : ℕ → List ℕ → ℕ → Bool
records_same k s n = all_below (λ i. starts (written_at k s i) (behind_records k i s)) n

written-more : (k : ℕ) (s : List ℕ) (n : ℕ) → records_written k s (suc n) ≡ records_written k s n ++ written_at k s n
unfolding records_written run
written-more k s n = joined_snoc (written_at k s) (run 0 n) (0 + n) ∙ ap (λ (i : ℕ). joined (written_at k s) (run 0 n) ++ written_at k s i) (zero-add n)

module _ (k : ℕ) (h : k < 10) (s : List ℕ) (b : Bytes s) where
  -- what stands behind them
  pub written_behind : (n : ℕ) → drop (length (records_written k s n)) s ≡ behind_records k n s
  unfolding behind_records behind record_size
  written_behind zero = unfold records_written run joined in refl
  written_behind (suc n) =
      ap (λ (l : List ℕ). drop (length l) s) (written-more k s n)
      ∙ ap (λ (z : ℕ). drop z s) (length-append (records_written k s n) (written_at k s n))
      ∙ sym (drop-drop (length (written_at k s n)) (length (records_written k s n)) s)
      ∙ ap (drop (length (written_at k s n))) (written_behind n)
      ∙ ap (λ (z : ℕ). drop z (behind_records k n s)) (spelled-size k h (behind_records k n s) (behind-bytes k n s b))

  pub written-starts : (n : ℕ) → starts (records_written k s n) s ≡ records_same k s n
  unfolding records_same
  written-starts zero = unfold records_written run joined starts all_below in refl
  written-starts (suc n) =
      ap (λ (l : List ℕ). starts l s) (written-more k s n)
      ∙ starts-both (records_written k s n) (written_at k s n) s
      ∙ ap₂ ◌&&◌ (written-starts n) (ap (starts (written_at k s n)) (written_behind n))
      ∙ sym (all_below-suc (λ i. starts (written_at k s i) (behind_records k i s)) n)

-- ---- the whole

-- the precision's record, and the first k tables
unfoldable pub up_to : List ℕ → ℕ → List ℕ
up_to b zero = record_image PRECISION_RECORD (precision_fields (model_of b First))
up_to b (suc k) = up_to b k ++ records_written k (table_bytes b k) (count_in b k)

image-parts : (b : List ℕ) → records_image (model_of b First) ≡ up_to b 10
unfolding records_image table_image model_of up_to records_written fields_at spelled
image-parts b = refl

module _ (b : List ℕ) (bytes : Bytes b) where
  -- the precision's record takes 50 bytes, read or written
  pub head-long : (length (record_image PRECISION_RECORD (fields_in PRECISION_RECORD b)) ≡ 50) × (length (up_to b 0) ≡ 50)
  unfolding up_to
  head-long = (length-image PRECISION_RECORD (fields_in PRECISION_RECORD b) ∙ sizes, length-image PRECISION_RECORD (precision_fields (model_of b First)) ∙ none)
    where
      none : 2 + 4 * 10 + 8 * 1 + length (lists []) ≡ 50
      none = unfold lists in refl

      sizes : 2 + 4 * length (fields_in PRECISION_RECORD b).words + 8 * length (fields_in PRECISION_RECORD b).floats + length (lists (fields_in PRECISION_RECORD b).lists) ≡ 50
      sizes = unfold fields_in words_in floats_in lists_in lists in refl

  up-to-behind : (k : ℕ) → k ≤ 10 → drop (length (up_to b k)) b ≡ table_bytes b k
  unfolding up_to table_bytes behind
  up-to-behind zero h = ap (λ (n : ℕ). drop n b) (head-long.1 ∙ sym head-long.0)
  up-to-behind (suc k) h =
      let t : List ℕ = records_written k (table_bytes b k) (count_in b k) in
      ap (λ (n : ℕ). drop n b) (length-append (up_to b k) t)
      ∙ sym (drop-drop (length t) (length (up_to b k)) b)
      ∙ ap (drop (length t)) (up-to-behind k (omega arith))
      ∙ written_behind k (omega arith) (table_bytes b k) (table-bytes b bytes k) (count_in b k)

  tables_start : (k : ℕ) → k ≤ 10 → starts (up_to b k) b ≡ (starts (up_to b 0) b && all_below (λ j. records_same j (table_bytes b j) (count_in b j)) k)
  tables_start zero h = sym (rw (all_below-none (λ j. records_same j (table_bytes b j) (count_in b j))) (and-true (starts (up_to b 0) b)))
  tables_start (suc k) h =
      let t : List ℕ = records_written k (table_bytes b k) (count_in b k) in
      let more : up_to b (suc k) ≡ up_to b k ++ t = unfold up_to in refl in
      ap (λ (l : List ℕ). starts l b) more
      ∙ starts-both (up_to b k) t b
      ∙ ap₂ ◌&&◌ (tables_start k (omega arith)) (ap (starts t) (up-to-behind k (omega arith)) ∙ written-starts k (omega arith) (table_bytes b k) (table-bytes b bytes k) (count_in b k))
      ∙ and_assoc (starts (up_to b 0) b) (all_below (λ j. records_same j (table_bytes b j) (count_in b j)) k) (records_same k (table_bytes b k) (count_in b k))
      ∙ ap (λ (t : Bool). starts (up_to b 0) b && t) (sym (all_below-suc (λ j. records_same j (table_bytes b j) (count_in b j)) k))

  pub same-image : same_bytes (records_image (model_of b First)) b
      ≡ ((starts (up_to b 0) b && all_below (λ k. records_same k (table_bytes b k) (count_in b k)) 10) && eqb (length (table_bytes b 10)) 0)
  same-image =
      ap (λ (l : List ℕ). same_bytes l b) (image-parts b ∙ sym (append-nil (up_to b 10)))
      ∙ same-both (up_to b 10) [] b
      ∙ ap₂ ◌&&◌ (tables_start 10 (omega arith)) (ap (same_bytes []) (up-to-behind 10 (omega arith)) ∙ same_end (table_bytes b 10))
