-- The theorems of specs/Tables.antt that rest on numbers-read. Assumes nothing.
use Prim.Native.Nat.{ℕ, zero, suc, ◌<◌}
use Rattle.std.proofs.Common.{arith, ◌∙◌, subst}
use Rattle.std.proofs.Math.Decide.{dec_lt}
use Rattle.std.specs.Prelude.{◌≡◌, List, ◌++◌}
use Rattle.std.proofs.Math.Path.{ap, ap₂}
use Rattle.meaning.specs.Model.{Table}
use Rattle.memory_writes.specs.Change.{SameTable}
use Rattle.image_format.specs.Fields.{Fields, record_image, fields_in, behind}
use Rattle.image_format.specs.Image.{table_image, behind_records, table_bytes, fields_at, table_in}
use Rattle.image_laws.specs.Records.{Fitting}
use Rattle.image_laws.proofs.Records.{fields_read, behind-read}
use Rattle.image_laws.specs.Tables.{records, records-none, one_more, Written}

module _ (k : ℕ) (f : ℕ → Fields) where
  behind-records : (n : ℕ) (s : List ℕ) → ((i : ℕ) → i < n → Fitting k (f i)) → behind_records k n (records k f n ++ s) ≡ s
  unfolding behind_records
  behind-records zero s fit = ap (λ b. b ++ s) (records-none k f)
  behind-records (suc n) s fit =
      ap (behind k) (ap (behind_records k n) (one_more k f n s) ∙ behind-records n (record_image k (f n) ++ s) (λ i h. fit i (omega arith)))
      ∙ behind-read k (f n) s (fit n (omega arith))

  record-at : (n i : ℕ) (s : List ℕ) → ((j : ℕ) → j < n → Fitting k (f j)) → i < n → fields_in k (behind_records k i (records k f n ++ s)) ≡ f i
  record-at zero i s fit h = absurd (omega arith)
  record-at (suc n) i s fit h =
      ap (λ b. fields_in k (behind_records k i b)) (one_more k f n s)
      ∙ elim (dec_lt i n) [
        | yes l ↦ record-at n i (record_image k (f n) ++ s) (λ j q. fit j (omega arith)) l
        | no g ↦ let e : n ≡ i = omega arith in
            subst (λ j. fields_in k (behind_records k j (records k f n ++ (record_image k (f n) ++ s))) ≡ f j) e
            (ap (fields_in k) (behind-records n (record_image k (f n) ++ s) (λ j q. fit j (omega arith))) ∙ fields_read k (f n) s (fit n (omega arith)))
      ]

module _ {A : Type 0} {b : List ℕ} {k : ℕ} {fields : A → Fields} {t : Table A} {s : List ℕ} (w : Written b k fields t s) where
  pub behind-table : table_bytes b (suc k) ≡ s
  unfolding table_bytes table_image records
  behind-table = ap₂ (behind_records k) w.count w.bytes ∙ behind-records k (λ i. fields (t.slot i)) t.used s w.fit

  pub table-read : (of : Fields → A) → ((r : A) → of (fields r) ≡ r) → SameTable (table_in b k of) t
  unfolding fields_at table_image records
  table-read of back =
      record {
        used = w.count;
        slots = λ i h. ap of (ap (λ c. fields_in k (behind_records k i c)) w.bytes ∙ record-at k (λ j. fields (t.slot j)) t.used i s w.fit (rw w.count at h)) ∙ back (t.slot i);
      }
