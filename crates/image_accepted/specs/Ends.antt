-- The records of an image, one behind the other, each where the one before it ends. No reader of a public promise needs this file. Assumes nothing.
use Prim.Native.Nat.{ℕ, zero, suc, ◌+◌, ◌-◌, ◌≤◌, ◌<◌}
use Rattle.std.proofs.Common.{eq-or-lt_of_le, ◌∙◌, subst, drop-drop, ne_eqb}
use native.Mathlib.Omega.{arith}
use Rattle.std.specs.Prelude.{◌≡◌, refl, Bool, true, false, cond, List, [], ◌∷◌, eqb, drop}
use Rattle.std.proofs.Math.Path.{sym, ap}
use Rattle.std.proofs.Math.Logic.{inl, inr}
use Rattle.std.proofs.lemmas.Bool.{false≢true}
use Rattle.std.proofs.Math.ListN.{length, length-drop}
use Rattle.meaning_list_laws.specs.Tests.{and_both}
use Rattle.image_format.specs.Fields.{record_image, fields_in, behind}
use Rattle.image_format.specs.Image.{count_in, behind_records, table_bytes}
use Rattle.image_laws.specs.Numbers.{Bytes, below-drop}
use Rattle.image_laws.specs.Records.{length-image}
use Rattle.image_laws.specs.Starts.{starts}
use Rattle.image_record_test.specs.Good.{spelled, holds, record_good, record_size, record_end}
use Rattle.image_record_test.specs.Explicit.{fields_here, fields-here, here-words, here-floats}
use Rattle.image_record_test.specs.Spelled.{Spelled, all-spelled}

-- where n records of table k end, the first of them at a place of the bytes b; 0 where one is not good
unfoldable pub records_end : ℕ → List ℕ → ℕ → ℕ → ℕ
records_end k b zero at = at
records_end k b (suc n) at = record_end k b (records_end k b n at)

-- and where the first k tables end, behind the precision's record
unfoldable pub tables_end : List ℕ → ℕ → ℕ
tables_end b zero = 50
tables_end b (suc k) = records_end k b (count_in b k) (tables_end b k)

-- the bytes from the place e on are s
pub record Ends (b s : List ℕ) (e : ℕ) : Type 0 where
  pub there : 0 < e
  pub inside : e ≤ length b
  pub rest : drop e b ≡ s

-- every record of table k is good, of the n that begin with the first of the bytes s
abbrev pub RecordsGood : ℕ → ℕ → List ℕ → Type 0
RecordsGood k n s = (i : ℕ) → i < n → record_good k (behind_records k i s) ≡ true

-- ---- a record that is good has its bytes

pub starts-long : (a s : List ℕ) → starts a s ≡ true → length a ≤ length s
unfolding starts
starts-long [] s e = omega arith
starts-long (x ∷ a) [] e = absurd (false≢true e)
starts-long (x ∷ a) (y ∷ s) e = let h = starts-long a s (and_both (eqb x y) (starts a s) e).1 in omega arith

lt-suc : {i n : ℕ} → i < suc n → i ≤ n
lt-suc l = omega (arith, l)

-- where it ends, it is good
end-good : (k : ℕ) (b : List ℕ) (e : ℕ) → 0 < record_end k b e → (0 < e) × (record_good k (drop e b) ≡ true)
unfolding record_end
end-good k b zero h = absurd (omega arith)
end-good k b (suc e) h = (omega arith, go (record_good k (drop (suc e) b)) (rw (ne_eqb (suc e) 0 (λ q. omega arith)) at h))
  where
    go : (t : Bool) → 0 < cond t (suc e + record_size k (drop (suc e) b)) 0 → t ≡ true
    go true q = refl
    go false q = absurd (omega arith)

module _ (k : ℕ) (h : k < 10) where
  -- what is written again takes as many bytes
  pub spelled-size : (s : List ℕ) → Bytes s → length (record_image k (spelled k (fields_in k s))) ≡ record_size k s
  unfolding record_size
  spelled-size s b =
      rw (fields-here k s) (go (all-spelled s b k h))
    where
      go : Spelled k s (fields_here k s) (spelled k (fields_here k s)) → length (record_image k (spelled k (fields_here k s))) ≡ length (record_image k (fields_here k s))
      go p = length-image k (spelled k (fields_here k s)) ∙ rw (p.fits.words, p.fits.floats, p.lists-same, ← here-words k s, ← here-floats k s) (sym (length-image k (fields_here k s)))

  pub good-long : (s : List ℕ) → Bytes s → record_good k s ≡ true → record_size k s ≤ length s
  unfolding record_good
  good-long s b e =
      let l = starts-long (record_image k (spelled k (fields_in k s))) s (and_both (holds k (fields_in k s)) (starts (record_image k (spelled k (fields_in k s))) s) e).1 in
      let z = spelled-size s b in
      omega arith

  -- ---- one record, and n of them

  module _ (b : List ℕ) (bytes : Bytes b) where
    one-ends : (s : List ℕ) (e : ℕ) → Ends b s e → record_good k s ≡ true → Ends b (behind k s) (record_end k b e)
    unfolding record_end behind record_size
    one-ends s e p g =
        let long = good-long s (subst Bytes p.rest (below-drop 256 e b bytes)) g in
        let left : length s ≡ length b - e = sym (ap length p.rest) ∙ length-drop e b in
        rw (ne_eqb e 0 (λ q. omega (arith, p.there)), p.rest, g)
        (record { there = omega (arith, p.there); inside = omega (arith, p.inside); rest = sym (drop-drop (record_size k s) e b) ∙ ap (drop (record_size k s)) p.rest })

    pub records-end : (s : List ℕ) (e n : ℕ) → Ends b s e → RecordsGood k n s → Ends b (behind_records k n s) (records_end k b n e)
    unfolding records_end behind_records
    records-end s e zero p g = p
    records-end s e (suc n) p g = one-ends (behind_records k n s) (records_end k b n e) (records-end s e n p (λ i l. g i (omega arith))) (g n (omega arith))

    pub records-good : (s : List ℕ) (e n : ℕ) → Ends b s e → 0 < records_end k b n e → RecordsGood k n s
    unfolding records_end
    records-good s e zero p h i l = absurd (omega arith)
    records-good s e (suc n) p h i l =
        let last = end-good k b (records_end k b n e) h in
        let before : RecordsGood k n s = records-good s e n p last.0 in
        elim (eq-or-lt_of_le (lt-suc l)) [
          | inl q ↦ rw (q, ← (records-end s e n p before).rest) last.1
          | inr q ↦ before i q
        ]

-- ---- the tables

module _ (b : List ℕ) (bytes : Bytes b) (head : Ends b (table_bytes b 0) 50) where
  pub tables_end_lem : (n : ℕ) → n ≤ 10 → ((k : ℕ) → k < n → RecordsGood k (count_in b k) (table_bytes b k)) → Ends b (table_bytes b n) (tables_end b n)
  unfolding tables_end table_bytes
  tables_end_lem zero h g = head
  tables_end_lem (suc n) h g =
      records-end n (omega arith) b bytes (table_bytes b n) (tables_end b n) (count_in b n) (tables_end_lem n (omega arith) (λ k l. g k (omega arith))) (g n (omega arith))

  -- a table's end is one only where the table before it has one
  records-from : (k n e : ℕ) → 0 < records_end k b n e → 0 < e
  unfolding records_end
  records-from k zero e h = h
  records-from k (suc n) e h = records-from k n e (end-good k b (records_end k b n e) h).0

  pub tables-good : (n : ℕ) → n ≤ 10 → 0 < tables_end b n → (k : ℕ) → k < n → RecordsGood k (count_in b k) (table_bytes b k)
  unfolding tables_end
  tables-good zero h p k l = absurd (omega arith)
  tables-good (suc n) h p k l =
      let before = tables-good n (omega arith) (records-from n (count_in b n) (tables_end b n) p) in
      elim (eq-or-lt_of_le (lt-suc l)) [
        | inl q ↦ rw q (records-good n (omega arith) b bytes (table_bytes b n) (tables_end b n) (count_in b n) (tables_end_lem n (omega arith) before) p)
        | inr q ↦ before k q
      ]
