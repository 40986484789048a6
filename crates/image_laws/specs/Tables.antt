-- A table that is written is read as it was; one law over the kind of its records serves the ten. Assumes nothing.
use Prim.Native.Nat.{ℕ, zero, suc, ◌+◌, ◌<◌}
use Rattle.std.proofs.Common.{arith, sym, ◌∙◌, append_assoc, ltb-true}
use Rattle.std.proofs.Math.Nat.{zero-add}
use Rattle.std.specs.Prelude.{◌≡◌, Bool, ◌&&◌, List, [], ◌∷◌, ◌++◌}
use Rattle.std.proofs.Math.Path.{refl, ap, ap₂}
use Rattle.std.proofs.Math.Dec.{ltb, leb}
use Rattle.meaning.specs.Lists.{run, joined, all_below}
use Rattle.meaning.specs.Model.{Table}
use Rattle.meaning_list_laws.specs.Lists.{joined-none, joined_snoc, joined_same, all-run}
use Rattle.memory_writes.specs.Change.{SameTable}
use Rattle.image_format.specs.Fields.{Fields, record_image}
use Rattle.image_format.specs.Image.{table_image, count_in, table_bytes, every_record}
use Rattle.image_laws.specs.Records.{Fitting}

-- ---- n records of table k with the fields f, one behind the other

unfoldable pub records : ℕ → (ℕ → Fields) → ℕ → List ℕ
records k f n = joined (λ i. record_image k (f i)) (run 0 n)

module _ (k : ℕ) (f : ℕ → Fields) where
  pub records-none : records k f 0 ≡ []
  unfolding records run
  records-none = joined-none (λ i. record_image k (f i))

  pub records-suc : (n : ℕ) → records k f (suc n) ≡ records k f n ++ record_image k (f n)
  unfolding records run
  records-suc n =
      ap (λ j. joined (λ i. record_image k (f i)) (run 0 n ++ (j ∷ []))) (zero-add n)
      ∙ joined_snoc (λ i. record_image k (f i)) (run 0 n) n

  pub one_more : (n : ℕ) (s : List ℕ) → records k f (suc n) ++ s ≡ records k f n ++ (record_image k (f n) ++ s)
  one_more n s = ap (λ b. b ++ s) (records-suc n) ∙ append_assoc (records k f n) (record_image k (f n)) s

-- ---- table k in the image b, with the bytes s behind it

pub record Written {A : Type 0} (b : List ℕ) (k : ℕ) (fields : A → Fields) (t : Table A) (s : List ℕ) : Type 0 where
  pub fit : (i : ℕ) → i < t.used → Fitting k (fields (t.slot i))
  pub count : count_in b k ≡ t.used
  pub bytes : table_bytes b k ≡ table_image k fields t ++ s

-- ---- tables that are the same

module _ {A : Type 0} {t u : Table A} (s : SameTable t u) where
  pub table_same : (k : ℕ) (fields : A → Fields) → table_image k fields t ≡ table_image k fields u
  unfolding table_image
  table_same k fields =
      joined_same (λ i. record_image k (fields (t.slot i))) (λ i. record_image k (fields (u.slot i))) (λ i. ltb i (0 + t.used)) (run 0 t.used)
      (λ i e. ap (λ r. record_image k (fields r)) (s.slots i (rw zero-add at (ltb-true i (0 + t.used) e)))) (all-run 0 t.used)
      ∙ ap (λ n. joined (λ i. record_image k (fields (u.slot i))) (run 0 n)) s.used

  pub held-table : (held : A → Bool) (limit : ℕ) → every_record held limit t ≡ every_record held limit u
  unfolding all_below
  held-table held limit = ap₂ (λ x y. x && y) (ap (λ n. leb n limit) s.used) (below t.used s.slots ∙ ap (all_below (λ i. held (u.slot i))) s.used)
    where
      below : (n : ℕ) → ((i : ℕ) → i < n → t.slot i ≡ u.slot i) → all_below (λ i. held (t.slot i)) n ≡ all_below (λ i. held (u.slot i)) n
      below zero h = refl
      below (suc n) h = ap₂ (λ x y. x && y) (below n (λ i q. h i (omega arith))) (ap held (h n (omega arith)))

-- two that are the same as a third
pub same-third : {A : Type 0} {t u v : Table A} → SameTable t u → SameTable t v → SameTable u v
same-third {u = u} p q =
    record { used = sym p.used ∙ q.used; slots = λ i h. let l : i < _ = rw (← p.used) at h in sym (p.slots i l) ∙ q.slots i l }
