-- What the code's loops need: a count by its place, and a record's end within the bytes. Assumes nothing.
use Rattle.std.specs.Prelude.{ℕ, zero, suc, ◌+◌, ◌-◌, ◌≤◌, ◌<◌, ◌≡◌, Bool, true, false, cond, List, length, drop}
use Rattle.std.proofs.Common.{arith, ap, ◌∙◌, length-drop, ne_eqb}
use Rattle.std.proofs.Math.Path.{refl}
use Rattle.image_format.specs.Image.{count_in}
use Rattle.image_laws.specs.Numbers.{Bytes, below-drop}
use Rattle.image_record_test.specs.Good.{record_good, record_size, record_end}
use Rattle.image_accepted.specs.Ends.{good-long, records_end, tables_end}

pub end-inside : (k : ℕ) → k < 10 → (b : List ℕ) → Bytes b → (e : ℕ) → e ≤ length b → record_end k b e ≤ length b
unfolding record_end
end-inside k h b bytes zero l = omega arith
end-inside k h b bytes (suc e) l = rw (ne_eqb (suc e) 0 (λ q. omega arith)) (go (record_good k (drop (suc e) b)) refl)
  where
    go : (t : Bool) → record_good k (drop (suc e) b) ≡ t → cond t (suc e + record_size k (drop (suc e) b)) 0 ≤ length b
    go true g =
        let long = good-long k h (drop (suc e) b) (below-drop 256 (suc e) b bytes) g in
        let left : length (drop (suc e) b) ≡ length b - suc e = length-drop (suc e) b in
        omega arith
    go false g = omega arith

pub records-turn : (k : ℕ) (b : List ℕ) (i at r e : ℕ) → e ≡ records_end k b i at → r ≡ record_end k b e → r ≡ records_end k b (i + 1) at
records-turn k b i at r e p q = let n : suc i ≡ i + 1 = omega arith in q ∙ ap (record_end k b) p ∙ turn ∙ ap (λ (n : ℕ). records_end k b n at) n
  where
    turn : record_end k b (records_end k b i at) ≡ records_end k b (suc i) at
    turn = unfold records_end in refl

pub tables-turn : (b : List ℕ) (k r e n : ℕ) → e ≡ tables_end b k → n ≡ count_in b k → r ≡ records_end k b n e → r ≡ tables_end b (k + 1)
tables-turn b k r e n p c q = let m : suc k ≡ k + 1 = omega arith in q ∙ ap (λ (z : ℕ). records_end k b z e) c ∙ ap (records_end k b (count_in b k)) p ∙ turn ∙ ap (tables_end b) m
  where
    turn : records_end k b (count_in b k) (tables_end b k) ≡ tables_end b (suc k)
    turn = unfold tables_end in refl
