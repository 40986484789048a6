-- Laws of the loops: listings counted one after the other, and what the counts tell. Assumes nothing.
use Rattle.std.specs.Prelude.{ℕ, zero, suc, ◌+◌, ◌<◌, ◌≡◌, refl, Bool, true, false, cond, List, [], ◌∷◌, ◌++◌, eqb, leb, ltb, length, get_or, take, replicate}
use Rattle.std.proofs.Common.{arith, add-one, zero-add, sym, ap, ◌∙◌, length-set, get_or-set_same, get_or-set_other, ltb-true, eqb-true}
use Rattle.std.proofs.lemmas.List.{length-replicate, get_or-replicate}
use Rattle.std.proofs.lemmas.Bool.{lt-leb, eqb-false}
use Rattle.geom_lines_planes.specs.Refuse.{◌unless◌}
use Rattle.meaning.specs.Lists.{run, count, joined, all_below}
use Rattle.meaning.specs.Formed.{bit}
use Rattle.meaning_list_laws.specs.Tests.{all_below-at}
use Rattle.meaning_list_laws.specs.Lists.{joined_snoc}
use Rattle.memory_layout.specs.Layout.{word}
use Rattle.memory_layout.specs.Entries.{list_tables}
use Rattle.walk_marks.specs.Laws.{take_more}
use Rattle.split_foreign.specs.Facts.{Rows}
use Rattle.mend_tests.specs.Status.{followed, more, counted, tallied, again, listed, twice}

-- ---- the lists that lead from table to table

pub followed-list : (k : ℕ) → k < 5 → word followed k < 8
unfolding all_below
followed-list k h = ltb-true (word followed k) 8 (all_below-at (λ i. ltb (word followed i) 8) 5 k refl h)

pub followed-table : (k : ℕ) → k < 5 → word list_tables (word followed k) ≡ k
unfolding all_below
followed-table k h = eqb-true (word list_tables (word followed k)) k (all_below-at (λ i. eqb (word list_tables (word followed i)) i) 5 k refl h)

-- ---- one listing more, one list more

pub tallied-none : (c : List ℕ) → tallied c [] ≡ c
unfolding tallied
tallied-none c = refl

pub tallied-length : (c l : List ℕ) → length (tallied c l) ≡ length c
unfolding tallied
tallied-length c [] = refl
tallied-length c (i ∷ l) = tallied-length (counted c i) l ∙ simp length-set

tallied-append : (c k l : List ℕ) → tallied c (k ++ l) ≡ tallied (tallied c k) l
unfolding tallied
tallied-append c [] l = refl
tallied-append c (i ∷ k) l = tallied-append (counted c i) k l

pub tallied-turn : (c l : List ℕ) (k : ℕ) (now : List ℕ) → k < length l → now ≡ tallied c (take k l) → counted now (get_or l k 0) ≡ tallied c (take (k + 1) l)
unfolding tallied
tallied-turn c l k now h e = rw (e, take_more l k 0 h) (sym (tallied-append c (take k l) (get_or l k 0 ∷ [])))

pub joined-start : (f : ℕ → List ℕ) → joined f (run 0 0) ≡ []
unfolding joined run
joined-start f = refl

pub tallied-more : (c : List ℕ) (f : ℕ → List ℕ) (p : ℕ) (now : List ℕ) → now ≡ tallied c (joined f (run 0 p)) → tallied now (f p) ≡ tallied c (joined f (run 0 (p + 1)))
unfolding run
tallied-more c f p now e = rw (e, add-one, zero-add, joined_snoc f (run 0 p) p) (sym (tallied-append c (joined f (run 0 p)) (f p)))

-- ---- what the counts tell

-- n listings more
unfoldable times : ℕ → ℕ → ℕ
times zero a = a
times (suc n) a = times n (more a)

tallied-at : (c l : List ℕ) (i : ℕ) → i < length c → word (tallied c l) i ≡ times (count i l) (word c i)
unfolding tallied times count
tallied-at c [] i h = refl
tallied-at c (y ∷ l) i h = tallied-at (counted c y) l i (rw length-set h) ∙ by (eqb i y) refl
  where
    by : (b : Bool) → eqb i y ≡ b → times (count i l) (word (counted c y) i) ≡ times (cond b (suc (count i l)) (count i l)) (word c i)
    by true e = let q : i ≡ y = eqb-true i y e in rw (← q, get_or-set_same c i (more (word c i)) 0 h)
    by false e = ap (times (count i l)) (get_or-set_other c y i (more (word c y)) 0 (eqb-false i y e))

times-two : (n : ℕ) → times n 2 ≡ 2
unfolding times
times-two zero = refl
times-two (suc n) = times-two n

told : (n : ℕ) → bit (ltb 1 (times n 0)) ≡ 1 unless leb n 1
unfolding times
told zero = refl
told (suc zero) = refl
told (suc (suc n)) = rw (times-two n, lt-leb (suc (suc n)) 1 (omega arith))

-- counts from nothing tell what is listed twice
pub again-twice : (room w : List ℕ) (k n i : ℕ) (c : List ℕ) → c ≡ tallied (replicate n 0) (listed room w k) → i < n → again c i ≡ twice room w k i
unfolding twice
again-twice room w k n i c e h =
    ap (λ (c : List ℕ). again c i) e
    ∙ ap (λ m. bit (ltb 1 m)) (tallied-at (replicate n 0) (listed room w k) i (rw length-replicate h) ∙ ap (times (count i (listed room w k))) (get_or-replicate n i 0 0 h))
    ∙ told (count i (listed room w k))

-- statuses that are the same of all records make the same rows
pub rows_same : (n : ℕ) (f g : ℕ → ℕ) (s : List ℕ) → ((i : ℕ) → i < n → f i ≡ g i) → Rows n f s → Rows n g s
rows_same n f g s h r = record { each = λ k. r.each k ∙ by k (ltb k n) refl }
  where
    by : (k : ℕ) (b : Bool) → ltb k n ≡ b → cond b (f k) 2 ≡ cond b (g k) 2
    by k true e = h k (ltb-true k n e)
    by k false e = refl
