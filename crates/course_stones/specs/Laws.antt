-- Sums one after the other. Assumes nothing.
use Prim.Native.Nat.{ℕ, zero, suc, ◌+◌, ◌-◌, ◌≤◌, ◌<◌}
use Rattle.std.proofs.Common.{arith, add-one, sym, ◌∙◌, take-suc}
use Rattle.std.specs.Prelude.{◌≡◌, ltb, ◌+ℤ◌, length, get_or, take}
use Rattle.std.proofs.Math.Path.{refl, ap}
use mathlib.Core.List.{List, [], ◌∷◌, ◌++◌, map, map-append, append-nil}
use Rattle.std.proofs.Math.IntN.{sub_ℕ}
use borrow.Author.Tests.{le-leb, lt-leb, le-ltb, lt-ltb, ltb-true}
use Rattle.geom_lines_planes.specs.Refuse.{◌unless◌, ◌then◌}
use Rattle.meaning_list_laws.specs.Tests.{then-zero, unless-zero}
use Rattle.meaning_courses.specs.Courses.{Entry, Courses, bodies_in, stones_of}
use Rattle.meaning_course_laws.specs.Lists.{bodies-append}
use Rattle.memory_layout.specs.Layout.{word}
use Rattle.memory_layout.specs.Decode.{list_at}
use Rattle.sheet_words.specs.declared.Total.{Total}
use Rattle.sheet_words.specs.Totals.{words_of_total}
use Rattle.course_table.specs.Table.{course_at, entry_of, courses_in}
use Rattle.course_stones.specs.declared.CourseSum.{CourseSum}
use Rattle.course_stones.specs.Sums.{total_in, sum_with, with_stone, with_body, with_bodies, within}

-- ---- one stone

module _ (s : CourseSum) (r p m n : ℕ) (e : n ≡ (r then 8 unless ltb s.stones 65536)) where
  pub stone-refused : (n ≡ 0 → ⊥) → (k : ℕ) → k ≡ (s.refused then n) → record { refused = k; stones = s.stones; low = s.low; high = s.high } ≡ with_stone s r p m
  unfolding with_stone
  stone-refused z k q = by n z q ∙ ap (λ i. sum_with i s p m) e
    where
      by : (i : ℕ) → (i ≡ 0 → ⊥) → k ≡ (s.refused then i) → record { refused = k; stones = s.stones; low = s.low; high = s.high } ≡ sum_with i s p m
      by zero z q = absurd (z refl)
      by (suc i) z q = ap (λ j. record { refused = j; stones = s.stones; low = s.low; high = s.high }) q

  pub stone-added : n ≡ 0 → (t : Total) → t ≡ words_of_total (total_in s +ℤ sub_ℕ p m) → record { refused = s.refused; stones = s.stones + 1; low = t.low; high = t.high } ≡ with_stone s r p m
  unfolding with_stone
  stone-added z t q = ap (λ (u : Total). record { refused = s.refused; stones = s.stones + 1; low = u.low; high = u.high }) q ∙ ap (λ i. sum_with i s p m) (sym z ∙ e)

  pub has_room : n ≡ 0 → s.stones < 65536
  has_room z = ltb-true s.stones 65536 (unless-zero 7 (ltb s.stones 65536) (then-zero r (8 unless ltb s.stones 65536) (sym e ∙ z)).1)

-- ---- bodies

module _ (R P M : List ℕ) where
  pub body-beyond : (s : CourseSum) (b : ℕ) → 64 ≤ b → with_stone s 2 0 0 ≡ with_body R P M s b
  unfolding with_body
  body-beyond s b h = rw (le-leb 64 b h)

  pub body-within : (s : CourseSum) (b : ℕ) → b < 64 → with_stone s (word R b) (word P b) (word M b) ≡ with_body R P M s b
  unfolding with_body
  body-within s b h = rw (lt-leb 64 b h)

  pub bodies-both : (s : CourseSum) (k l : List ℕ) → with_bodies R P M s (k ++ l) ≡ with_bodies R P M (with_bodies R P M s k) l
  unfolding with_bodies
  bodies-both s [] l = refl
  bodies-both s (b ∷ k) l = bodies-both (with_body R P M s b) k l

  -- ---- a course, level by level

  module _ (s : CourseSum) (w : List ℕ) (n c : ℕ) where
    abbrev t : Courses
    t = courses_in w

    one_less : (n ≡ 0 → ⊥) → n ≡ suc (n - 1)
    one_less h = omega arith

    pub no-level : n ≡ 0 → s ≡ with_bodies R P M s (stones_of t n c)
    unfolding with_bodies stones_of
    no-level e = rw e

    pub not_there : (n ≡ 0 → ⊥) → word w 0 ≤ c → s ≡ with_bodies R P M s (stones_of t n c)
    unfolding with_bodies stones_of bodies_in courses_in
    not_there h g = rw (one_less h, le-ltb c (word w 0) g)

    pub by_entries : (n ≡ 0 → ⊥) → c < word w 0 → (r : CourseSum) → r ≡ with_bodies R P M s (bodies_in (within t (n - 1)) (map entry_of (list_at w (course_at c)))) → r ≡ with_bodies R P M s (stones_of t n c)
    unfolding stones_of courses_in
    by_entries h g r e = rw (one_less h, lt-ltb c (word w 0) g) e

  -- ---- entries one after the other

  module _ (f : ℕ → List ℕ) where
    pub no-entry : (s : CourseSum) → s ≡ with_bodies R P M s (bodies_in f [])
    unfolding with_bodies bodies_in
    no-entry s = refl

    pub entry-turn : (s a r : CourseSum) (l : List ℕ) (k : ℕ) → k < length l → a ≡ with_bodies R P M s (bodies_in f (map entry_of (take k l))) → r ≡ with_bodies R P M a (bodies_in f (entry_of (get_or l k 0) ∷ []))
        → r ≡ with_bodies R P M s (bodies_in f (map entry_of (take (k + 1) l)))
    entry-turn s a r l k h e q =
        q
        ∙ ap (λ (i : CourseSum). with_bodies R P M i (bodies_in f (entry_of (get_or l k 0) ∷ []))) e
        ∙ sym (bodies-both s (bodies_in f (map entry_of (take k l))) (bodies_in f (entry_of (get_or l k 0) ∷ [])))
        ∙ ap (with_bodies R P M s) (sym (bodies-append f (map entry_of (take k l)) (entry_of (get_or l k 0) ∷ [])))
        ∙ ap (λ (i : List Entry). with_bodies R P M s (bodies_in f i)) (sym (map-append entry_of (take k l) (get_or l k 0 ∷ [])) ∙ ap (map entry_of) (sym (take-suc l k 0 h) ∙ ap (λ i. take i l) (sym (add-one k))))

    pub entry-body : (s r : CourseSum) (e : ℕ) → e < 65536 → r ≡ with_body R P M s e → r ≡ with_bodies R P M s (bodies_in f (entry_of e ∷ []))
    unfolding with_bodies bodies_in entry_of
    entry-body s r e h q = rw (lt-ltb e 65536 h) q

    pub entry-course : (s r : CourseSum) (e : ℕ) → 65536 ≤ e → r ≡ with_bodies R P M s (f (e - 65536)) → r ≡ with_bodies R P M s (bodies_in f (entry_of e ∷ []))
    unfolding bodies_in entry_of
    entry-course s r e h q = rw (le-ltb e 65536 h, append-nil (f (e - 65536))) q
