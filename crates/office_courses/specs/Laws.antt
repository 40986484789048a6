-- What a course answers, told in two steps. Assumes nothing.
use Prim.Native.Nat.{ℕ, zero, suc, ◌≤◌, ◌<◌}
use Rattle.std.proofs.Math.Decide.{dec_lt}
use Rattle.std.proofs.Common.{arith, sym, ◌∙◌}
use Rattle.std.specs.Prelude.{◌≡◌, Bool, leb, Float, length}
use Rattle.std.proofs.Math.Path.{refl, ap}
use Rattle.std.proofs.Math.Bool.{true, false}
use mathlib.Core.List.{List}
use Rattle.std.proofs.Math.ListN.{replicate, length-map}
use Rattle.std.proofs.lemmas.List.{length-replicate}
use borrow.Author.Tests.{le-leb, lt-leb, lt-ltb, le-ltb}
use Rattle.geom_lines_planes.specs.Refuse.{◌unless◌, ◌then◌}
use Rattle.meaning.specs.Model.{Model, has}
use Rattle.meaning.specs.Offices.{office_refusal}
use Rattle.meaning.specs.Refuse.{◌if◌}
use Rattle.meaning_list_laws.specs.Tests.{then-zero, unless-zero}
use Rattle.meaning_courses.specs.Courses.{Courses, entries_of, stones_of, missing, too_deep, LEVELS, stones_refusal, course_refusal, course_stones, course_total}
use Rattle.meaning_course_laws.specs.Statements.{few-stones}
use Rattle.memory_layout.specs.Layout.{word}
use Rattle.memory_layout.specs.Decode.{decode, list_at}
use Rattle.memory_layout.specs.Laws.{fit_of, held-length, version-there}
use Rattle.memory_layout.specs.Readable.{readable}
use Rattle.memory_offices.specs.Sight.{by_office}
use Rattle.walk_answers.specs.Calls.{reach}
use Rattle.sheet_words.specs.Totals.{words_of_total}
use Rattle.course_table.specs.Facts.{Laid}
use Rattle.course_table.specs.Table.{course_at, entry_of, courses_in, courses_ok}
use Rattle.course_table.specs.Laws.{laid_of, laid-lies, course-held}
use Rattle.course_tests.specs.Found.{course_found}
use Rattle.course_stones.specs.declared.CourseSum.{CourseSum}
use Rattle.course_stones.specs.Sums.{new_sum, course_sum}
use Rattle.office_courses.specs.Answers.{course_number, course_answer}
use Rattle.office_courses.specs.Told.{tests_number, sum_if, told_sum}
use Rattle.office_courses.specs.Stones.{exactly, stones-met, first-decides, added-up}

-- ---- the tests

module _ (room w : List ℕ) (x : List Float) (o : ℕ) (k : List ℕ) (c : ℕ) (marks : List ℕ) where
  pub unread-courses : courses_ok k ≡ false → 9 ≡ tests_number room w x o k c marks
  unfolding tests_number
  unread-courses e = rw e

  module _ (e : courses_ok k ≡ true) where
    pub unread-tables : readable room w x ≡ false → 9 ≡ tests_number room w x o k c marks
    unfolding tests_number by_office
    unread-tables f = rw (e, f)

    module _ (f : readable room w x ≡ true) where
      pub no-office : 1 < o → 1 ≡ tests_number room w x o k c marks
      unfolding tests_number by_office
      no-office h = rw (e, f, lt-leb o 1 h)

      pub short-marks : o ≤ 1 → length marks < word room 3 → 8 ≡ tests_number room w x o k c marks
      unfolding tests_number by_office
      short-marks h g = rw (e, f, le-leb o 1 h, lt-leb (word room 3) (length marks) g)

      pub found-so : o ≤ 1 → word room 3 ≤ length marks → (r : ℕ) → r ≡ course_found (decode room w x) o (courses_in k) LEVELS c → r ≡ tests_number room w x o k c marks
      unfolding tests_number by_office
      found-so h g r q = rw (e, f, le-leb o 1 h, le-leb (word room 3) (length marks) g) q

-- readable tables have a count of bodies, 64 at most
pub bodies-few : (room w : List ℕ) (x : List Float) → readable room w x ≡ true → (1 ≤ length w) × (word w 0 ≤ 64)
bodies-few room w x e =
    let s = (fit_of room w x e).sized in
    let a = version-there room w s.words in
    let b = s.counts 0 (omega arith) in
    let d = s.small.small 0 (omega arith) in
    (omega arith, omega arith)

-- ---- what is told

module _ (s : CourseSum) where
  pub told-refused : (s.refused ≡ 0 → ⊥) → record { refused = s.refused; stones = 0; low = 0; high = 0 } ≡ told_sum s
  unfolding told_sum
  told-refused z = by s.refused z
    where
      by : (n : ℕ) → (n ≡ 0 → ⊥) → record { refused = n; stones = 0; low = 0; high = 0 } ≡ sum_if n s.stones s.low s.high
      by zero q = absurd (q refl)
      by (suc n) q = refl

  pub told-given : s.refused ≡ 0 → record { refused = 0; stones = s.stones; low = s.low; high = s.high } ≡ told_sum s
  unfolding told_sum
  told-given z = ap (λ n. sum_if n s.stones s.low s.high) (sym z)

-- ---- the answer

-- what comes behind five tests
behind : (a b o d p q s n : ℕ) → (a then b then o then d then p then q) ≡ suc n → (a then b then o then d then o then p then q then s) ≡ suc n
behind zero zero zero zero zero zero s n e = absurd (omega arith)
behind zero zero zero zero zero (suc q) s n e = e
behind zero zero zero zero (suc p) q s n e = e
behind zero zero zero (suc d) p q s n e = e
behind zero zero (suc o) d p q s n e = e
behind zero (suc b) o d p q s n e = e
behind (suc a) b o d p q s n e = e

pub record Passed (room w : List ℕ) (x : List Float) (o : ℕ) (k : List ℕ) (c : ℕ) (marks : List ℕ) : Type 0 where
  pub courses : courses_ok k ≡ true
  pub tables : readable room w x ≡ true
  pub office : office_refusal o ≡ 0
  pub reached : reach room 3 marks ≡ true
  pub all_there : missing (decode room w x) o (courses_in k) LEVELS c ≡ false
  pub not-deep : too_deep (courses_in k) LEVELS c ≡ false

module _ (room w : List ℕ) (x : List Float) (o : ℕ) (k : List ℕ) (c : ℕ) (marks : List ℕ) where
  abbrev m : Model
  m = decode room w x

  abbrev t : Courses
  t = courses_in k

  abbrev l : List ℕ
  l = stones_of t LEVELS c

  pub refused-so : (n : ℕ) → n ≡ tests_number room w x o k c marks → (n ≡ 0 → ⊥) → record { refused = n; stones = 0; low = 0; high = 0 } ≡ course_answer room w x o k c marks
  unfolding tests_number course_answer course_number course_refusal course_found by_office
  refused-so zero e z = absurd (z refl)
  refused-so (suc n) e z = rw (behind (9 unless courses_ok k) (9 unless readable room w x) (office_refusal o) (8 unless reach room 3 marks) (2 if missing m o t LEVELS c) (1 if too_deep t LEVELS c) (stones_refusal m o l) n (sym e))

  pub passed : tests_number room w x o k c marks ≡ 0 → Passed room w x o k c marks
  unfolding tests_number course_found by_office
  passed e =
      let a = then-zero (9 unless courses_ok k) _ e in
      let b = then-zero (9 unless readable room w x) _ a.1 in
      let d = then-zero (office_refusal o) _ b.1 in
      let f = then-zero (8 unless reach room 3 marks) _ d.1 in
      let g = then-zero (2 if missing m o t LEVELS c) _ f.1 in
      record {
        courses = unless-zero 8 (courses_ok k) a.0;
        tables = unless-zero 8 (readable room w x) b.0;
        office = d.0;
        reached = unless-zero 7 (reach room 3 marks) f.0;
        all_there = if-zero 1 (missing m o t LEVELS c) g.0;
        not-deep = if-zero 0 (too_deep t LEVELS c) g.1;
      }
    where
      if-zero : (n : ℕ) (b : Bool) → (suc n if b) ≡ 0 → b ≡ false
      if-zero n true q = absurd (omega arith)
      if-zero n false q = refl

  -- no course of a table that can be read has more than 16 entries
  entries-few : Laid k → (d : ℕ) → length (entries_of t d) ≤ 16
  unfolding courses_in
  entries-few laid d = elim (dec_lt d (word k 0)) [
    | yes h ↦ rw (lt-ltb d (word k 0) h, length-map (list_at k (course_at d)) entry_of, held-length k (course_at d) (course-held k d (laid-lies k d laid h) (laid.short d h))) (laid.short d h)
    | no h ↦ rw (le-ltb d (word k 0) (omega arith)) (omega arith)
  ]

  number-so : Passed room w x o k c marks → course_number room w x o k c marks ≡ stones_refusal m o l
  unfolding course_number course_refusal by_office
  number-so p = rw (p.courses, p.tables, p.office, p.reached, p.all_there, p.not-deep)

  settled : (n : ℕ) (s : CourseSum) → s.refused ≡ n → (n ≡ 0 → s ≡ exactly (course_stones t c) (course_total m o t c))
      → told_sum s ≡ sum_if n (course_stones t c) (words_of_total (course_total m o t c)).low (words_of_total (course_total m o t c)).high
  unfolding told_sum
  settled zero s e f = ap (λ (i : CourseSum). sum_if i.refused i.stones i.low i.high) (f refl)
  settled (suc n) s e f = ap (λ i. sum_if i s.stones s.low s.high) e

  pub told-so : Passed room w x o k c marks → told_sum (course_sum room w x o k c (replicate (length marks) 0)) ≡ course_answer room w x o k c marks
  unfolding course_sum course_answer
  told-so p =
      let zeros : List ℕ = replicate (length marks) 0 in
      let few = (bodies-few room w x p.tables).1 in
      let same : reach room 3 zeros ≡ true = ap (leb (word room 3)) (length-replicate (length marks) 0) ∙ p.reached in
      let there = stones-met m o k LEVELS c p.all_there in
      let many = few-stones t (entries-few (laid_of k p.courses)) c in
      settled (stones_refusal m o l) (course_sum room w x o k c zeros) (first-decides room w x o k zeros p.tables same few l new_sum there (omega arith)) (added-up room w x o k zeros p.tables same few l there many)
      ∙ ap (λ n. sum_if n (course_stones t c) (words_of_total (course_total m o t c)).low (words_of_total (course_total m o t c)).high) (sym (number-so p))
