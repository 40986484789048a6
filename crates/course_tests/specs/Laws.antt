-- The number that is found, level by level and entry by entry. Assumes nothing.
use Rattle.std.specs.Prelude.{ℕ, suc, ◌-◌, ◌≤◌, ◌<◌, ◌≡◌, Bool, ◌||◌, List, [], ◌∷◌, ◌++◌, map, Float}
use native.Mathlib.Omega.{arith}
use Rattle.std.proofs.Common.{◌∙◌}
use Rattle.std.proofs.Math.Path.{refl}
use Rattle.std.proofs.Math.Bool.{true, false, not}
use borrow.Author.Tests.{le-ltb, lt-ltb}
use Rattle.geom_lines_planes.specs.Refuse.{◌unless◌, ◌then◌}
use Rattle.meaning.specs.Model.{Model}
use Rattle.meaning.specs.Offices.{body_for}
use Rattle.meaning.specs.Refuse.{◌if◌}
use Rattle.meaning_list_laws.specs.Tests.{or-false}
use Rattle.meaning_courses.specs.Courses.{Entry, of_body, of_course, Courses, some_entry, there, missing, too_deep}
use Rattle.meaning_course_laws.specs.Lists.{some-append}
use Rattle.memory_layout.specs.Layout.{word}
use Rattle.memory_layout.specs.Decode.{decode, list_at}
use Rattle.course_table.specs.Table.{course_at, entry_of, courses_in}
use Rattle.course_tests.specs.Found.{worse, body_found, entry_found, entries_found, course_found}

-- ---- a body

module _ (room w : List ℕ) (x : List Float) (o b i : ℕ) (e : i ≡ body_for (decode room w x) o b) where
  pub body-there : i < word w 0 → 0 ≡ body_found (decode room w x) o b
  unfolding body_found decode
  body-there h = let g : body_for (decode room w x) o b < word w 0 = omega arith in rw (lt-ltb (body_for (decode room w x) o b) (word w 0) g)

  pub body-missing : word w 0 ≤ i → 2 ≡ body_found (decode room w x) o b
  unfolding body_found decode
  body-missing h = let g : word w 0 ≤ body_for (decode room w x) o b = omega arith in rw (le-ltb (body_for (decode room w x) o b) (word w 0) g)

-- ---- a course

module _ (m : Model) (o : ℕ) (w : List ℕ) (n c : ℕ) where
  abbrev t : Courses
  t = courses_in w

  pub no-level : n ≡ 0 → 1 ≡ course_found m o t n c
  unfolding course_found missing too_deep
  no-level e = rw e

  one_less : (n ≡ 0 → ⊥) → n ≡ suc (n - 1)
  one_less h = omega arith

  pub not_there : (n ≡ 0 → ⊥) → word w 0 ≤ c → 2 ≡ course_found m o t n c
  unfolding course_found missing courses_in
  not_there h g = rw (one_less h, le-ltb c (word w 0) g)

  pub by_entries : (n ≡ 0 → ⊥) → c < word w 0 → (r : ℕ) → r ≡ entries_found m o t (n - 1) (map entry_of (list_at w (course_at c))) → r ≡ course_found m o t n c
  unfolding course_found entries_found missing too_deep courses_in
  by_entries h g r e = rw (one_less h, lt-ltb c (word w 0) g) e

-- ---- entries one after the other

module _ (m : Model) (o : ℕ) (t : Courses) (n : ℕ) where
  pub none_found : 0 ≡ entries_found m o t n []
  unfolding entries_found some_entry
  none_found = refl

  -- 2 before 1, wherever each stands
  before : (a b d e : Bool) → worse (2 if a then 1 if d) (2 if b then 1 if e) ≡ (2 if (a || b) then 1 if (d || e))
  before true true d e = refl
  before true false d true = refl
  before true false d false = refl
  before false true true e = refl
  before false true false e = refl
  before false false true true = refl
  before false false true false = refl
  before false false false true = refl
  before false false false false = refl

  pub one_found : (e : Entry) → entry_found m o t n e ≡ entries_found m o t n (e ∷ [])
  unfolding entry_found entries_found some_entry body_found course_found
  one_found (of_body b) = by (there m o b)
    where
      by : (k : Bool) → (2 unless k) ≡ (2 if (not k || false) then 1 if (false || false))
      by true = refl
      by false = refl
  one_found (of_course d) = rw (or-false (missing m o t n d), or-false (too_deep t n d))

  pub both_found : (k l : List Entry) → worse (entries_found m o t n k) (entries_found m o t n l) ≡ entries_found m o t n (k ++ l)
  unfolding entries_found
  both_found k l =
      before (some_entry (λ b. not (there m o b)) (λ d. missing m o t n d) k) (some_entry (λ b. not (there m o b)) (λ d. missing m o t n d) l) (some_entry (λ b. false) (λ d. too_deep t n d) k) (some_entry (λ b. false) (λ d. too_deep t n d) l)
      ∙ rw (some-append (λ b. not (there m o b)) (λ d. missing m o t n d) k l, some-append (λ b. false) (λ d. too_deep t n d) k l)

-- ---- an entry

module _ (m : Model) (o : ℕ) (t : Courses) (n e r : ℕ) where
  pub entry-body : e < 65536 → r ≡ body_found m o e → r ≡ entry_found m o t n (entry_of e)
  unfolding entry_found entry_of
  entry-body h q = rw (lt-ltb e 65536 h) q

  pub entry-course : 65536 ≤ e → r ≡ course_found m o t n (e - 65536) → r ≡ entry_found m o t n (entry_of e)
  unfolding entry_found entry_of
  entry-course h q = rw (le-ltb e 65536 h) q
