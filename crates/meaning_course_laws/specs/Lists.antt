-- Laws of the lists of which courses are made. Assumes nothing.
use Rattle.std.specs.Prelude.{ℕ, zero, suc, ◌*◌, ◌^◌, ◌≤◌, ◌≡◌, refl, Bool, true, false, ◌||◌, List, [], ◌∷◌, ◌++◌, ℤ, ◌+ℤ◌, length, replicate}
use Rattle.std.proofs.Common.{mul-suc, suc-mul, pow-suc, mul-le-mul_left, arith, sym, ap, ◌∙◌, append_assoc, length-append}
use Rattle.std.proofs.Math.IntN.{+ℤ_idl, +ℤ_assoc}
use Rattle.meaning.specs.Model.{Model}
use Rattle.meaning.specs.Offices.{body_for}
use Rattle.meaning_sheets.specs.Sheets.{six_volume}
use Rattle.meaning_courses.specs.Courses.{Entry, of_body, of_course, Courses, entries_of, bodies_in, stones_of, some_entry, total_of}

-- ---- entries one behind the other

pub bodies-append : (f : ℕ → List ℕ) (k l : List Entry) → bodies_in f (k ++ l) ≡ bodies_in f k ++ bodies_in f l
unfolding bodies_in
bodies-append f [] l = refl
bodies-append f (of_body b ∷ k) l = ap (λ (r : List ℕ). b ∷ r) (bodies-append f k l)
bodies-append f (of_course d ∷ k) l = ap (λ (r : List ℕ). f d ++ r) (bodies-append f k l) ∙ sym (append_assoc (f d) (bodies_in f k) (bodies_in f l))

or_assoc : (a b c : Bool) → ((a || b) || c) ≡ (a || (b || c))
or_assoc true b c = refl
or_assoc false b c = refl

pub some-append : (p q : ℕ → Bool) (k l : List Entry) → some_entry p q (k ++ l) ≡ (some_entry p q k || some_entry p q l)
unfolding some_entry
some-append p q [] l = refl
some-append p q (of_body b ∷ k) l = ap (λ (r : Bool). p b || r) (some-append p q k l) ∙ sym (or_assoc (p b) (some_entry p q k) (some_entry p q l))
some-append p q (of_course d ∷ k) l = ap (λ (r : Bool). q d || r) (some-append p q k l) ∙ sym (or_assoc (q d) (some_entry p q k) (some_entry p q l))

pub total-append : (m : Model) (o : ℕ) (k l : List ℕ) → total_of m o (k ++ l) ≡ total_of m o k +ℤ total_of m o l
unfolding total_of
total-append m o [] l = sym (+ℤ_idl (total_of m o l))
total-append m o (b ∷ k) l = ap (λ (z : ℤ). six_volume m (body_for m o b) +ℤ z) (total-append m o k l) ∙ sym (+ℤ_assoc (six_volume m (body_for m o b)) (total_of m o k) (total_of m o l))

-- ---- how many

-- each entry has p stones at most
entries-few : (f : ℕ → List ℕ) (p : ℕ) → 1 ≤ p → ((d : ℕ) → length (f d) ≤ p) → (l : List Entry) → length (bodies_in f l) ≤ p * length l
unfolding bodies_in
entries-few f p h g [] = omega arith
entries-few f p h g (of_body b ∷ l) = let r = entries-few f p h g l in simp (mul-suc) (omega arith)
entries-few f p h g (of_course d ∷ l) = let r = entries-few f p h g l in let q = g d in simp (length-append, mul-suc) (omega arith)

few-one : (n : ℕ) → 1 ≤ 16 ^ n
few-one zero = omega arith
few-one (suc n) = let r = few-one n in let e = pow-suc 16 n in omega arith

-- a course of n levels, each of up to 16 entries
pub stones-few : (t : Courses) → ((c : ℕ) → length (entries_of t c) ≤ 16) → (n c : ℕ) → length (stones_of t n c) ≤ 16 ^ n
unfolding stones_of
stones-few t h zero c = omega arith
stones-few t h (suc n) c =
    let a = entries-few (λ d. stones_of t n d) (16 ^ n) (few-one n) (λ d. stones-few t h n d) (entries_of t c) in
    let b = mul-le-mul_left (16 ^ n) (h c) in
    let e = pow-suc 16 n in
    omega arith

-- of n entries that are one course
pub same_entries : (f : ℕ → List ℕ) (d n : ℕ) → length (bodies_in f (replicate n (of_course d))) ≡ n * length (f d)
unfolding bodies_in
same_entries f d zero = omega arith
same_entries f d (suc n) = let r = same_entries f d n in simp (length-append, suc-mul) (omega arith)
