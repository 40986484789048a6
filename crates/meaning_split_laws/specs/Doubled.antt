-- A list, and the same list with one entry doubled: a new id right after or right before each meeting of an old one. Assumes nothing.
use Rattle.std.specs.Prelude.{ℕ, suc, ◌+◌, ◌≡◌, Bool, true, false, cond, not, ◌||◌, eqb, length}
use Rattle.std.proofs.Common.{arith, sym, ◌∙◌}
use Rattle.std.proofs.Math.Path.{refl, ap}
use mathlib.Core.List.{List, [], ◌∷◌, ◌++◌, map, append-nil, map-append}
use borrow.Author.Tests.{eqb-true, eqb-false, ne_eqb, eq-eqb}
use Rattle.meaning.specs.Lists.{all, member, count, joined, meet, meets, firsts, same}
use Rattle.meaning.specs.Formed.{bit}
use Rattle.meaning_split_laws.specs.Terms.{sifted, without}
use Rattle.meaning_list_laws.specs.Tests.{and_both, or-false}
use Rattle.meaning_list_laws.specs.Lists.{count-snoc, member-counted, member-uncounted, member-append, member-one, meet-old, meet-new}
use Rattle.meaning_split_laws.specs.Struck.{sifted-append}

-- the second list is the first with n after or before each e
pub data Doubled (e n : ℕ) : List ℕ → List ℕ → Type 0 where
  ended : Doubled e n [] []
  other : {y : ℕ} {k l : List ℕ} → (y ≡ e → ⊥) → (y ≡ n → ⊥) → Doubled e n k l → Doubled e n (y ∷ k) (y ∷ l)
  after : {k l : List ℕ} → Doubled e n k l → Doubled e n (e ∷ k) (e ∷ n ∷ l)
  before : {k l : List ℕ} → Doubled e n k l → Doubled e n (e ∷ k) (n ∷ e ∷ l)

module _ (e n : ℕ) where
  pub doubled-append : {k l i j : List ℕ} → Doubled e n k l → Doubled e n i j → Doubled e n (k ++ i) (l ++ j)
  doubled-append ended d = d
  doubled-append (other p q r) d = other p q (doubled-append r d)
  doubled-append (after r) d = after (doubled-append r d)
  doubled-append (before r) d = before (doubled-append r d)

  pub doubled-joined : (f g : ℕ → List ℕ) (p : ℕ → Bool) (l : List ℕ) → ((y : ℕ) → p y ≡ true → Doubled e n (f y) (g y)) → all p l ≡ true → Doubled e n (joined f l) (joined g l)
  unfolding joined all
  doubled-joined f g p [] h a = ended
  doubled-joined f g p (y ∷ l) h a =
      let both : (p y ≡ true) × (all p l ≡ true) = and_both (p y) (all p l) a in
      doubled-append (h y both.0) (doubled-joined f g p l h both.1)

  pub doubled-mapped : (h i : ℕ → ℕ) (f g : ℕ → List ℕ) (p : ℕ → Bool) (l : List ℕ) → ((y : ℕ) → p y ≡ true → Doubled e n (map h (f y)) (map i (g y))) → all p l ≡ true
      → Doubled e n (map h (joined f l)) (map i (joined g l))
  unfolding joined all
  doubled-mapped h i f g p [] d a = ended
  doubled-mapped h i f g p (y ∷ l) d a =
      let both : (p y ≡ true) × (all p l ≡ true) = and_both (p y) (all p l) a in
      rw (map-append h (f y) (joined f l), map-append i (g y) (joined g l)) (doubled-append (d y both.0) (doubled-mapped h i f g p l d both.1))

-- ---- a list without an id

pub member-without : (x n : ℕ) (l : List ℕ) → (x ≡ n → ⊥) → member x (without n l) ≡ member x l
unfolding sifted member
member-without x n [] h = refl
member-without x n (y ∷ l) h = by (eqb y n) refl (member-without x n l h)
  where
    by : (b : Bool) → eqb y n ≡ b → member x (without n l) ≡ member x l → member x (cond (not b) (y ∷ without n l) (without n l)) ≡ (eqb x y || member x l)
    by true q r = let same : y ≡ n = eqb-true y n q in rw (ne_eqb x y (λ z. h (z ∙ same))) r
    by false q r = rw r

pub without-none : (n : ℕ) (l : List ℕ) → count n l ≡ 0 → without n l ≡ l
unfolding sifted count
without-none n [] h = refl
without-none n (y ∷ l) h = by (eqb y n) refl (eqb n y) refl h (without-none n l)
  where
    by : (b : Bool) → eqb y n ≡ b → (c : Bool) → eqb n y ≡ c → cond c (suc (count n l)) (count n l) ≡ 0 → (count n l ≡ 0 → without n l ≡ l) → cond (not b) (y ∷ without n l) (without n l) ≡ (y ∷ l)
    by true q true r z f = absurd (omega arith)
    by true q false r z f = absurd (eqb-false n y r (sym (eqb-true y n q)))
    by false q true r z f = absurd (omega arith)
    by false q false r z f = rw (f z)

pub length_without : (n : ℕ) (l : List ℕ) → length l ≡ length (without n l) + count n l
unfolding sifted count
length_without n [] = refl
length_without n (y ∷ l) = by (eqb y n) refl (eqb n y) refl (length_without n l)
  where
    by : (b : Bool) → eqb y n ≡ b → (c : Bool) → eqb n y ≡ c → length l ≡ length (without n l) + count n l
        → suc (length l) ≡ length (cond (not b) (y ∷ without n l) (without n l)) + cond c (suc (count n l)) (count n l)
    by true q true r h = omega arith
    by true q false r h = absurd (eqb-false n y r (sym (eqb-true y n q)))
    by false q true r h = absurd (eqb-false y n q (sym (eqb-true n y r)))
    by false q false r h = omega arith

-- ---- first meetings in a list with one entry doubled

-- the second is the first with n once more, where the first has e
pub record Beside (e n : ℕ) (k l : List ℕ) : Type 0 where
  pub back : without n l ≡ k
  pub once : count n l ≡ bit (member e k)

module _ (e n : ℕ) (apart : e ≡ n → ⊥) where
  -- the old entries are met in both or in neither
  met-too : (k l : List ℕ) → Beside e n k l → (y : ℕ) → (y ≡ n → ⊥) → member y l ≡ member y k
  met-too k l s y h = sym (member-without y n l h) ∙ ap (member y) s.back

  without-snoc : (l : List ℕ) (y : ℕ) → (y ≡ n → ⊥) → without n (l ++ (y ∷ [])) ≡ without n l ++ (y ∷ [])
  without-snoc l y h = rw (sifted-append (λ i. not (eqb i n)) l (y ∷ [])) (unfold sifted in rw (ne_eqb y n h))

  without-new : (l : List ℕ) → without n (l ++ (n ∷ [])) ≡ without n l
  without-new l = rw (sifted-append (λ i. not (eqb i n)) l (n ∷ [])) (unfold sifted in rw (eq-eqb n n refl) (append-nil (without n l)))

  meet-other : (k l : List ℕ) → Beside e n k l → (y : ℕ) → (y ≡ e → ⊥) → (y ≡ n → ⊥) → Beside e n (meet k y) (meet l y)
  meet-other k l s y h g = by (member y k) refl
    where
      by : (b : Bool) → member y k ≡ b → Beside e n (meet k y) (meet l y)
      by true q = rw (meet-old k y q, meet-old l y (met-too k l s y g ∙ q)) s
      by false q =
          rw (meet-new k y q, meet-new l y (met-too k l s y g ∙ q))
          (record {
            back = without-snoc l y g ∙ ap (λ i. i ++ (y ∷ [])) s.back;
            once =
                count-snoc n l y
                ∙ rw (ne_eqb n y (λ z. g (sym z)), member-append e k (y ∷ [])) (unfold member in rw (ne_eqb e y (λ z. h (sym z)), or-false (member e k)) (omega (arith, s.once)));
          })

  -- where e is met, n is met too
  meet-both : (k l : List ℕ) → Beside e n k l → Beside e n (meet k e) (meet (meet l e) n)
  meet-both k l s = by (member e k) refl
    where
      by : (b : Bool) → member e k ≡ b → Beside e n (meet k e) (meet (meet l e) n)
      by true q =
          let there : member n l ≡ true = member-counted n l (rw (s.once, q) (omega arith)) in
          rw (meet-old k e q, meet-old l e (met-too k l s e apart ∙ q), meet-old l n there) s
      by false q =
          let none_yet : count n l ≡ 0 = rw q at s.once in
          let fresh : member n (l ++ (e ∷ [])) ≡ false = member-uncounted n (l ++ (e ∷ [])) (rw (count-snoc n l e, ne_eqb n e (λ z. apart (sym z))) (omega arith)) in
          rw (meet-new k e q, meet-new l e (met-too k l s e apart ∙ q), meet-new (l ++ (e ∷ [])) n fresh)
          (record {
            back = without-new (l ++ (e ∷ [])) ∙ without-snoc l e apart ∙ ap (λ i. i ++ (e ∷ [])) s.back;
            once =
                count-snoc n (l ++ (e ∷ [])) n
                ∙ rw (eq-eqb n n refl, count-snoc n l e, ne_eqb n e (λ z. apart (sym z)), member-append e k (e ∷ []), q, member-one e e, eq-eqb e e refl) (omega arith);
          })

  meet-both-before : (k l : List ℕ) → Beside e n k l → Beside e n (meet k e) (meet (meet l n) e)
  meet-both-before k l s = by (member e k) refl
    where
      by : (b : Bool) → member e k ≡ b → Beside e n (meet k e) (meet (meet l n) e)
      by true q =
          let there : member n l ≡ true = member-counted n l (rw (s.once, q) (omega arith)) in
          rw (meet-old k e q, meet-old l n there, meet-old l e (met-too k l s e apart ∙ q)) s
      by false q =
          let none_yet : count n l ≡ 0 = rw q at s.once in
          let fresh : member e (l ++ (n ∷ [])) ≡ false = rw (member-append e l (n ∷ []), met-too k l s e apart, q) (unfold member in rw (ne_eqb e n apart)) in
          rw (meet-new k e q, meet-new l n (member-uncounted n l none_yet), meet-new (l ++ (n ∷ [])) e fresh)
          (record {
            back = without-snoc (l ++ (n ∷ [])) e apart ∙ ap (λ i. i ++ (e ∷ [])) (without-new l ∙ s.back);
            once =
                count-snoc n (l ++ (n ∷ [])) e
                ∙ rw (ne_eqb n e (λ z. apart (sym z)), count-snoc n l n, eq-eqb n n refl, member-append e k (e ∷ []), q, member-one e e, eq-eqb e e refl) (omega arith);
          })

  pub meets-doubled : {k l : List ℕ} → Doubled e n k l → (s r : List ℕ) → Beside e n s r → Beside e n (meets s k) (meets r l)
  unfolding meets
  meets-doubled ended s r h = h
  meets-doubled (other {y} p q d) s r h = meets-doubled d (meet s y) (meet r y) (meet-other s r h y p q)
  meets-doubled (after d) s r h = meets-doubled d (meet s e) (meet (meet r e) n) (meet-both s r h)
  meets-doubled (before d) s r h = meets-doubled d (meet s e) (meet (meet r n) e) (meet-both-before s r h)

  pub firsts-doubled : {k l : List ℕ} → Doubled e n k l → Beside e n (firsts k) (firsts l)
  firsts-doubled d = meets-doubled d [] [] (record { back = unfold sifted in refl; once = unfold count member in refl })
