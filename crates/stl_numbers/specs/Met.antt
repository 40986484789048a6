-- What is met one after the other: the number that a thing has where it is first met is its number in the end. For any things that can be told apart. Assumes nothing.
use Prim.Native.Nat.{ℕ, zero, suc, ◌+◌, ◌≤◌, ◌<◌}
use Rattle.std.proofs.Common.{zero-add, ◌∙◌, lt-ltb, le-ltb, drop_of_length-le, drop-cons}
use Rattle.std.proofs.Math.Nat.{add-zero}
use native.Mathlib.Omega.{arith}
use Rattle.std.specs.Prelude.{◌≡◌, Bool, ◌||◌, ltb, get_or, take, drop}
use Rattle.std.proofs.Math.Path.{refl, sym, ap, ap₂}
use Rattle.std.proofs.Math.Bool.{true, false, cond}
use Rattle.std.proofs.lemmas.Bool.{false≢true}
use mathlib.Core.List.{List, [], ◌∷◌, ◌++◌, map, map-append}
use Rattle.std.proofs.Math.ListN.{length}
use Rattle.meaning_list_laws.specs.Tests.{and_both, or-none}
use Rattle.stl_body.specs.Read.{known, which_of, met_behind, all_met}
use Rattle.stl_body.specs.Laws.{holds}
use Rattle.stl_body.proofs.Laws.{holds-all, which-below, met-known, met_one}
use Rattle.stl_numbers.specs.Numbered.{numbers_of}

pub holds-take : {A : Type 0} (p : A → Bool) (k : ℕ) (l : List A) → holds p l ≡ true → holds p (take k l) ≡ true
unfolding holds
holds-take p zero l h = refl
holds-take p (suc k) [] h = refl
holds-take p (suc k) (a ∷ l) h = let both = and_both (p a) (holds p l) h in rw both.0 (holds-take p k l both.1)

module _ {A : Type 0} (same : A → A → Bool) where
  pub met-snoc : (seen l : List A) (p : A) → met_behind same seen (l ++ (p ∷ [])) ≡ met_one same (met_behind same seen l) p
  unfolding met_behind
  met-snoc seen [] p = refl
  met-snoc seen (q ∷ l) p = met-snoc (met_one same seen q) l p

  -- ---- the number of a thing, known or new

  which-front : (p : A) (k l : List A) → known same p k ≡ true → which_of same p (k ++ l) ≡ which_of same p k
  unfolding known which_of
  which-front p [] l h = absurd (false≢true h)
  which-front p (q ∷ k) l h = go (same p q) h (which-front p k l)
    where
      go : (b : Bool) → (b || known same p k) ≡ true → (known same p k ≡ true → which_of same p (k ++ l) ≡ which_of same p k) → cond b 0 (suc (which_of same p (k ++ l))) ≡ cond b 0 (suc (which_of same p k))
      go true e r = refl
      go false e r = ap suc (r e)

  which-unknown : (p : A) (l : List A) → known same p l ≡ false → which_of same p l ≡ length l
  unfolding known which_of
  which-unknown p [] h = refl
  which-unknown p (q ∷ l) h = let none = or-none (same p q) (known same p l) h in rw none.0 (ap suc (which-unknown p l none.1))

  which-last : (p : A) (k : List A) → known same p k ≡ false → same p p ≡ true → which_of same p (k ++ (p ∷ [])) ≡ length k
  unfolding known which_of
  which-last p [] h e = rw e
  which-last p (q ∷ k) h e = let none = or-none (same p q) (known same p k) h in rw none.0 (ap suc (which-last p k none.1 e))

  pub which-within : (p : A) (l : List A) → which_of same p l ≤ length l
  unfolding which_of
  which-within p [] = omega arith
  which-within p (q ∷ l) = go (same p q) (which-within p l)
    where
      go : (b : Bool) → which_of same p l ≤ length l → cond b 0 (suc (which_of same p l)) ≤ suc (length l)
      go true r = omega arith
      go false r = omega arith

  -- it is known just where its number is below how many there are
  pub is_known : (p : A) (l : List A) → ltb (which_of same p l) (length l) ≡ known same p l
  is_known p l = go (known same p l) refl
    where
      go : (b : Bool) → known same p l ≡ b → ltb (which_of same p l) (length l) ≡ b
      go true e = lt-ltb (which_of same p l) (length l) (which-below same p l e)
      go false e = le-ltb (which_of same p l) (length l) (omega (arith, which-unknown p l e))

  one-front : (seen : List A) (p q : A) → known same q seen ≡ true → which_of same q (met_one same seen p) ≡ which_of same q seen
  one-front seen p q h = go (known same p seen)
    where
      go : (b : Bool) → which_of same q (cond b seen (seen ++ (p ∷ []))) ≡ which_of same q seen
      go true = refl
      go false = which-front q seen (p ∷ []) h

  one-which : (seen : List A) (p : A) → same p p ≡ true → which_of same p (met_one same seen p) ≡ which_of same p seen
  one-which seen p h = go (known same p seen) refl
    where
      go : (b : Bool) → known same p seen ≡ b → which_of same p (cond b seen (seen ++ (p ∷ []))) ≡ which_of same p seen
      go true e = refl
      go false e = which-last p seen e h ∙ sym (which-unknown p seen e)

  -- ---- the numbers of all

  all-front : (seen : List A) (p : A) (l : List A) → holds (λ q. known same q seen) l ≡ true → map (λ q. which_of same q (met_one same seen p)) l ≡ map (λ q. which_of same q seen) l
  unfolding holds
  all-front seen p [] h = refl
  all-front seen p (q ∷ l) h =
      let both = and_both (known same q seen) (holds (λ q. known same q seen) l) h in
      ap₂ ◌∷◌ (one-front seen p q both.0) (all-front seen p l both.1)

  -- one more has the number that it is found at, and no other's changes
  pub numbers-snoc : (l : List A) (p : A) → holds (λ q. same q q) l ≡ true → same p p ≡ true → numbers_of same (l ++ (p ∷ [])) ≡ numbers_of same l ++ (which_of same p (all_met same l) ∷ [])
  unfolding numbers_of
  numbers-snoc l p h e =
      let seen : List A = all_met same l in
      let stored : holds (λ q. known same q seen) l ≡ true = holds-all _ l p (λ i b. met-known same [] l i p h b) in
      ap (λ m. map (λ q. which_of same q m) (l ++ (p ∷ []))) (met-snoc [] l p)
      ∙ map-append (λ q. which_of same q (met_one same seen p)) l (p ∷ [])
      ∙ ap₂ ◌++◌ (all-front seen p l stored) (ap (λ n. n ∷ []) (one-which seen p e))

  -- ---- a search: the first i are others

  pub record Passed (p : A) (l : List A) (i : ℕ) : Type 0 where
    pub rest : which_of same p l ≡ i + which_of same p (drop i l)

  pub passed_none : (p : A) (l : List A) → Passed p l 0
  passed_none p l = record { rest = sym (zero-add (which_of same p l)) }

  next : (p : A) (l : List A) (i : ℕ) (d : A) → i < length l → which_of same p (drop i l) ≡ cond (same p (get_or l i d)) 0 (suc (which_of same p (drop (suc i) l)))
  unfolding which_of
  next p l i d h = ap (which_of same p) (drop-cons l i d h)

  pub passed_here : (p : A) (l : List A) (i : ℕ) (d : A) → Passed p l i → i < length l → same p (get_or l i d) ≡ true → i ≡ which_of same p l
  passed_here p l i d r h e =
      let n : which_of same p (drop i l) ≡ 0 = next p l i d h ∙ ap (λ b. cond b 0 (suc (which_of same p (drop (suc i) l)))) e in
      let g = r.rest in
      omega arith

  pub passed-more : (p : A) (l : List A) (i : ℕ) (d : A) → Passed p l i → i < length l → same p (get_or l i d) ≡ false → Passed p l (i + 1)
  passed-more p l i d r h e =
      let n : which_of same p (drop i l) ≡ suc (which_of same p (drop (suc i) l)) = next p l i d h ∙ ap (λ b. cond b 0 (suc (which_of same p (drop (suc i) l)))) e in
      let one : i + 1 ≡ suc i = omega arith in
      record { rest = rw one (let g = r.rest in omega arith) }

  pub passed-all : (p : A) (l : List A) (i : ℕ) → Passed p l i → length l ≤ i → i ≡ which_of same p l
  unfolding which_of
  passed-all p l i r h = sym (r.rest ∙ ap (λ k. i + which_of same p k) (drop_of_length-le l {i = i} h) ∙ add-zero i)
