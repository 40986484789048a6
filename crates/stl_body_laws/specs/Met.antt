-- "Records are made in the order met": the numbers of all that is met, each at its first meeting, are 0, 1, .. in this order. For any things that can be told apart. Assumes nothing.
use Prim.Native.Nat.{ℕ, zero, suc, ◌+◌, ◌≤◌, ◌<◌}
use Rattle.std.proofs.Common.{arith, ◌∙◌, length-append}
use Rattle.std.specs.Prelude.{◌≡◌, Bool, ◌||◌, length}
use Rattle.std.proofs.Math.Path.{refl, sym, ap}
use Rattle.std.proofs.Math.Bool.{true, false, cond}
use Rattle.std.proofs.lemmas.Bool.{false≢true}
use mathlib.Core.List.{List, [], ◌∷◌, ◌++◌, map, append_assoc, append-nil}
use Rattle.meaning.specs.Lists.{run, all, member, meet, meets}
use Rattle.meaning_list_laws.specs.Tests.{and_both, or-none}
use Rattle.meaning_list_laws.specs.Lists.{all_none, all_snoc, member-counted, member-uncounted, meets-snoc, meet-old, meet-new, count-run-in, count-run-after}
use Rattle.stl_body.specs.Read.{known, which_of, met_behind}
use Rattle.stl_body.specs.Laws.{holds}
use Rattle.stl_body.proofs.Laws.{which-below, known-last, met_one}

-- ---- runs

pub member-run : (u n c : ℕ) → u ≤ c → c < u + n → member c (run u n) ≡ true
member-run u n c a b = let h = count-run-in u n c a b in member-counted c (run u n) (omega arith)

pub run-front : (u n : ℕ) → run u (suc n) ≡ u ∷ run (suc u) n
unfolding run
run-front u zero = ap (λ k. k ∷ []) (omega arith)
run-front u (suc n) = ap (λ l. l ++ ((u + suc n) ∷ [])) (run-front u n) ∙ ap (λ k. u ∷ (run (suc u) n ++ (k ∷ []))) (omega arith)

meet-next : (u n : ℕ) → meet (run u n) (u + n) ≡ run u (suc n)
meet-next u n = meet-new (run u n) (u + n) (member-uncounted (u + n) (run u n) (count-run-after u n (u + n) (omega arith))) ∙ (unfold run in refl)

pub run-met : (u n : ℕ) → meets [] (run u n) ≡ run u n
unfolding run
run-met u zero = unfold meets in refl
run-met u (suc n) = meets-snoc [] (run u n) (u + n) ∙ ap (λ s. meet s (u + n)) (run-met u n) ∙ meet-next u n

-- the number x among k, of which there are n then
pub data Next (k x n : ℕ) : Type 0 where
  before : x < k → n ≡ k → Next k x n
  next : x ≡ k → n ≡ suc k → Next k x n

pub meet-met : (u k x n : ℕ) → Next k x n → meet (run u k) (u + x) ≡ run u n
meet-met u k x n (before h e) = meet-old (run u k) (u + x) (member-run u k (u + x) (omega arith) (omega arith)) ∙ ap (run u) (sym e)
meet-met u k x n (next h e) = ap (λ c. meet (run u k) (u + c)) h ∙ meet-next u k ∙ ap (run u) (sym e)

-- what was met before is not met again
pub met-before : (s l : List ℕ) → all (λ c. member c s) l ≡ true → meets s l ≡ s
unfolding meets all
met-before s [] h = refl
met-before s (c ∷ l) h = let both = and_both (member c s) (all (λ c. member c s) l) h in rw (meet-old s c both.0) (met-before s l both.1)

pub all-over : (p : ℕ → Bool) (u n : ℕ) → ((j : ℕ) → j < n → p (u + j) ≡ true) → all p (run u n) ≡ true
unfolding run
all-over p u zero h = all_none p
all-over p u (suc n) h = rw (all_snoc p (run u n) (u + n), all-over p u n (λ j b. h j (omega arith)), h n (omega arith))

-- ---- what is met

module _ {A : Type 0} (same : A → A → Bool) where
  -- what is known keeps its number, whatever comes behind
  pub which-front : (p : A) (k l : List A) → known same p k ≡ true → which_of same p (k ++ l) ≡ which_of same p k
  unfolding known which_of
  which-front p [] l h = absurd (false≢true h)
  which-front p (q ∷ k) l h = go (same p q) h (which-front p k l)
    where
      go : (b : Bool) → (b || known same p k) ≡ true → (known same p k ≡ true → which_of same p (k ++ l) ≡ which_of same p k)
          → cond b 0 (suc (which_of same p (k ++ l))) ≡ cond b 0 (suc (which_of same p k))
      go true e r = refl
      go false e r = ap suc (r e)

  -- what is not known is next
  which-next : (p : A) (k : List A) → known same p k ≡ false → same p p ≡ true → which_of same p (k ++ (p ∷ [])) ≡ length k
  unfolding known which_of
  which-next p [] h s = rw s
  which-next p (q ∷ k) h s = let both = or-none (same p q) (known same p k) h in rw both.0 (ap suc (which-next p k both.1 s))

  -- those seen stand in front
  pub record Behind (seen full : List A) : Type 0 where
    pub rest : List A
    pub made : full ≡ seen ++ rest

  met-behind : (seen l : List A) → Behind seen (met_behind same seen l)
  unfolding met_behind
  met-behind seen [] = record { rest = []; made = sym (append-nil seen) }
  met-behind seen (p ∷ l) = go (known same p seen) (met-behind seen l) (met-behind (seen ++ (p ∷ [])) l)
    where
      go : (b : Bool) → Behind seen (met_behind same seen l) → Behind (seen ++ (p ∷ [])) (met_behind same (seen ++ (p ∷ [])) l) → Behind seen (met_behind same (cond b seen (seen ++ (p ∷ []))) l)
      go true r s = r
      go false r s = record { rest = p ∷ s.rest; made = s.made ∙ append_assoc seen (p ∷ []) s.rest }

  known-number : (seen l : List A) (p : A) → known same p seen ≡ true → which_of same p (met_behind same seen l) ≡ which_of same p seen
  known-number seen l p h = let r = met-behind seen l in ap (which_of same p) r.made ∙ which-front p seen r.rest h

  -- one more is one of those seen, or the next
  pub next_of : (seen l : List A) (p : A) → same p p ≡ true → Next (length seen) (which_of same p (met_behind same (met_one same seen p) l)) (length (met_one same seen p))
  next_of seen l p s = by (known same p seen) refl
    where
      by : (b : Bool) → known same p seen ≡ b → Next (length seen) (which_of same p (met_behind same (cond b seen (seen ++ (p ∷ []))) l)) (length (cond b seen (seen ++ (p ∷ []))))
      by true e = before (rw (known-number seen l p e) (which-below same p seen e)) refl
      by false e =
          let more = seen ++ (p ∷ []) in
          next (known-number more l p (known-last same p seen s) ∙ which-next p seen e s) (omega (arith, length-append seen (p ∷ [])))

  -- "Records are made in the order met"
  pub met-run : (u : ℕ) (seen l : List A) → holds (λ p. same p p) l ≡ true
      → meets (run u (length seen)) (map (λ p. u + which_of same p (met_behind same seen l)) l) ≡ run u (length (met_behind same seen l))
  unfolding met_behind meets holds
  met-run u seen [] h = refl
  met-run u seen (p ∷ l) h =
      let both = and_both (same p p) (holds (λ p. same p p) l) h in
      let now = met_one same seen p in
      ap (λ s. meets s (map (λ q. u + which_of same q (met_behind same now l)) l)) (meet-met u (length seen) (which_of same p (met_behind same now l)) (length now) (next_of seen l p both.0))
      ∙ met-run u now l both.1
