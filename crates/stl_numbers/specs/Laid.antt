-- Things laid flat, read again, and numbered one after the other. Points and steps are two cases. Assumes nothing.
use Rattle.std.specs.Prelude.{ℕ, zero, suc, ◌+◌, ◌*◌, ◌≤◌, ◌<◌, ◌≡◌, Bool, true, false, cond, ltb, get_or, drop}
use Rattle.std.proofs.Common.{mul-zero, mul-suc, ◌∙◌, drop_at, drop-drop}
use native.Mathlib.Omega.{arith}
use Rattle.std.proofs.Math.Path.{refl, sym, ap, ap₂}
use mathlib.Core.List.{List, [], ◌∷◌, ◌++◌, append_assoc}
use Rattle.std.proofs.Math.ListN.{length, set, length-append, length-map}
use Rattle.memory_writes.specs.Put.{over}
use Rattle.memory_writes.specs.Over.{length_over, over_none, over-behind, one_store}
use Rattle.stl_body.specs.Read.{known, which_of, met_behind, all_met}
use Rattle.stl_body.specs.Flat.{flat_points, flat_steps}
use Rattle.stl_body.specs.Laws.{holds}
use Rattle.stl_numbers.specs.Numbered.{numbers_of, Numbered, unless_known, things_in, point_in, step_in}
use Rattle.stl_numbers.specs.Met.{met-snoc, numbers-snoc, is_known, Passed, passed_none, passed_here, passed-more, passed-all}

-- written behind what was written in front
behind : {A : Type 0} (a b l : List A) → length (a ++ b) ≤ length l → over (length a) b (over 0 a l) ≡ over 0 (a ++ b) l
behind a b l h =
    let z : length a ≡ 0 + length a = omega arith in
    let g : 0 + length (a ++ b) ≤ length l = omega arith in
    ap (λ n. over n b (over 0 a l)) z ∙ over-behind 0 a b l g

-- each thing is w entries, of which it is read again
pub record Laid {A B : Type 0} (w : ℕ) (one : List B → A) (flat : List A → List B) : Type 0 where
  pub none : flat [] ≡ []
  pub more : (a : A) (l : List A) → flat (a ∷ l) ≡ flat (a ∷ []) ++ flat l
  pub wide : (a : A) → length (flat (a ∷ [])) ≡ w
  pub back : (a : A) (s : List B) → one (flat (a ∷ []) ++ s) ≡ a

pub points-laid : Laid 3 point_in flat_points
unfolding flat_points
points-laid = record { none = refl; more = λ a l. refl; wide = λ a. refl; back = λ a s. refl }

pub steps-laid : Laid 2 step_in flat_steps
unfolding flat_steps
steps-laid = record { none = refl; more = λ a l. refl; wide = λ a. refl; back = λ a s. refl }

module _ {A B : Type 0} {w : ℕ} {one : List B → A} {flat : List A → List B} (f : Laid w one flat) where
  pub laid-length : (l : List A) → length (flat l) ≡ w * length l
  laid-length [] = ap length f.none ∙ sym (mul-zero w)
  laid-length (a ∷ l) =
      ap length (f.more a l) ∙ length-append (flat (a ∷ [])) (flat l) ∙ ap₂ ◌+◌ (f.wide a) (laid-length l) ∙ let e : w * suc (length l) ≡ w * length l + w = mul-suc w (length l) in omega arith

  laid_both : (k l : List A) → flat (k ++ l) ≡ flat k ++ flat l
  laid_both [] l = ap (λ r. r ++ flat l) (sym f.none)
  laid_both (a ∷ k) l =
      f.more a (k ++ l)
      ∙ ap (λ r. flat (a ∷ []) ++ r) (laid_both k l)
      ∙ sym (append_assoc (flat (a ∷ [])) (flat k) (flat l))
      ∙ ap (λ r. r ++ flat l) (sym (f.more a k))

  -- read again
  laid-back : (l : List A) (s : List B) → things_in one w (length l) (flat l ++ s) ≡ l
  unfolding things_in
  laid-back [] s = refl
  laid-back (a ∷ l) s =
      let e : flat (a ∷ l) ++ s ≡ flat (a ∷ []) ++ (flat l ++ s) = ap (λ r. r ++ s) (f.more a l) ∙ append_assoc (flat (a ∷ [])) (flat l) s in
      ap₂ ◌∷◌ (ap one e ∙ f.back a (flat l ++ s)) (ap (λ r. things_in one w (length l) (drop w r)) e ∙ ap (things_in one w (length l)) (drop_at (flat (a ∷ [])) (flat l ++ s) w (f.wide a)) ∙ laid-back l s)

  pub stored_back : (l : List A) (s₀ s : List B) (n : ℕ) → s ≡ over 0 (flat l) s₀ → n ≡ length l → things_in one w n s ≡ l
  unfolding over
  stored_back l s₀ s n e h = ap₂ (things_in one w) h e ∙ laid-back l (drop (0 + length (flat l)) s₀)

pub things-length : {A B : Type 0} (one : List B → A) (w n : ℕ) (s : List B) → length (things_in one w n s) ≡ n
unfolding things_in
things-length one w zero s = refl
things-length one w (suc n) s = ap suc (things-length one w n (drop w s))

things-nth : {A B : Type 0} (one : List B → A) (w n i : ℕ) (s : List B) (d : A) → i < n → get_or (things_in one w n s) i d ≡ one (drop (w * i) s)
unfolding things_in
things-nth one w zero i s d h = absurd (omega arith)
things-nth one w (suc n) zero s d h = ap (λ k. one (drop k s)) (sym (mul-zero w))
things-nth one w (suc n) (suc i) s d h =
    let e : w * suc i ≡ w * i + w = mul-suc w i in
    let g : w + w * i ≡ w * suc i = omega arith in
    things-nth one w n i (drop w s) d (omega arith) ∙ ap one (drop-drop (w * i) w s ∙ ap (λ k. drop k s) g)

-- ---- a search in a flat list, turn by turn

module _ {A B : Type 0} (same : A → A → Bool) (one : List B → A) (w : ℕ) (p : A) (n : ℕ) (s : List B) where
  abbrev all : List A
  all = things_in one w n s

  inside : (i : ℕ) → i < n → i < length all
  inside i b = rw (things-length one w n s) b

  pub search-none : Passed same p all 0
  search-none = passed_none same p all

  pub search-here : (i : ℕ) (q : A) → Passed same p all i → i < n → one (drop (w * i) s) ≡ q → same p q ≡ true → i ≡ which_of same p all
  search-here i q r b e t = passed_here same p all i q r (inside i b) (ap (same p) (things-nth one w n i s q b ∙ e) ∙ t)

  pub search-more : (i : ℕ) (q : A) → Passed same p all i → i < n → one (drop (w * i) s) ≡ q → same p q ≡ false → Passed same p all (i + 1)
  search-more i q r b e t = passed-more same p all i q r (inside i b) (ap (same p) (things-nth one w n i s q b ∙ e) ∙ t)

  pub search-all : (i : ℕ) → Passed same p all i → n ≤ i → i ≡ which_of same p all
  search-all i r b = passed-all same p all i r (rw (things-length one w n s) b)

-- ---- numbered

module _ {A B : Type 0} (same : A → A → Bool) {w : ℕ} {one : List B → A} {flat : List A → List B} (f : Laid w one flat) where
  pub numbered-none : (c₀ : List ℕ) (s₀ : List B) → Numbered same flat [] c₀ c₀ s₀ s₀ 0
  unfolding numbers_of met_behind
  numbered-none c₀ s₀ = record { numbers = sym (over_none 0 c₀); stored = sym (over_none 0 s₀) ∙ ap (λ r. over 0 r s₀) (sym f.none); many = refl }

  -- one more: its number is written, and it is stored where it is new
  pub numbered_more : (l : List A) (p : A) (c₀ c : List ℕ) (s₀ s : List B) (n k at : ℕ) → Numbered same flat l c₀ c s₀ s n
      → holds (λ q. same q q) l ≡ true → same p p ≡ true → at ≡ which_of same p (all_met same l) → k ≡ length l → k < length c₀ → w * length (all_met same l) + w ≤ length s₀
      → Numbered same flat (l ++ (p ∷ [])) c₀ (set c k at) s₀ (unless_known at n s (over (w * n) (flat (p ∷ [])) s)) (unless_known at n n (n + 1))
  numbered_more l p c₀ c s₀ s n k at m h e a long room enough =
      record {
        numbers = next-number;
        stored = rw (test, met-snoc same [] l p) (next-stored (known same p (all_met same l)));
        many = rw (test, met-snoc same [] l p) (next-many (known same p (all_met same l)));
      }
    where
      test : ltb at n ≡ known same p (all_met same l)
      test = ap₂ ltb a m.many ∙ is_known same p (all_met same l)

      next-number : set c k at ≡ over 0 (numbers_of same (l ++ (p ∷ []))) c₀
      next-number =
          let o : length (numbers_of same l) ≡ length l = unfold numbers_of in length-map l _ in
          let q : length (over 0 (numbers_of same l) c₀) ≡ length c₀ = length_over 0 (numbers_of same l) c₀ (omega arith) in
          let j : k ≡ length (numbers_of same l) = omega arith in
          let b : length (numbers_of same l ++ (at ∷ [])) ≡ length (numbers_of same l) + 1 = length-append (numbers_of same l) (at ∷ []) in
          ap (λ r. set r k at) m.numbers
          ∙ one_store (over 0 (numbers_of same l) c₀) k at (omega arith)
          ∙ ap (λ i. over i (at ∷ []) (over 0 (numbers_of same l) c₀)) j
          ∙ behind (numbers_of same l) (at ∷ []) c₀ (omega arith)
          ∙ ap (λ r. over 0 r c₀) (ap (λ i. numbers_of same l ++ (i ∷ [])) a ∙ sym (numbers-snoc same l p h e))

      next-stored : (b : Bool) → cond b s (over (w * n) (flat (p ∷ [])) s) ≡ over 0 (flat (cond b (all_met same l) (all_met same l ++ (p ∷ [])))) s₀
      next-stored true = m.stored
      next-stored false =
          let j : w * n ≡ length (flat (all_met same l)) = ap (λ i. w * i) m.many ∙ sym (laid-length f (all_met same l)) in
          let b : length (flat (all_met same l) ++ flat (p ∷ [])) ≡ w * length (all_met same l) + w = length-append (flat (all_met same l)) (flat (p ∷ [])) ∙ ap₂ ◌+◌ (laid-length f (all_met same l)) (f.wide p) in
          ap₂ (λ i r. over i (flat (p ∷ [])) r) j m.stored
          ∙ behind (flat (all_met same l)) (flat (p ∷ [])) s₀ (rw b enough)
          ∙ ap (λ r. over 0 r s₀) (sym (laid_both f (all_met same l) (p ∷ [])))

      next-many : (b : Bool) → cond b n (n + 1) ≡ length (cond b (all_met same l) (all_met same l ++ (p ∷ [])))
      next-many true = m.many
      next-many false = ap (λ i. i + 1) m.many ∙ sym (length-append (all_met same l) (p ∷ []))
