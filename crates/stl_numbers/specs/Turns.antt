-- Numbering, turn by turn: what a loop over k of a list's things knows, and what stands behind its last turn. Assumes nothing.
use Rattle.std.specs.Prelude.{ℕ, ◌+◌, ◌*◌, ◌≤◌, ◌<◌, ◌≡◌, refl, Bool, true, false, cond, List, [], ◌∷◌, ◌++◌, ltb, length, get_or, take, set}
use Rattle.std.proofs.Common.{arith, sym, ap, ◌∙◌, subst, length-set, length-take-le, take_all}
use Rattle.memory_writes.specs.Put.{over}
use Rattle.memory_writes.specs.Over.{length_over}
use Rattle.stl_body.specs.Read.{which_of, all_met}
use Rattle.stl_body.specs.Laws.{holds}
use Rattle.stl_body.proofs.Laws.{holds-nth}
use Rattle.stl_numbers.specs.Numbered.{Numbered, unless_known, things_in}
use Rattle.stl_numbers.specs.Met.{holds-take, which-within}
use Rattle.stl_numbers.specs.Laid.{Laid, stored_back, things-length, numbered-none, numbered_more}
use Rattle.stl_numbers.specs.Corners.{take_more}

-- the first k are numbered
pub record Turned {A B : Type 0} (same : A → A → Bool) (flat : List A → List B) (l : List A) (c₀ c : List ℕ) (s₀ s : List B) (n k : ℕ) : Type 0 where
  pub done : Numbered same flat (take k l) c₀ c s₀ s n
  pub inside : k ≤ length l
  pub few : n ≤ k
  pub numbers-kept : length c ≡ length c₀
  pub stored-kept : length s ≡ length s₀

module _ {A B : Type 0} (same : A → A → Bool) {w : ℕ} {one : List B → A} {flat : List A → List B} (f : Laid w one flat) where
  pub turned_none : (l : List A) (c₀ : List ℕ) (s₀ : List B) → Turned same flat l c₀ c₀ s₀ s₀ 0 0
  turned_none l c₀ s₀ = record { done = numbered-none same f c₀ s₀; inside = omega arith; few = omega arith; numbers-kept = refl; stored-kept = refl }

  -- where the search finds it is within those met
  pub turned-within : (p : A) (n at : ℕ) (s : List B) → at ≡ which_of same p (things_in one w n s) → at ≤ n
  turned-within p n at s e = let a = which-within same p (things_in one w n s) in let b = things-length one w n s in omega arith

  pub turned_more : (l : List A) (c₀ c : List ℕ) (s₀ s v : List B) (n m k at : ℕ) (d p : A) → Turned same flat l c₀ c s₀ s n k → holds (λ q. same q q) l ≡ true
      → k < length l → get_or l k d ≡ p → at ≡ which_of same p (things_in one w n s) → k < length c₀ → w * n + w ≤ length s₀
      → m ≡ unless_known at n n (n + 1) → v ≡ unless_known at n s (over (w * n) (flat (p ∷ [])) s) → Turned same flat l c₀ (set c k at) s₀ v m (k + 1)
  turned_more l c₀ c s₀ s v n m k at d p t h b e a room enough many stored =
      record {
        done = rw (many, stored, take_more l k d p b e) next;
        inside = omega arith;
        few = rw many (by (ltb at n));
        numbers-kept = length-set c k at ∙ t.numbers-kept;
        stored-kept = rw stored (long (ltb at n)) ∙ t.stored-kept;
      }
    where
      here : at ≡ which_of same p (all_met same (take k l))
      here = a ∙ ap (which_of same p) (stored_back f (all_met same (take k l)) s₀ s n t.done.stored t.done.many)

      itself : same p p ≡ true
      itself = subst (λ q. same q q ≡ true) e (holds-nth (λ q. same q q) l k d h b)

      front : k ≡ length (take k l)
      front = sym (length-take-le k l t.inside)

      next : Numbered same flat (take k l ++ (p ∷ [])) c₀ (set c k at) s₀ (unless_known at n s (over (w * n) (flat (p ∷ [])) s)) (unless_known at n n (n + 1))
      next =
          numbered_more same f (take k l) p c₀ c s₀ s n k at t.done (holds-take (λ q. same q q) k l h) itself here front room
          (subst (λ i. w * i + w ≤ length s₀) t.done.many enough)

      by : (b : Bool) → cond b n (n + 1) ≤ k + 1
      by true = omega arith
      by false = omega arith

      long : (b : Bool) → length (cond b s (over (w * n) (flat (p ∷ [])) s)) ≡ length s
      long true = refl
      long false = length_over (w * n) (flat (p ∷ [])) s (rw (f.wide p, t.stored-kept) enough)

  pub turned-all : (l : List A) (c₀ c : List ℕ) (s₀ s : List B) (n k : ℕ) → Turned same flat l c₀ c s₀ s n k → length l ≤ k → Numbered same flat l c₀ c s₀ s n
  turned-all l c₀ c s₀ s n k t h = subst (λ r. Numbered same flat r c₀ c s₀ s n) (take_all k l h) t.done
