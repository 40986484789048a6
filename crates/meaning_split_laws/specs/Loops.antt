-- Fins one after the other, each ending where the next starts: what makes a list of fins a loop. Assumes nothing.
use Rattle.std.specs.Prelude.{ℕ, suc, ◌≤◌, ◌≡◌, refl, true, not, List, [], ◌∷◌, ◌++◌, eqb, length}
use Rattle.std.proofs.Common.{arith, sym, ◌∙◌, ne_eqb}
use Rattle.std.proofs.Math.Option.{Option}
use Rattle.meaning.specs.Model.{Model}
use Rattle.meaning.specs.Walks.{ends_of}
use Rattle.meaning.specs.Faults.{meets_next}
use Rattle.meaning.specs.Formed.{closed, loop_closes}
use Rattle.meaning_list_laws.specs.Tests.{and_both, same_refl, same_true}

abbrev pub first_start : Model → List ℕ → Option ℕ → Option ℕ
first_start m [] v = v
first_start m (i ∷ l) v = (ends_of m i).start

abbrev pub Follows : Model → List ℕ → Option ℕ → Type 0
Follows m [] v = Unit {0}
Follows m (i ∷ l) v = ((ends_of m i).end ≡ first_start m l v) × Follows m l v

pub first_start-append : (m : Model) (k l : List ℕ) (v : Option ℕ) → first_start m (k ++ l) v ≡ first_start m k (first_start m l v)
first_start-append m [] l v = refl
first_start-append m (i ∷ k) l v = refl

pub follows-append : (m : Model) (k l : List ℕ) (v : Option ℕ) → Follows m k (first_start m l v) → Follows m l v → Follows m (k ++ l) v
follows-append m [] l v f g = g
follows-append m (i ∷ k) l v f g = (f.0 ∙ sym (first_start-append m k l v), follows-append m k l v f.1 g)

-- the same as the comparison with the list turned by one
pub follows-closed : (m : Model) (i : ℕ) (k : List ℕ) (x : ℕ) → Follows m (i ∷ k) (ends_of m x).start → closed m (i ∷ k) (k ++ (x ∷ [])) ≡ true
unfolding closed
follows-closed m i [] x f = rw (f.0, same_refl (ends_of m x).start)
follows-closed m i (j ∷ k) x f = rw (f.0, same_refl (ends_of m j).start) (follows-closed m j k x f.1)

pub closed-follows : (m : Model) (i : ℕ) (k : List ℕ) (x : ℕ) → closed m (i ∷ k) (k ++ (x ∷ [])) ≡ true → Follows m (i ∷ k) (ends_of m x).start
unfolding closed
closed-follows m i [] x h = (same_true _ _ (and_both (meets_next m i x) true h).0, tt)
closed-follows m i (j ∷ k) x h =
    let both : (meets_next m i j ≡ true) × (closed m (j ∷ k) (k ++ (x ∷ [])) ≡ true) = and_both _ _ h in
    (same_true _ _ both.0, closed-follows m j k x both.1)

-- a list that is not empty and leads back to where it starts is a loop
pub follows-loop : (m : Model) (l : List ℕ) (v : Option ℕ) → 1 ≤ length l → Follows m l v → first_start m l v ≡ v → loop_closes m l ≡ true
unfolding loop_closes
follows-loop m [] v h f q = absurd (omega arith)
follows-loop m (i ∷ k) v h f q = rw (ne_eqb (suc (length k)) 0 (λ z. omega arith)) (follows-closed m i k i (rw q f))

pub loop-follows : (m : Model) (i : ℕ) (k : List ℕ) → loop_closes m (i ∷ k) ≡ true → Follows m (i ∷ k) (ends_of m i).start
unfolding loop_closes
loop-follows m i k h = closed-follows m i k i (and_both (not (eqb (suc (length k)) 0)) (closed m (i ∷ k) (k ++ (i ∷ []))) h).1
