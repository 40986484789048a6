-- A loop's area does not depend on where the loop begins; of a loop along the axes it is half of the usual sum over the corners. Assumes nothing.
use Rattle.std.proofs.Common.{arith, sym, ap, ◌∙◌, append_assoc}
use Rattle.std.specs.Prelude.{◌≡◌, List, [], ◌∷◌, ◌++◌, ℤ, pos, ◌+ℤ◌, ◌-ℤ◌, ◌*ℤ◌}
use Rattle.std.proofs.Math.Path.{refl}
use Rattle.std.proofs.Math.IntN.{+ℤ_comm}
use Rattle.float_values.specs.Laws.Pairs.{over, under}
use Rattle.float_values.specs.Laws.Integers.{sum-parts, diff-parts, same_parts}
use Rattle.meaning.specs.Lists.{rotated}
use Rattle.meaning_shift.specs.Integers.{product-difference, difference-product}
use Rattle.meaning_slabs.specs.Slabs.{steps, Spot, strip, sumℤ, loop_area}
use Rattle.meaning_slab_laws.specs.Steps.{sum-snoc}
use Rattle.meaning_slab_areas.specs.Usual.{crossed, bend}

-- ---- where the loop begins

steps-ends : {A B : Type 0} (f : A → A → B) (l : List A) (x y : A) → steps f (l ++ (x ∷ y ∷ [])) ≡ steps f (l ++ (x ∷ [])) ++ (f x y ∷ [])
unfolding steps
steps-ends f [] x y = refl
steps-ends f (p ∷ []) x y = refl
steps-ends f (p ∷ q ∷ l) x y = ap (λ t. f p q ∷ t) (steps-ends f (q ∷ l) x y)

-- begun at its second corner, it has the same area; so begun at any
pub begun-elsewhere : (l : List Spot) → loop_area (rotated l) ≡ loop_area l
unfolding loop_area
begun-elsewhere [] = refl
begun-elsewhere (o ∷ []) = refl
begun-elsewhere (o ∷ p ∷ l) =
    ap (λ t. sumℤ (steps strip t)) (append_assoc (p ∷ l) (o ∷ []) (p ∷ []))
    ∙ ap sumℤ (steps-ends strip (p ∷ l) o p)
    ∙ sum-snoc (steps strip (p ∷ (l ++ (o ∷ [])))) (strip o p)
    ∙ +ℤ_comm (sumℤ (steps strip (p ∷ (l ++ (o ∷ []))))) (strip o p)
    ∙ first
  where
    first : strip o p +ℤ sumℤ (steps strip (p ∷ (l ++ (o ∷ [])))) ≡ sumℤ (steps strip (o ∷ p ∷ (l ++ (o ∷ []))))
    first = unfold steps sumℤ in refl

-- ---- the usual sum

abbrev pub own : Spot → ℤ
own p = p.u *ℤ p.v

-- one way: twice its strip is the usual term, and what its ends' own products differ by
pub one : (p q : Spot) → bend p q ≡ pos 0 → strip p q +ℤ strip p q ≡ crossed p q +ℤ (own q -ℤ own p)
unfolding strip crossed
one p q h =
    ap (λ (z : ℤ). z +ℤ z) (product-difference p.u q.v p.v)
    ∙ same_parts ((a -ℤ b) +ℤ (a -ℤ b)) ((a -ℤ c) +ℤ (d -ℤ b))
    (omega (
      arith,
      diff-parts a b,
      sum-parts (a -ℤ b) (a -ℤ b),
      diff-parts a c,
      diff-parts d b,
      sum-parts (a -ℤ c) (d -ℤ b),
      diff-parts d c,
      diff-parts a b,
      diff-parts (d -ℤ c) (a -ℤ b),
      ap over flat,
      ap under flat,
    ))
  where
    a : ℤ
    a = p.u *ℤ q.v

    b : ℤ
    b = p.u *ℤ p.v

    c : ℤ
    c = q.u *ℤ p.v

    d : ℤ
    d = q.u *ℤ q.v

    flat : (d -ℤ c) -ℤ (a -ℤ b) ≡ pos 0
    flat =
        sym (difference-product q.u p.u (q.v -ℤ p.v)
        ∙ ap (λ (z : ℤ). z -ℤ p.u *ℤ (q.v -ℤ p.v)) (product-difference q.u q.v p.v)
        ∙ ap (λ (z : ℤ). (d -ℤ c) -ℤ z) (product-difference p.u q.v p.v))
        ∙ h
