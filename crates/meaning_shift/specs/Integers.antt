-- Laws of ℤ that the moved corners need, by what is above zero and what is below. Assumes nothing.
use Rattle.std.specs.Prelude.{ℕ, ◌*◌, ◌≡◌, ℤ, pos, neg_ℤ, ◌+ℤ◌, ◌-ℤ◌, ◌*ℤ◌}
use Rattle.std.proofs.Common.{mul-add, arith, ap, ◌∙◌}
use Rattle.std.proofs.Math.IntN.{*ℤ_comm}
use Rattle.float_values.specs.Laws.Pairs.{over, under}
use Rattle.float_values.specs.Laws.Integers.{sum-parts, diff-parts, neg-parts, product-parts, same_parts}

pub product-sum : (A B C : ℤ) → A *ℤ (B +ℤ C) ≡ A *ℤ B +ℤ A *ℤ C
product-sum A B C =
    same_parts (A *ℤ (B +ℤ C)) (A *ℤ B +ℤ A *ℤ C)
    (omega (
      arith,
      product-parts A (B +ℤ C),
      product-parts A B,
      product-parts A C,
      sum-parts (A *ℤ B) (A *ℤ C),
      simp mul-add at (ap (λ (n : ℕ). over A * n) (sum-parts B C)),
      simp mul-add at (ap (λ (n : ℕ). under A * n) (sum-parts B C)),
    ))

pub sum-product : (A B C : ℤ) → (A +ℤ B) *ℤ C ≡ A *ℤ C +ℤ B *ℤ C
sum-product A B C = *ℤ_comm (A +ℤ B) C ∙ product-sum C A B ∙ ap (λ (z : ℤ). z +ℤ C *ℤ B) (*ℤ_comm C A) ∙ ap (λ (z : ℤ). A *ℤ C +ℤ z) (*ℤ_comm C B)

pub product-difference : (A B C : ℤ) → A *ℤ (B -ℤ C) ≡ A *ℤ B -ℤ A *ℤ C
product-difference A B C =
    same_parts (A *ℤ (B -ℤ C)) (A *ℤ B -ℤ A *ℤ C)
    (omega (
      arith,
      product-parts A (B -ℤ C),
      product-parts A B,
      product-parts A C,
      diff-parts (A *ℤ B) (A *ℤ C),
      simp mul-add at (ap (λ (n : ℕ). over A * n) (diff-parts B C)),
      simp mul-add at (ap (λ (n : ℕ). under A * n) (diff-parts B C)),
    ))

pub difference-product : (A B C : ℤ) → (A -ℤ B) *ℤ C ≡ A *ℤ C -ℤ B *ℤ C
difference-product A B C = *ℤ_comm (A -ℤ B) C ∙ product-difference C A B ∙ ap (λ (z : ℤ). z -ℤ C *ℤ B) (*ℤ_comm C A) ∙ ap (λ (z : ℤ). A *ℤ C -ℤ z) (*ℤ_comm C B)

-- (a + t) - (b + t) is a - b
pub moved-difference : (A B T : ℤ) → (A +ℤ T) -ℤ (B +ℤ T) ≡ A -ℤ B
moved-difference A B T =
    same_parts ((A +ℤ T) -ℤ (B +ℤ T)) (A -ℤ B) (omega (arith, diff-parts (A +ℤ T) (B +ℤ T), sum-parts A T, sum-parts B T, diff-parts A B))

-- what is its own negative is 0
pub own-negative : (A : ℤ) → A ≡ neg_ℤ A → A ≡ pos 0
own-negative A h = same_parts A (pos 0) (omega (arith, neg-parts A, ap over h, ap under h))

-- (a, b) and (c, d) seen from (e, f): the area of the triangle, by those at the origin
pub area-from : (A B C D E F : ℤ) → (A -ℤ E) *ℤ (D -ℤ F) -ℤ (B -ℤ F) *ℤ (C -ℤ E) ≡ (A *ℤ D -ℤ B *ℤ C) +ℤ (E *ℤ B -ℤ F *ℤ A) -ℤ (E *ℤ D -ℤ F *ℤ C)
area-from A B C D E F =
    ap (λ (z : ℤ). z -ℤ (B -ℤ F) *ℤ (C -ℤ E)) (opened A E D F)
    ∙ ap (λ (z : ℤ). (A *ℤ D -ℤ F *ℤ A) -ℤ (E *ℤ D -ℤ E *ℤ F) -ℤ z) (opened B F C E)
    ∙ ap (λ (z : ℤ). (A *ℤ D -ℤ F *ℤ A) -ℤ (E *ℤ D -ℤ E *ℤ F) -ℤ ((B *ℤ C -ℤ E *ℤ B) -ℤ (F *ℤ C -ℤ z))) (*ℤ_comm F E)
    ∙ gather (A *ℤ D) (F *ℤ A) (E *ℤ D) (E *ℤ F) (B *ℤ C) (E *ℤ B) (F *ℤ C)
  where
    opened : (a e d f : ℤ) → (a -ℤ e) *ℤ (d -ℤ f) ≡ (a *ℤ d -ℤ f *ℤ a) -ℤ (e *ℤ d -ℤ e *ℤ f)
    opened a e d f =
        difference-product a e (d -ℤ f)
        ∙ ap (λ (z : ℤ). z -ℤ e *ℤ (d -ℤ f)) (product-difference a d f)
        ∙ ap (λ (z : ℤ). (a *ℤ d -ℤ a *ℤ f) -ℤ z) (product-difference e d f)
        ∙ ap (λ (z : ℤ). (a *ℤ d -ℤ z) -ℤ (e *ℤ d -ℤ e *ℤ f)) (*ℤ_comm a f)

    gather : (ad fa ed ef bc eb fc : ℤ) → (ad -ℤ fa) -ℤ (ed -ℤ ef) -ℤ ((bc -ℤ eb) -ℤ (fc -ℤ ef)) ≡ (ad -ℤ bc) +ℤ (eb -ℤ fa) -ℤ (ed -ℤ fc)
    gather ad fa ed ef bc eb fc =
        same_parts ((ad -ℤ fa) -ℤ (ed -ℤ ef) -ℤ ((bc -ℤ eb) -ℤ (fc -ℤ ef))) ((ad -ℤ bc) +ℤ (eb -ℤ fa) -ℤ (ed -ℤ fc))
        (omega (
          arith,
          diff-parts ad fa,
          diff-parts ed ef,
          diff-parts (ad -ℤ fa) (ed -ℤ ef),
          diff-parts bc eb,
          diff-parts fc ef,
          diff-parts (bc -ℤ eb) (fc -ℤ ef),
          diff-parts ((ad -ℤ fa) -ℤ (ed -ℤ ef)) ((bc -ℤ eb) -ℤ (fc -ℤ ef)),
          diff-parts ad bc,
          diff-parts eb fa,
          sum-parts (ad -ℤ bc) (eb -ℤ fa),
          diff-parts ed fc,
          diff-parts ((ad -ℤ bc) +ℤ (eb -ℤ fa)) (ed -ℤ fc),
        ))
