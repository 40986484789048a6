-- The theorems of specs/Laws.antt that rest on numbered-then. Assumes nothing.
use Prim.Native.Nat.{ℕ, zero, suc}
use Rattle.std.proofs.Common.{◌∙◌, subst}
use Rattle.std.specs.Prelude.{◌≡◌, Bool, length}
use Rattle.std.proofs.Math.Path.{refl, sym, ap}
use mathlib.Core.List.{List}
use Rattle.std.proofs.Math.Dec.{leb}
use Rattle.geom_lines_planes.specs.Refuse.{◌unless◌, ◌then◌}
use Rattle.meaning.specs.Lists.{count}
use Rattle.walk_sources.specs.Sources.{followed}
use Rattle.walk_answers.specs.Calls.{numbered, handed, in_front}
use Rattle.walk_answers.specs.Decoded.{refused_by, Wrote, Called}
use Rattle.walk_answers.specs.Laws.{numbered-then}

-- ---- refusals, one test after the other

module _ (tables marks : Bool) (followed : ℕ) where
  pub call-refused : (walk out : List ℕ) (refused space : ℕ) → refused ≡ refused_by tables marks followed → (refused ≡ 0 → ⊥) → Called (numbered tables marks followed walk space) walk out out refused 0
  call-refused walk out zero space e n = absurd (n refl)
  call-refused walk out (suc k) space e n =
      subst (λ r. Called r walk out out (suc k) 0) (sym (numbered-then tables marks followed walk space ∙ ap (λ r. r then (8 unless leb (length walk) space)) (sym e)))
      (unfold handed in_front in record { count = refl; list = refl; code = refl })

  pub call-written : (ids walk out₀ out : List ℕ) (refused code n : ℕ) → refused ≡ refused_by tables marks followed → refused ≡ 0 → walk ≡ ids → Wrote ids out₀ out code n
      → Called (numbered tables marks followed walk (length out₀)) walk out₀ out code n
  call-written ids walk out₀ out refused code n e z same s =
      let number : code ≡ numbered tables marks followed walk (length out₀) =
      s.number
      ∙ ap (λ l. 8 unless leb (length l) (length out₀)) (sym same)
      ∙ sym (numbered-then tables marks followed walk (length out₀) ∙ ap (λ r. r then (8 unless leb (length walk) (length out₀))) (sym e ∙ z)) in
      subst (λ r. Called r walk out₀ out code n) number
      (record {
        count = s.count ∙ ap (λ l. length (handed code l)) (sym same);
        list = s.list ∙ ap (λ l. in_front (handed code l) out₀) (sym same);
        code = refl;
      })
