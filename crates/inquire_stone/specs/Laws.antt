-- The stone as the code tells it. Assumes nothing.
use Prim.Native.Nat.{ℕ, zero, suc, ◌≤◌, ◌<◌}
use Rattle.std.proofs.Common.{arith, ◌∙◌, lt-ltb, le-ltb, le-leb}
use Rattle.std.proofs.Math.Decide.{dec_lt}
use Rattle.std.specs.Prelude.{◌≡◌, Bool, not, cond, ◌&&◌, List, leb, length, Float}
use Rattle.std.proofs.Math.Path.{refl, sym, ap}
use Rattle.std.proofs.Math.Bool.{true, false}
use Rattle.std.proofs.Math.Dec.{eqb, ltb}
use Rattle.std.proofs.lemmas.Bool.{lt-leb}
use Rattle.geom_lines_planes.specs.Refuse.{◌unless◌, ◌then◌}
use Rattle.meaning.specs.Model.{Model, body}
use Rattle.meaning.specs.Refuse.{◌if◌}
use Rattle.meaning.specs.Inquire.{Side, require_polyhedral, is_solid, solid_sides, sides_refusal, volume_refusal}
use Rattle.meaning_list_laws.specs.Tests.{then-assoc}
use Rattle.meaning_sheets.specs.Sheets.{grid_sides, triangles, stone_refusal}
use Rattle.meaning_sheet_laws.specs.Parts.{plus_sum, minus_sum}
use Rattle.memory_layout.specs.Decode.{decode}
use Rattle.memory_layout.specs.Readable.{readable}
use Rattle.memory_writes.specs.Put.{unless_refused}
use Rattle.walk_answers.specs.Calls.{reach}
use Rattle.walk_answers.specs.Decoded.{refused_by}
use Rattle.walk_answers.specs.Laws.{refused-before}
use Rattle.inquire_weight.specs.declared.Weight.{Weight}
use Rattle.inquire_weight.specs.Weights.{capped, light, weight_of}
use Rattle.inquire_weight.specs.Laws.{capped-above, capped-below}
use Rattle.inquire_regions.specs.declared.Tally.{Tally}
use Rattle.inquire_regions.specs.Regions.{tally_of}
use Rattle.inquire_tally.specs.Tallies.{refused_tally, solid_tally, unless_walked, walked, body_tally}
use Rattle.inquire_stone.specs.declared.Stone.{Stone}
use Rattle.inquire_stone.specs.Answers.{stone_number, stone_answer}
use Rattle.inquire_stone.specs.Told.{weight_number, stone_with, told_stone, sides_number}

-- ---- from the tally

pub weight-number : (w : Weight) (a b n : ℕ) → a ≡ (5 unless not w.off) → b ≡ (8 unless leb w.triangles 4096) → n ≡ (a then b) → n ≡ weight_number w
unfolding weight_number
weight-number w a b n e f g = g ∙ ap (λ k. k then b) e ∙ ap (λ k. (5 unless not w.off) then k) f ∙ ap (λ k. k then (8 unless leb w.triangles 4096)) (first w.off) ∙ ap (λ k. (5 if w.off) then k) (second w.triangles)
  where
    first : (t : Bool) → (5 unless not t) ≡ (5 if t)
    first true = refl
    first false = refl

    second : (k : ℕ) → (8 unless leb k 4096) ≡ (8 if ltb 4096 k)
    second k = elim (dec_lt 4096 k) [
      | yes more ↦ rw (lt-ltb 4096 k more, lt-leb k 4096 more)
      | no less ↦ rw (le-ltb 4096 k (omega arith), le-leb k 4096 (omega arith))
    ]

module _ (t : Tally) (n : ℕ) (e : n ≡ (t.refused then 4 if t.empty then weight_number t.weight)) where
  pub told-refused : (n ≡ 0 → ⊥) → record { refused = n; plus = 0; minus = 0 } ≡ told_stone t
  unfolding told_stone
  told-refused z = by n z ∙ ap (λ k. stone_with k t.weight.plus t.weight.minus) e
    where
      by : (k : ℕ) → (k ≡ 0 → ⊥) → record { refused = k; plus = 0; minus = 0 } ≡ stone_with k t.weight.plus t.weight.minus
      by zero q = absurd (q refl)
      by (suc k) q = refl

  pub told-given : n ≡ 0 → record { refused = 0; plus = t.weight.plus; minus = t.weight.minus } ≡ told_stone t
  unfolding told_stone
  told-given z = ap (λ k. stone_with k t.weight.plus t.weight.minus) (sym z ∙ e)

-- ---- of the sides

module _ (m : Model) (l : List Side) where
  -- the count as far as it was kept
  capped-test : (k : ℕ) → ltb 4096 (capped k) ≡ ltb 4096 k
  capped-test k = elim (dec_lt 4096 k) [
    | yes more ↦ ap (ltb 4096) (sym (capped-above k more)) ∙ sym (lt-ltb 4096 k more)
    | no less ↦ ap (ltb 4096) (sym (capped-below k (omega arith)))
  ]

  -- where the number is 0, the sums are all
  settled : (e g : Bool) (k p q : ℕ) → stone_with (4 if e then 5 if not g then 8 if ltb 4096 k) (cond (g && leb k 4096) p 0) (cond (g && leb k 4096) q 0) ≡ stone_with (4 if e then 5 unless g then 8 if ltb 4096 k) p q
  settled true g k p q = refl
  settled false false k p q = refl
  settled false true k p q = elim (dec_lt 4096 k) [
    | yes more ↦ rw (lt-ltb 4096 k more)
    | no less ↦ rw (le-ltb 4096 k (omega arith), le-leb k 4096 (omega arith))
  ]

  sides-told : told_stone (tally_of true m l) ≡ stone_with (sides_number m l) (plus_sum m l) (minus_sum m l)
  sides-told = by (sides_refusal m l) refl
    where
      by : (n : ℕ) → sides_refusal m l ≡ n → told_stone (tally_of true m l) ≡ stone_with (sides_number m l) (plus_sum m l) (minus_sum m l)
      by zero q = unfold told_stone tally_of weight_number weight_of in rw (q, capped-test (triangles m l)) (settled (eqb (length l) 0) (grid_sides m l) (triangles m l) (plus_sum m l) (minus_sum m l))
      by (suc n) q = unfold told_stone tally_of in rw q

-- ---- of the body

module _ (m : Model) (b : ℕ) where
  abbrev rest : ℕ
  rest = 6 unless is_solid (body m b).kind then sides_number m (solid_sides m b)

  solid-told : told_stone (solid_tally true m b) ≡ stone_with rest (plus_sum m (solid_sides m b)) (minus_sum m (solid_sides m b))
  unfolding solid_tally
  solid-told = by (is_solid (body m b).kind)
    where
      by : (k : Bool) → told_stone (cond k (tally_of true m (solid_sides m b)) (refused_tally 6)) ≡ stone_with (6 unless k then sides_number m (solid_sides m b)) (plus_sum m (solid_sides m b)) (minus_sum m (solid_sides m b))
      by true = sides-told m (solid_sides m b)
      by false = unfold told_stone in refl

  refusal-parts : stone_refusal m b ≡ (require_polyhedral m b then rest)
  unfolding stone_refusal volume_refusal
  refusal-parts =
      then-assoc (require_polyhedral m b) (6 unless is_solid (body m b).kind then sides_refusal m (solid_sides m b) then 4 if eqb (length (solid_sides m b)) 0) weighed
      ∙ ap (λ n. require_polyhedral m b then n)
      (then-assoc (6 unless is_solid (body m b).kind) (sides_refusal m (solid_sides m b) then 4 if eqb (length (solid_sides m b)) 0) weighed
      ∙ ap (λ n. 6 unless is_solid (body m b).kind then n) (then-assoc (sides_refusal m (solid_sides m b)) (4 if eqb (length (solid_sides m b)) 0) weighed))
    where
      weighed : ℕ
      weighed = 5 unless grid_sides m (solid_sides m b) then 8 if ltb 4096 (triangles m (solid_sides m b))

-- ---- the call

module _ (room w : List ℕ) (x : List Float) (b : ℕ) (face_marks : List ℕ) where
  abbrev m : Model
  m = decode room w x

  number : stone_number room w x b face_marks ≡ (9 unless readable room w x then 8 unless reach room 3 face_marks then (require_polyhedral m b then rest m b))
  unfolding stone_number
  number = ap (λ n. 9 unless readable room w x then 8 unless reach room 3 face_marks then n) (refusal-parts m b)

  pub stone-told : told_stone (body_tally true room w x b face_marks) ≡ stone_answer room w x b face_marks
  unfolding body_tally stone_answer
  stone-told = go (walked true room w x b face_marks) refl
    where
      passed : (t k : Bool) (p : ℕ) → (9 unless t then 8 unless k then p) ≡ 0 → (9 unless t then 8 unless k then (p then rest m b)) ≡ rest m b
      passed false k p q = absurd (omega arith)
      passed true false p q = absurd (omega arith)
      passed true true p q = rw q

      go : (n : ℕ) → walked true room w x b face_marks ≡ n → told_stone (unless_walked n (solid_tally true m b)) ≡ stone_with (stone_number room w x b face_marks) (plus_sum m (solid_sides m b)) (minus_sum m (solid_sides m b))
      go zero e = solid-told m b ∙ ap (λ k. stone_with k (plus_sum m (solid_sides m b)) (minus_sum m (solid_sides m b))) (sym (number ∙ passed (readable room w x) (reach room 3 face_marks) (require_polyhedral m b) (unfold refused_by in e)))
      go (suc n) e =
          let told : told_stone (refused_tally (suc n)) ≡ stone_with (suc n) (plus_sum m (solid_sides m b)) (minus_sum m (solid_sides m b)) = unfold told_stone in refl in
          let before : suc n ≡ (9 unless readable room w x then 8 unless reach room 3 face_marks then (require_polyhedral m b then rest m b)) = unfold refused_by in refused-before (readable room w x) (reach room 3 face_marks) (require_polyhedral m b) (suc n) (sym e) (λ q. omega arith) (rest m b) in
          told ∙ ap (λ k. stone_with k (plus_sum m (solid_sides m b)) (minus_sum m (solid_sides m b))) (before ∙ sym number)
