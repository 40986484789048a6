-- The theorems of specs/Laws.antt that rest on `passed-number` and `row-stops`: the first stop has the number of the first refusal. Assumes nothing.
use Rattle.std.specs.Prelude.{ℕ, zero, suc, ◌≡◌, refl, List, [], ◌∷◌, map}
use Rattle.std.proofs.Common.{arith, sym, ap, ◌∙◌, subst}
use Rattle.geom_lines_planes.specs.Refuse.{◌then◌}
use Rattle.meaning.specs.Refuse.{first_refusal}
use Rattle.meaning_list_laws.specs.Tests.{then-zero, then-assoc}
use Rattle.meaning_stops.specs.Stops.{Part, numbers, Row, refusal_of, Stop, accepted, stop_at, first_part, first_stop}
use Rattle.meaning_stops.specs.Laws.{passed-number, row-passed, At, row-stops, Stopped}

part-number : (k : ℕ) (l : List Part) (later : Stop) → (first_part k l later).number ≡ (first_refusal (numbers l) then later.number)
unfolding first_part first_refusal
part-number k [] later = refl
part-number k (p ∷ l) later =
    passed-number p.number (stop_at k p) (first_part k l later) refl
    ∙ ap (λ (n : ℕ). p.number then n) (part-number k l later)
    ∙ sym (then-assoc p.number (first_refusal (numbers l)) later.number)

-- the number of the first stop is the first refusal of the rows
pub stop-number : (l : List Row) → (first_stop l).number ≡ first_refusal (map refusal_of l)
unfolding first_stop first_refusal refusal_of
stop-number [] = refl
stop-number (r ∷ l) = part-number r.row r.parts (first_stop l) ∙ ap (λ (n : ℕ). first_refusal (numbers r.parts) then n) (stop-number l)

-- "'accepted' exactly where": the number says it
pub stop-accepted : (l : List Row) → (first_stop l).number ≡ 0 → first_stop l ≡ accepted
unfolding first_stop first_refusal refusal_of
stop-accepted [] z = refl
stop-accepted (r ∷ l) z =
    let both = then-zero (first_refusal (numbers r.parts)) (first_refusal (map refusal_of l)) (sym (stop-number (r ∷ l)) ∙ z) in
    row-passed r.row r.parts (first_stop l) both.0 ∙ stop-accepted l (stop-number l ∙ both.1)

pub first-stopped : (l : List Row) (n : ℕ) → (first_stop l).number ≡ suc n → Stopped l (first_stop l)
unfolding first_stop refusal_of first_refusal
first-stopped [] n z = absurd (omega arith)
first-stopped (r ∷ l) n z = by (refusal_of r) refl (first-stopped l n)
  where
    by : (j : ℕ) → refusal_of r ≡ j → ((first_stop l).number ≡ suc n → Stopped l (first_stop l)) → Stopped (r ∷ l) (first_stop (r ∷ l))
    by zero e again =
        let same = row-passed r.row r.parts (first_stop l) e in
        let rest = again (ap (λ (s : Stop). s.number) (sym same) ∙ z) in
        record {
          before = r ∷ rest.before;
          here = rest.here;
          behind = rest.behind;
          rows = ap (λ (k : List Row). r ∷ k) rest.rows;
          passed = ap (λ (i : ℕ). i then first_refusal (map refusal_of rest.before)) e ∙ rest.passed;
          at = subst (At rest.here.row rest.here.parts) (sym same) rest.at;
        }
    by (suc j) e again =
        record { before = []; here = r; behind = l; rows = refl; passed = refl; at = row-stops r.row r.parts (first_stop l) j e }
