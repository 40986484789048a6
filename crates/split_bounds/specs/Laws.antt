-- The tests of `edge_parameter_bounds` as the code makes them. Assumes nothing.
use Rattle.std.specs.Prelude.{ℕ, zero, suc, ◌≡◌, refl, List, Float}
use Rattle.std.proofs.Common.{sym, ap, ◌∙◌}
use Rattle.geom_lines_planes.specs.Refuse.{◌unless◌, ◌then◌}
use Rattle.meaning.specs.Model.{Model}
use Rattle.meaning.specs.Refuse.{first_refusal}
use Rattle.meaning.specs.Split.{lo, hi, test2, test4, test5, test6, test7, test8, bounds_refusal}
use Rattle.meaning_list_laws.specs.Tests.{then-zero, then-none, unless-zero}
use Rattle.memory_layout.specs.Decode.{decode}
use Rattle.memory_layout.specs.Readable.{readable}
use Rattle.memory_layout.specs.Fit.{Fit}
use Rattle.memory_layout.specs.Laws.{fit_of}
use Rattle.split_segment.specs.Segment.{segment_at, low, high, span_refusal}
use Rattle.split_bounds.specs.Ends.{ends_refusal}
use Rattle.split_bounds.specs.Answers.{bounds_number}

-- ---- tests 2 and 4 to 6, and tests 7 and 8

two-rows : (a b c d e f : ℕ) → ((a then b then c then d then 0) then e then f) ≡ (a then b then c then d then e then f then 0)
two-rows zero zero zero zero e f = ap (λ (n : ℕ). e then n) (sym (then-none f))
two-rows zero zero zero (suc d) e f = refl
two-rows zero zero (suc c) d e f = refl
two-rows zero (suc b) c d e f = refl
two-rows (suc a) b c d e f = refl

pub bounds-tests : (m : Model) (e : ℕ) → ends_refusal m e then span_refusal (segment_at m e) ≡ bounds_refusal m e
unfolding ends_refusal bounds_refusal first_refusal span_refusal segment_at low high lo hi test7 test8
bounds-tests m e = two-rows (test2 m e) (test4 m e) (test5 m e) (test6 m e) (test7 m e) (test8 m e)

-- ---- the answer

-- no refusal: the memory is readable, and the points can be read
pub opened : (room w : List ℕ) (x : List Float) (e : ℕ) → bounds_number room w x e ≡ 0 → Fit room w x × (ends_refusal (decode room w x) e ≡ 0)
unfolding bounds_number
opened room w x e z =
    let a = then-zero (9 unless readable room w x) (bounds_refusal (decode room w x) e) z in
    let b = then-zero (ends_refusal (decode room w x) e) (span_refusal (segment_at (decode room w x) e)) (bounds-tests (decode room w x) e ∙ a.1) in
    (fit_of room w x (unless-zero 8 (readable room w x) a.0), b.0)
