-- That a course has the stones and the total of a sheet which takes them in one by one, and that no total outgrows its two words (W-213): these rest on `few-stones` of specs/Statements.antt. Assumes nothing.
use Rattle.std.specs.Prelude.{ℕ, ◌*◌, ◌^◌, ◌≤◌, ◌≡◌, nat_abs}
use Rattle.std.proofs.Common.{arith, ◌∙◌}
use Rattle.std.proofs.Math.Path.{ap}
use mathlib.Core.List.{map}
use Rattle.std.proofs.Math.ListN.{length}
use Rattle.meaning.specs.Model.{Model}
use Rattle.meaning.specs.Offices.{body_for}
use Rattle.meaning_sheets.specs.Sheets.{new_sheet, stone_of, after_takes}
use Rattle.meaning_sheet_laws.specs.Terms.{taken_stones, sum_of}
use Rattle.meaning_sheet_laws.specs.Statements.{new-readable}
use Rattle.meaning_sheet_laws.proofs.Statements.{counts-from-new, adds-up-from-new}
use Rattle.meaning_courses.specs.Courses.{Courses, entries_of, stones_of, LEVELS, course_refusal, course_stones, course_total}
use Rattle.meaning_course_laws.specs.Statements.{few-stones, asks, all-taken, sums, counted, office-ok, none-refused, total-held}

-- the new sheet, handed from stone to stone
module _ (m : Model) (o : ℕ) (t : Courses) (c : ℕ) (h : (d : ℕ) → length (entries_of t d) ≤ 16) (z : course_refusal m o t c ≡ 0) where
  taken : taken_stones m (asks o (stones_of t LEVELS c)) new_sheet ≡ map (λ b. stone_of m (body_for m o b)) (stones_of t LEVELS c)
  taken = all-taken m o (office-ok m o t c h z) (stones_of t LEVELS c) new_sheet new-readable (omega (arith, few-stones t h c)) (none-refused m o t c h z)

  pub as-on-a-sheet-stones : (after_takes m (asks o (stones_of t LEVELS c)) new_sheet).stones ≡ course_stones t c
  as-on-a-sheet-stones = counts-from-new m (asks o (stones_of t LEVELS c)) ∙ ap length taken ∙ counted m o (office-ok m o t c h z) (stones_of t LEVELS c)

  pub as-on-a-sheet-total : (after_takes m (asks o (stones_of t LEVELS c)) new_sheet).total ≡ course_total m o t c
  as-on-a-sheet-total = adds-up-from-new m (asks o (stones_of t LEVELS c)) ∙ ap sum_of taken ∙ sums m o (office-ok m o t c h z) (stones_of t LEVELS c)

-- 6. No total outgrows its two words: at most 3·2^60 for each stone, so 3·2^76
pub total_size : (m : Model) (o : ℕ) (t : Courses) (c : ℕ) → ((d : ℕ) → length (entries_of t d) ≤ 16) → course_refusal m o t c ≡ 0 → nat_abs (course_total m o t c) ≤ 3 * 2 ^ 76
total_size m o t c h z = omega (arith, total-held m o (stones_of t LEVELS c) (none-refused m o t c h z), few-stones t h c)
