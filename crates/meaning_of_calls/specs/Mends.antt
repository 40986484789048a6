-- What the calls that mend a body answer an office (W-208, whose words are quoted): the number, the changes and the model of `meaning_mends`, of the model that the lent memory holds. Assumes nothing.
use Rattle.std.specs.Prelude.{ℕ, ◌/◌, ◌≡◌, Bool, List, [], length, Float}
use Rattle.std.proofs.Math.Path.{refl}
use Rattle.std.proofs.Common.{sym, ap, ◌∙◌, subst}
use Rattle.std.proofs.Math.Bool.{true, false}
use Rattle.std.proofs.Math.Dec.{leb}
use Rattle.geom_lines_planes.specs.Refuse.{◌unless◌, ◌then◌}
use Rattle.meaning.specs.Offices.{office_refusal, body_for}
use Rattle.meaning.specs.Refuse.{answered}
use Rattle.meaning_list_laws.specs.Tests.{then-zero, unless-zero}
use Rattle.memory_layout.specs.Decode.{decode}
use Rattle.memory_layout.specs.Readable.{readable}
use Rattle.memory_offices.specs.Sight.{by_office}
use Rattle.meaning_mends.specs.Mends.{changes, mended, mend_refusal, mend}
use Rattle.meaning_mends.specs.Words.{changes_words}
use Rattle.mend_meetings.specs.Machine.{MARKS}
use Rattle.mend_effects.specs.Statements.{HoldsMended}
use Rattle.mend_effects.proofs.Statements.{mending-holds}
use Rattle.mend_effects.proofs.SecondRun.{second-run-none}
use Rattle.mend_body.specs.Answers.{mend_number}
use Rattle.office_mends.specs.Answers.{office_mend_number, office_mend_count, office_mend_list, office_mend_words}

module _ (room w : List ℕ) (x : List Float) (o b : ℕ) (marks nums : List ℕ) where
  -- 9 of the memory, 1 of the office and 8 of the marks, then "2 for a missing body, region, shell, face, loop, fin or fin's edge, then 1 for two parents, then 8 for an edge or change list without a slot"
  pub mend-told : office_mend_number room w x o b marks nums
      ≡ (9 unless readable room w x then office_refusal o then 8 unless leb MARKS (length marks) then mend_refusal (decode room w x) (body_for (decode room w x) o b) (length nums / 6))
  unfolding office_mend_number by_office mend_number
  mend-told = parts (readable room w x) (office_refusal o) (8 unless leb MARKS (length marks)) _
    where
      parts : (t : Bool) (a c d : ℕ) → (9 unless t then a then 9 unless t then c then d) ≡ (9 unless t then a then c then d)
      parts true a c d = refl
      parts false a c d = refl

  -- where nothing is refused
  module _ (z : office_mend_number room w x o b marks nums ≡ 0) where
    abbrev id : ℕ
    id = body_for (decode room w x) o b

    reads : readable room w x ≡ true
    reads = unless-zero 8 (readable room w x) (then-zero (9 unless readable room w x) _ (sym mend-told ∙ z)).0

    pub nothing-refused : mend_refusal (decode room w x) id (length nums / 6) ≡ 0
    nothing-refused =
        let a = (then-zero (9 unless readable room w x) _ (sym mend-told ∙ z)).1 in
        (then-zero (8 unless leb MARKS (length marks)) _ (then-zero (office_refusal o) _ a).1).1

    -- how many changes there are
    pub count-is : office_mend_count room w x o b marks nums ≡ length (changes (decode room w x) id)
    unfolding office_mend_count
    count-is = rw z refl

    -- "Applying them to the old tables gives the new ones exactly": the tables behind the call can be read, and hold the mended model
    pub tables-mended : HoldsMended room (office_mend_words room w x o b marks nums) x (mended (decode room w x) id)
    unfolding office_mend_words
    tables-mended = rw z (mending-holds room w x reads id (length nums / 6) nothing-refused)

    -- "and a second run reports none"
    pub second_none : (k : ℕ) → mend (decode room (office_mend_words room w x o b marks nums) x) id k ≡ answered 0 []
    unfolding office_mend_words
    second_none k = rw z (second-run-none room w x reads id (length nums / 6) nothing-refused k)
