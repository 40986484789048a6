-- What an office is told is what the call tells of the body that the id is for it; above 1, 9 or 1. Assumes nothing.
use Rattle.std.specs.Prelude.{ℕ, ◌<◌, ◌≤◌, ◌≡◌, refl, Bool, true, false, leb, length, List, Float}
use Rattle.std.proofs.Math.Path.{sym}
use Rattle.std.proofs.Common.{ap, ◌∙◌, leb-true, leb-false}
use Rattle.memory_layout.specs.Readable.{tag_number}
use Rattle.memory_offices.specs.Sight.{body_asked}
use Rattle.memory_offices.specs.Laws.{office-there, office-above}
use Rattle.memory_offices.proofs.Laws.{unless-there, unless-above}
use Rattle.mend_body.specs.Laws.{list-long, words_long}
use Rattle.mend_body.specs.Answers.{mend_number, mend_count, mend_list, mend_words}
use Rattle.office_mends.specs.Answers.{office_mend_number, office_mend_count, office_mend_list, office_mend_words}

module _ (room w : List ℕ) (x : List Float) (o b : ℕ) (marks nums : List ℕ) where
  -- ---- an office that there is
  module _ (id : ℕ) (e : id ≡ body_asked room w x o b) (h : o ≤ 1) where
    pub number-there : mend_number room w x id marks nums ≡ office_mend_number room w x o b marks nums
    unfolding mend_number office_mend_number
    number-there = rw e (sym (office-there room w x o _ h))

    pub count-there : mend_count room w x id marks nums ≡ office_mend_count room w x o b marks nums
    unfolding mend_number mend_count office_mend_number office_mend_count
    count-there = rw e (unless-there room w x o _ _ _ h)

    pub list-there : mend_list room w x id marks nums ≡ office_mend_list room w x o b marks nums
    unfolding mend_number mend_list office_mend_number office_mend_list
    list-there = rw e (unless-there room w x o _ _ _ h)

    pub words-there : mend_words room w x id marks nums ≡ office_mend_words room w x o b marks nums
    unfolding mend_number mend_words office_mend_number office_mend_words
    words-there = rw e (unless-there room w x o _ _ _ h)

  -- ---- an office above 1
  module _ (h : 1 < o) where
    pub number-above : (k : ℕ) → k ≡ tag_number room w x → k ≡ office_mend_number room w x o b marks nums
    unfolding office_mend_number
    number-above k e = e ∙ sym (office-above room w x o _ h)

    pub count-above : 0 ≡ office_mend_count room w x o b marks nums
    unfolding office_mend_number office_mend_count
    count-above = unless-above room w x o _ _ _ h

    pub list-above : nums ≡ office_mend_list room w x o b marks nums
    unfolding office_mend_number office_mend_list
    list-above = unless-above room w x o _ _ _ h

    pub words-above : w ≡ office_mend_words room w x o b marks nums
    unfolding office_mend_number office_mend_words
    words-above = unless-above room w x o _ _ _ h

  -- the list and the tables are as long as they were
  pub list-as-long : (d : List ℕ) → d ≡ office_mend_list room w x o b marks nums → length d ≡ length nums
  list-as-long d e = by (leb o 1) refl
    where
      by : (t : Bool) → leb o 1 ≡ t → length d ≡ length nums
      by true h = list-long room w x (body_asked room w x o b) marks nums d (e ∙ sym (list-there (body_asked room w x o b) refl (leb-true o 1 h)))
      by false h = ap length (e ∙ sym (list-above (leb-false o 1 h)))

  pub words-as-long : (v : List ℕ) → v ≡ office_mend_words room w x o b marks nums → length v ≡ length w
  words-as-long v e = by (leb o 1) refl
    where
      by : (t : Bool) → leb o 1 ≡ t → length v ≡ length w
      by true h = words_long room w x (body_asked room w x o b) marks nums v (e ∙ sym (words-there (body_asked room w x o b) refl (leb-true o 1 h)))
      by false h = ap length (e ∙ sym (words-above (leb-false o 1 h)))
