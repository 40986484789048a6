-- The theorems of specs/Laws.antt that rest on one_found. Assumes nothing.
use Rattle.std.specs.Prelude.{ℕ, ◌+◌, ◌<◌, ◌≡◌, List, [], ◌∷◌, map, length, get_or, take}
use Rattle.std.proofs.Common.{add-one, sym, ap, ap₂, ◌∙◌, take-suc}
use Rattle.std.proofs.lemmas.List.{map-append}
use Rattle.meaning.specs.Model.{Model}
use Rattle.meaning_courses.specs.Courses.{Courses}
use Rattle.course_table.specs.Table.{entry_of}
use Rattle.course_tests.specs.Found.{worse, entry_found, entries_found}
use Rattle.course_tests.specs.Laws.{one_found, both_found}

-- ---- entries one after the other

module _ (m : Model) (o : ℕ) (t : Courses) (n : ℕ) where
  pub found_turn : (l : List ℕ) (k a r : ℕ) → k < length l → a ≡ entries_found m o t n (map entry_of (take k l)) → r ≡ entry_found m o t n (entry_of (get_or l k 0))
      → worse a r ≡ entries_found m o t n (map entry_of (take (k + 1) l))
  found_turn l k a r h e f =
      ap₂ (λ (x y : ℕ). worse x y) e (f ∙ one_found m o t n (entry_of (get_or l k 0)))
      ∙ both_found m o t n (map entry_of (take k l)) (entry_of (get_or l k 0) ∷ [])
      ∙ ap (entries_found m o t n) (sym (map-append entry_of (take k l) (get_or l k 0 ∷ [])) ∙ ap (map entry_of) (sym (take-suc l k 0 h) ∙ ap (λ i. take i l) (sym (add-one k))))
