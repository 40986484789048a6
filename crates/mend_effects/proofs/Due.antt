-- The theorems of specs/Due.antt that rest on want-due. Assumes nothing.
use Rattle.std.specs.Prelude.{ℕ, ◌≡◌}
use Rattle.std.proofs.Common.{sym, subst}
use Rattle.std.proofs.Math.Bool.{true}
use mathlib.Core.List.{List, [], ◌∷◌}
use Rattle.meaning.specs.Model.{Model}
use Rattle.meaning_mends.specs.Mends.{meetings, made_all, changes, body_there}
use Rattle.meaning_mends.specs.Laws.{Want, change_for, wants_for, wants_all, asked-by-one, Each}
use Rattle.mend_effects.specs.Due.{AllDue, due-append, Present, want-due, present-all, body-wants}

wants-due : (m : Model) (l : List Want) → Each (Present m) l → AllDue m (wants_for m l)
unfolding wants_for
wants-due m [] h = tt
wants-due m (v ∷ l) h = due-append m (change_for m v) _ (want-due m v h.0) (wants-due (made_all m (change_for m v)) l (present-all m (change_for m v) l h.1))

module _ (m : Model) where
  -- the model takes the changes of a mending whose body is there
  pub changes-due : (b : ℕ) → body_there m b ≡ true → AllDue m (changes m b)
  changes-due b t = subst (AllDue m) (sym (asked-by-one m (meetings m b))) (wants-due m (wants_all (meetings m b)) (body-wants m b t))
