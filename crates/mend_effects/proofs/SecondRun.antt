-- A second run of a mending reports none: what rests on mending-holds of proofs/Statements.antt. Assumes nothing.
use Rattle.std.specs.Prelude.{ℕ, ◌≡◌, true, Float}
use Rattle.std.proofs.Common.{ap, ◌∙◌}
use mathlib.Core.List.{List, []}
use Rattle.meaning.specs.Model.{Model}
use Rattle.meaning.specs.Refuse.{answered}
use Rattle.meaning_mends.specs.Mends.{changes, mend_refusal, mend}
use Rattle.memory_layout.specs.Decode.{decode}
use Rattle.memory_layout.specs.Readable.{readable}
use Rattle.mend_writes.specs.Made.{made_words}
use Rattle.mend_effects.specs.All.{open_of}
use Rattle.mend_effects.specs.Again.{none-to-change, not-refused}
use Rattle.mend_effects.proofs.Statements.{mending-holds}

module _ (room w : List ℕ) (x : List Float) (ok : readable room w x ≡ true) where
  abbrev m : Model
  m = decode room w x

  module _ (b n : ℕ) (accepted : mend_refusal m b n ≡ 0) where
    -- "a second run reports none", and is not refused, however long its list
    pub second-run-none : (k : ℕ) → mend (decode room (made_words room w (changes m b)) x) b k ≡ answered 0 []
    second-run-none k =
        let o = open_of m b n accepted in
        let again : Model = decode room (made_words room w (changes m b)) x in
        ap (λ r. answered r (changes again b)) (not-refused m b o again (mending-holds room w x ok b n accepted).model k) ∙ ap (answered 0) (none-to-change m b o again (mending-holds room w x ok b n accepted).model)
