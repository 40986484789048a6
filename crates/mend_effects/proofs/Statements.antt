-- The theorems of specs/Statements.antt that rest on change-kept, else-one, head_apart and want-due. Assumes nothing.
use Rattle.std.specs.Prelude.{ℕ, ◌<◌, ◌≡◌, true, false, Float}
use Rattle.std.proofs.Common.{ap, ◌∙◌}
use Rattle.std.proofs.Math.Path.{refl}
use mathlib.Core.List.{List, [], ◌∷◌, map}
use Rattle.meaning.specs.Lists.{every, member}
use Rattle.meaning.specs.Model.{Model}
use Rattle.meaning_list_laws.specs.Lists.{member-append, member-none, member-front-none, member-back-none}
use Rattle.meaning_mends.specs.Mends.{Change, made, made_all, changes, mended, fits, mend_refusal}
use Rattle.meaning_mends.specs.Words.{changes_words}
use Rattle.memory_layout.specs.Layout.{word}
use Rattle.memory_layout.specs.Decode.{decode}
use Rattle.memory_layout.specs.Readable.{readable}
use Rattle.memory_layout.specs.Laws.{fit_of}
use Rattle.mend_writes.specs.Made.{made_word, made_words}
use Rattle.mend_writes.specs.Facts.{Appliable}
use Rattle.mend_writes.specs.Laws.{each-stored}
use Rattle.mend_effects.specs.Due.{Due, AllDue}
use Rattle.mend_effects.specs.One.{change-kept}
use Rattle.mend_effects.specs.All.{same-model, open_of}
use Rattle.mend_effects.proofs.All.{all-kept, all-due, open-within}
use Rattle.mend_effects.specs.Statements.{places_of, all_places, else-one, head_apart, HoldsMended, held}

module _ (room : List ℕ) where
  pub else-as-before : (w : List ℕ) (l : List Change) (q : ℕ) → member q (all_places room l) ≡ false → word (made_words room w l) q ≡ word w q
  unfolding made_words all_places
  else-as-before w [] q h = refl
  else-as-before w (c ∷ l) q h =
      else-as-before (made_word room w c) l q (member-back-none q (places_of room c) (all_places room l) h)
      ∙ else-one room w c q (member-front-none q (places_of room c) (all_places room l) h)

  heads-apart : (l : List Change) (q : ℕ) → q < 11 → member q (all_places room l) ≡ false
  unfolding all_places
  heads-apart [] q h = member-none q
  heads-apart (c ∷ l) q h = member-append q (places_of room c) (all_places room l) ∙ rw (head_apart room c q h) (heads-apart l q h)

  pub counts-and-version-stay : (w : List ℕ) (l : List Change) (q : ℕ) → q < 11 → word (made_words room w l) q ≡ word w q
  counts-and-version-stay w l q h = else-as-before w l q (heads-apart l q h)

module _ (room w : List ℕ) (x : List Float) (ok : readable room w x ≡ true) where
  abbrev m : Model
  m = decode room w x

  -- one change that the model takes
  pub change-holds : (c : Change) → Due m c → fits c ≡ true → HoldsMended room (made_word room w c) x (made m c)
  change-holds c h e = held room w x ok (change-kept room w x m (fit_of room w x ok) (same-model m) c h e)

  -- changes that it takes one after the other
  pub changes-hold : (l : List Change) → AllDue m l → every (map fits l) ≡ true → HoldsMended room (made_words room w l) x (made_all m l)
  changes-hold l h e = held room w x ok (all-kept room x l w m (fit_of room w x ok) (same-model m) h e)

  module _ (b n : ℕ) (accepted : mend_refusal m b n ≡ 0) where
    -- the changes of an accepted mending are what `apply` asks for
    pub mending-applies : Appliable room w (changes_words (changes m b))
    mending-applies =
        let f = fit_of room w x ok in
        record { small = f.sized.small; words = f.sized.words; each = each-stored room (changes m b) (open-within room w x b f (open_of m b n accepted)) }

    -- and it leaves the mended model
    pub mending-holds : HoldsMended room (made_words room w (changes m b)) x (mended m b)
    unfolding mended
    mending-holds = let o = open_of m b n accepted in changes-hold (changes m b) (all-due m b o) o.room
