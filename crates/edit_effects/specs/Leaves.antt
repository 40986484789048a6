-- What a call leaves in the lent memory, said over the model. Definitions only.
use Rattle.std.specs.Prelude.{ℕ, ◌≡◌, Bool, true, List, Float}
use Rattle.meaning.specs.Model.{Model}
use Rattle.memory_layout.specs.Decode.{decode}
use Rattle.memory_layout.specs.Readable as Readable
use Rattle.memory_writes.specs.Change.{SameModel}
use Rattle.edit_core.specs.Answers.{insert_number, insert_words, insert_reals, edit_number, edit_words, edit_reals}

module _ (room w : List ℕ) (x : List Float) where
  -- the number 0: a readable memory, which holds the model n; a refusal: every word and float as it was
  pub record Leaves (number : ℕ) (w' : List ℕ) (x' : List Float) (n : Model) : Type 0 where
    pub readable : number ≡ 0 → Readable.readable room w' x' ≡ true
    pub model : number ≡ 0 → SameModel (decode room w' x') n
    pub refused : (number ≡ 0 → ⊥) → (w' ≡ w) × (x' ≡ x)

  -- an insert into table k leaves the model n: its values pass the test ok, f are its fields, s its floats
  abbrev pub Inserts : Bool → ℕ → List ℕ → List Float → Model → Type 0
  Inserts ok k f s n = Leaves (insert_number room w x ok k) (insert_words room w x ok k f) (insert_reals room w x ok k s) n

  -- an edit of record i of table k, with the fields f from place p on
  abbrev pub Sets : Bool → ℕ → ℕ → ℕ → List ℕ → List Float → Model → Type 0
  Sets ok k i p f s n = Leaves (edit_number room w x ok k i) (edit_words room w x ok k i p f) (edit_reals room w x ok k i s) n
