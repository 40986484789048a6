-- The theorems of specs/Statements.antt that rest on followed. Assumes nothing.
use Rattle.std.specs.Prelude.{ℕ, List, Float}
use Rattle.meaning.specs.Model.{Model}
use Rattle.meaning.specs.Split.{Cut, after_all}
use Rattle.memory_layout.specs.Decode.{decode}
use Rattle.memory_layout.specs.Readable.{readable}
use Rattle.memory_layout.specs.Limits.{limits}
use Rattle.split_effect.specs.Statements.{HoldsModel, same-model}
use Rattle.split_sequences.specs.Sequence.{calls_words, calls_reals}
use Rattle.split_sequences.specs.Followed.{Followed, followed}
use Rattle.split_sequences.specs.Statements.{Sound}

module _ (room w : List ℕ) (x : List Float) (l : List Cut) (s : Sound room w x) where
  abbrev before : Model
  before = decode room w x

  pub calls-followed : Followed room w x before l
  calls-followed = followed room w x before l s.readable (same-model before) s.formed

  -- the memory holds the model of `meaning_split_laws`' statements, record by record
  pub calls-model : HoldsModel room (calls_words room w x l) (calls_reals room w x l) (after_all (limits room) (decode room w x) l)
  calls-model = calls-followed.holds
