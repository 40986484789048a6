-- What stays true of the lent memory through splits: what rests on calls-followed and calls-model of proofs/Statements.antt. Assumes nothing.
use Rattle.std.specs.Prelude.{ℕ, ◌<◌, ◌≡◌, true, List, Float}
use Rattle.std.proofs.Math.Path.{ap}
use Rattle.std.proofs.Common.{◌∙◌}
use Rattle.meaning.specs.Model.{Model}
use Rattle.meaning.specs.Split.{Cut, after_all}
use Rattle.meaning.specs.Formed.{topological_report, empty_report}
use Rattle.memory_layout.specs.Decode.{decode}
use Rattle.memory_layout.specs.Readable.{readable}
use Rattle.memory_layout.specs.Limits.{limits}
use Rattle.meaning_split_laws.specs.Terms.{itself, split_edges, Restored, euler_number}
use Rattle.meaning_split_laws.specs.Statements.{empty-report-stays}
use Rattle.meaning_split_laws.proofs.Version.{version-stays}
use Rattle.meaning_split_laws.proofs.Statements.{euler-number-stays, gives_back}
use Rattle.split_sequences.specs.Sequence.{calls_words, calls_reals, calls_edges}
use Rattle.split_sequences.specs.Same.{same-formed}
use Rattle.split_sequences.specs.Walked.{report-same, walks_same, euler-same}
use Rattle.split_sequences.specs.Restored.{restored_same}
use Rattle.split_sequences.specs.Statements.{Sound, after-formed, still-there}
use Rattle.split_sequences.proofs.Statements.{calls-followed, calls-model}

module _ (room w : List ℕ) (x : List Float) (l : List Cut) (s : Sound room w x) where
  abbrev before : Model
  before = decode room w x

  abbrev behind : Model
  behind = decode room (calls_words room w x l) (calls_reals room w x l)

  -- 1. "After any sequence of splits, accepted or refused, it is still well formed"
  pub memory-stays-well-formed : Sound room (calls_words room w x l) (calls_reals room w x l)
  memory-stays-well-formed =
      record { readable = (calls-model room w x l s).readable; formed = same-formed (limits room) behind (after_all (limits room) before l) (calls-model room w x l s).model (after-formed room w x l s) }

  -- 2. "and a body whose topological report was empty keeps an empty one"
  pub memory-keeps-empty-report : (b : ℕ) → b < (decode room w x).bodies.used → empty_report (topological_report (decode room w x) b) ≡ true
      → empty_report (topological_report (decode room (calls_words room w x l) (calls_reals room w x l)) b) ≡ true
  memory-keeps-empty-report b hb r =
      ap empty_report (report-same behind (after_all (limits room) before l) (calls-model room w x l s).model b (still-there room w x l s b hb))
      ∙ empty-report-stays (limits room) before l s.formed b hb r

  -- 3. "so vertices minus edges plus faces never changes"
  pub memory-keeps-euler-number : (b : ℕ) → b < (decode room w x).bodies.used
      → euler_number (decode room (calls_words room w x l) (calls_reals room w x l)) b ≡ euler_number (decode room w x) b
  memory-keeps-euler-number b hb =
      euler-same (after_all (limits room) before l) behind b
      (walks_same behind (after_all (limits room) before l) (calls-model room w x l s).model b (limits room) (after-formed room w x l s) (still-there room w x l s b hb))
      ∙ euler-number-stays (limits room) before l s.formed b hb

  -- (W-211) "A model names its version and keeps it through splits"
  pub memory-keeps-version : (decode room (calls_words room w x l) (calls_reals room w x l)).version ≡ (decode room w x).version
  memory-keeps-version = (calls-model room w x l s).model.version ∙ version-stays (limits room) before l

  -- 4. "Striking out what was added gives back every stored list in its starting order", and every other field of every old record is as it was but for the
  -- end of an edge that was split (`Restored`: meaning_split_laws/specs/Terms.antt)
  pub memory-gives-back : Restored (decode room w x) (decode room (calls_words room w x l) (calls_reals room w x l)) (calls_edges room w x l) itself
  memory-gives-back =
      rw (calls-followed room w x l s).edges
      (restored_same before (after_all (limits room) before l) behind (calls-model room w x l s).model (split_edges (limits room) before l) itself
      (gives_back (limits room) before l s.formed))
