-- The theorems of specs/Night.antt that rest on night-keeps-model. Assumes nothing.
use Rattle.std.specs.Prelude.{ℕ, ◌<◌, ◌≡◌, true, List, ◌++◌, Float}
use Rattle.std.proofs.Common.{sym, ap, ◌∙◌}
use Rattle.meaning.specs.Model.{Model}
use Rattle.meaning.specs.Split.{Cut, after_all}
use Rattle.meaning.specs.Formed.{topological_report, empty_report}
use Rattle.memory_layout.specs.Decode.{decode}
use Rattle.memory_layout.specs.Readable.{lent_ok}
use Rattle.image_laws.specs.Numbers.{Doubles}
use Rattle.meaning_split_laws.specs.Terms.{itself, split_edges, Restored, euler_number}
use Rattle.meaning_split_laws.specs.Statements.{empty-report-stays}
use Rattle.meaning_split_laws.proofs.Statements.{euler-number-stays, gives_back}
use Rattle.memory_layout.specs.Limits.{limits}
use Rattle.split_edge.specs.After.{split_answer}
use Rattle.split_effect.specs.Statements.{same-model}
use Rattle.split_sequences.specs.Sequence.{calls_words, calls_reals, calls_edges}
use Rattle.split_sequences.specs.Same.{same-formed}
use Rattle.split_sequences.specs.Walked.{report-same, walks_same, euler-same}
use Rattle.split_sequences.specs.Restored.{restored_same}
use Rattle.split_sequences.specs.Followed.{followed}
use Rattle.split_sequences.specs.Statements.{Sound}
use Rattle.split_sequences.proofs.Statements.{calls-model}
use Rattle.image_effects.specs.Night.{edges-both, answer-held, morning_words, morning_reals, night_words, night_reals, all-formed, morning, night-keeps-model, still-there}

module _ (room w : List ℕ) (x : List Float) (l k : List Cut) (s : Sound room w x) (double : Doubles x) (v : List ℕ) (y : List Float) (lent : lent_ok room v y ≡ true) where
  -- what all the splits make of the model, without a night
  abbrev whole : Model
  whole = after_all (limits room) (decode room w x) (l ++ k)

  -- "After any sequence of splits, accepted or refused, it is still well formed": so the statements of demand 3 (split_sequences/specs/Statements.antt) go on from it
  pub night-keeps-sound : Sound room (night_words room w x l v y k) (night_reals room w x l v y k)
  night-keeps-sound =
      record {
        readable = (night-keeps-model room w x l k s double v y lent).readable;
        formed = same-formed (limits room) _ whole (night-keeps-model room w x l k s double v y lent).model (all-formed room w x l k s double v y lent (l ++ k));
      }

  -- and the next call answers what it answers without the night
  pub night-keeps-answers : (e : ℕ) (t : Float)
      → split_answer room (night_words room w x l v y k) (night_reals room w x l v y k) e t
      ≡ split_answer room (calls_words room w x (l ++ k)) (calls_reals room w x (l ++ k)) e t
  night-keeps-answers e t =
      answer-held room _ _ whole (night-keeps-model room w x l k s double v y lent) (all-formed room w x l k s double v y lent (l ++ k)) e t ∙ sym (answer-held room _ _ whole (calls-model room w x (l ++ k) s) (all-formed room w x l k s double v y lent (l ++ k)) e t)

  abbrev behind : Model
  behind = decode room (night_words room w x l v y k) (night_reals room w x l v y k)

  -- "and a body whose topological report was empty keeps an empty one"
  pub night-keeps-empty-report : (b : ℕ) → b < (decode room w x).bodies.used → empty_report (topological_report (decode room w x) b) ≡ true
      → empty_report (topological_report (decode room (night_words room w x l v y k) (night_reals room w x l v y k)) b) ≡ true
  night-keeps-empty-report b hb r =
      ap empty_report (report-same behind whole (night-keeps-model room w x l k s double v y lent).model b (still-there room w x l k s double v y lent b hb))
      ∙ empty-report-stays (limits room) (decode room w x) (l ++ k) s.formed b hb r

  -- "so vertices minus edges plus faces never changes"
  pub night-keeps-euler-number : (b : ℕ) → b < (decode room w x).bodies.used
      → euler_number (decode room (night_words room w x l v y k) (night_reals room w x l v y k)) b ≡ euler_number (decode room w x) b
  night-keeps-euler-number b hb =
      euler-same whole behind b (walks_same behind whole (night-keeps-model room w x l k s double v y lent).model b (limits room) (all-formed room w x l k s double v y lent (l ++ k)) (still-there room w x l k s double v y lent b hb))
      ∙ euler-number-stays (limits room) (decode room w x) (l ++ k) s.formed b hb

  -- "Striking out what was added gives back every stored list in its starting order", in the evening and in the morning
  pub night-gives-back : Restored (decode room w x) (decode room (night_words room w x l v y k) (night_reals room w x l v y k))
      (calls_edges room w x l ++ calls_edges room (morning_words room w x l v y) (morning_reals room w x l v y) k) itself
  night-gives-back =
      rw ((followed room w x (decode room w x) l s.readable (same-model (decode room w x)) s.formed).edges, (morning room w x l k s double v y lent).edges, ← edges-both (decode room w x) l k (limits room))
      (restored_same (decode room w x) whole behind (night-keeps-model room w x l k s double v y lent).model (split_edges (limits room) (decode room w x) (l ++ k)) itself
      (gives_back (limits room) (decode room w x) (l ++ k) s.formed))
