-- The statement of specs/Statements.antt that rests on `split_done` and `split-refused`. Assumes nothing.
use Rattle.std.specs.Prelude.{ℕ, zero, suc, ◌≡◌, true, List, Float}
use Rattle.std.proofs.Math.Path.{refl}
use Rattle.std.proofs.Common.{◌∙◌}
use Rattle.meaning.specs.Split.{split_refusal, after_split, where_accepted, model_after}
use Rattle.memory_layout.specs.Decode.{decode}
use Rattle.memory_layout.specs.Readable.{readable}
use Rattle.memory_layout.specs.Limits.{limits}
use Rattle.split_place.specs.SplitNumber.{split_number}
use Rattle.split_edge.specs.After.{split_words, split_reals}
use Rattle.split_effect.specs.Statements.{HoldsModel, same-model, split_done, split-refused}

module _ (room w : List ℕ) (x : List Float) (e : ℕ) (t : Float) where
  -- so that a readable memory holds, behind the call, the model that `meaning` says, accepted or refused
  pub split-model : readable room w x ≡ true → HoldsModel room (split_words room w x e t) (split_reals room w x e t) (model_after (limits room) (decode room w x) e t)
  unfolding model_after split_number
  split-model r = go (split_refusal (limits room) (decode room w x) e t) refl
    where
      number : split_number room w x e t ≡ split_refusal (limits room) (decode room w x) e t
      number = rw r

      go : (n : ℕ) → split_refusal (limits room) (decode room w x) e t ≡ n
          → HoldsModel room (split_words room w x e t) (split_reals room w x e t) (where_accepted n (decode room w x) (after_split (decode room w x) e t))
      go zero z = split_done room w x e t (number ∙ z)
      go (suc n) z = let k = split-refused room w x e t n (number ∙ z) in rw (k.0, k.1) (record { readable = r; model = same-model (decode room w x) })
