-- Any sequence of calls leaves what `meaning` says of any well-formed model with the same records in use: `followed`. Assumes nothing.
use Rattle.std.specs.Prelude.{ℕ, ◌≡◌, refl, true, List, [], ◌∷◌, Float}
use Rattle.std.proofs.Common.{◌∙◌}
use Rattle.meaning.specs.Model.{Model}
use Rattle.meaning.specs.Split.{split_refusal, model_after, Cut, after_all}
use Rattle.meaning.specs.Formed.{WellFormed}
use Rattle.memory_layout.specs.Decode.{decode}
use Rattle.memory_layout.specs.Readable.{readable}
use Rattle.memory_writes.specs.Change.{SameModel}
use Rattle.memory_layout.specs.Limits.{limits}
use Rattle.split_place.specs.SplitNumber.{split_number}
use Rattle.split_edge.specs.After.{split_words, split_reals}
use Rattle.meaning_split_laws.specs.Terms.{split_edges}
use Rattle.meaning_split_laws.specs.Kept.{split-keeps}
use Rattle.split_effect.specs.Statements.{HoldsModel}
use Rattle.split_effect.proofs.Statements.{split-model}
use Rattle.split_sequences.specs.Sequence.{calls_words, calls_reals, calls_edges}
use Rattle.split_sequences.specs.Same.{same-trans}
use Rattle.split_sequences.specs.Tested.{refusal-same}
use Rattle.split_sequences.specs.Changed.{after_same}

-- in readable memory the number of a call is that of the thirteen tests
pub number_read : (room w : List ℕ) (x : List Float) (e : ℕ) (t : Float) → readable room w x ≡ true
    → split_number room w x e t ≡ split_refusal (limits room) (decode room w x) e t
unfolding split_number
number_read room w x e t r = rw r

pub record Followed (room w : List ℕ) (x : List Float) (n : Model) (l : List Cut) : Type 0 where
  pub holds : HoldsModel room (calls_words room w x l) (calls_reals room w x l) (after_all (limits room) n l)
  pub edges : calls_edges room w x l ≡ split_edges (limits room) n l

pub followed : (room w : List ℕ) (x : List Float) (n : Model) (l : List Cut) → readable room w x ≡ true → SameModel (decode room w x) n → WellFormed (limits room) n
    → Followed room w x n l
unfolding calls_words calls_reals calls_edges after_all split_edges
followed room w x n [] r s f = record { holds = record { readable = r; model = s }; edges = refl }
followed room w x n (c ∷ l) r s f =
    let e = c.edge in
    let t = c.fraction in
    let h = split-model room w x e t r in
    let rest =
    followed room (split_words room w x e t) (split_reals room w x e t) (model_after (limits room) n e t) l h.readable
    (same-trans _ (model_after (limits room) (decode room w x) e t) _ h.model (after_same (limits room) (decode room w x) n s f e t))
    (split-keeps (limits room) n e t f) in
    record { holds = rest.holds; edges = rw (number_read room w x e t r ∙ refusal-same (limits room) (decode room w x) n s f e t, rest.edges) }
