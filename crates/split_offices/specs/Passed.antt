-- In sound memory, `heard` is what `meaning_office_laws` says of the model (`passed`): `heard-passed`. Assumes nothing.
use Rattle.std.specs.Prelude.{ℕ, ◌≡◌, refl, Bool, true, not, ◌&&◌, List, [], ◌∷◌, eqb, leb, Float}
use Rattle.std.proofs.Math.Nat.{zero-add}
use Rattle.std.proofs.Common.{sym, ap, ◌∙◌, ltb-true}
use Rattle.std.proofs.Math.Path.{ap₂}
use Rattle.std.proofs.Math.Bool.{false, cond, ◌||◌}
use Rattle.std.proofs.Math.Dec.{ltb}
use Rattle.meaning.specs.Lists.{any, run, member}
use Rattle.meaning.specs.Model.{Model, Limits, Body}
use Rattle.meaning.specs.Split.{model_after, Cut}
use Rattle.meaning.specs.Formed.{WellFormed, has_edge}
use Rattle.meaning.specs.Offices.{office_number, foreign, foreign_edge, edge_for, office_model_after, OfficeCut}
use Rattle.meaning_list_laws.specs.Lists.{fold-in, all-member, all-run}
use Rattle.meaning_split_laws.specs.Walked.{has-edge}
use Rattle.meaning_split_laws.specs.Kept.{split-keeps}
use Rattle.meaning_office_laws.specs.Passed.{passed, passed-after, above-after}
use Rattle.memory_layout.specs.Decode.{decode}
use Rattle.memory_layout.specs.Readable.{readable}
use Rattle.memory_writes.specs.Change.{SameModel}
use Rattle.memory_layout.specs.Limits.{limits}
use Rattle.split_edge.specs.After.{split_words, split_reals, office_split_words, office_split_reals}
use Rattle.split_effect.proofs.Statements.{split-model}
use Rattle.split_sequences.specs.Same.{same-trans, same_in, same-formed}
use Rattle.split_sequences.specs.Walked.{walks_same}
use Rattle.split_sequences.specs.Changed.{after_same}
use Rattle.split_offices.specs.Calls.{heard}
use Rattle.split_offices.specs.Heard.{heard-words, heard-reals, above-refused, refused-left}

-- an edge is the same for an office in two models with the same records in use, of which one is well formed
module _ (y : Limits) (m n : Model) (s : SameModel m n) (f : WellFormed y n) (o e : ℕ) where
  foreign-same : (b : ℕ) → ltb b n.bodies.used ≡ true → (foreign m o b && has_edge m b e) ≡ (foreign n o b && has_edge n b e)
  foreign-same b h =
      let below = ltb-true b n.bodies.used h in
      ap₂ ◌&&◌
      (ap₂ ◌&&◌ (ap (ltb b) s.bodies.used) (same_in s.bodies (λ (a : Body). not (eqb (office_number a.office) o)) b h))
      (has-edge y m (same-formed y m n s f) b (rw s.bodies.used below) e
      ∙ ap (member e) (walks_same m n s b y f below).edges
      ∙ sym (has-edge y n f b below e))

  pub edge_same : edge_for m o e ≡ edge_for n o e
  unfolding edge_for foreign_edge any
  edge_same =
      ap₂ (λ b k. cond b k e)
      (ap (λ k. any (λ c. foreign m o c && has_edge m c e) (run 0 k)) s.bodies.used
      ∙ fold-in any ◌||◌ false (λ g. refl) (λ g i k. refl) _ _ (run 0 n.bodies.used)
      (λ b g. foreign-same b (all-member (λ i. ltb i n.bodies.used) (run 0 n.bodies.used) b (rw zero-add at (all-run 0 n.bodies.used)) g)))
      s.edges.used

-- the memory is readable, and holds the records in use of the well-formed model n
pub record Follows (room w : List ℕ) (x : List Float) (n : Model) : Type 0 where
  pub readable : readable room w x ≡ true
  pub model : SameModel (decode room w x) n
  pub formed : WellFormed (limits room) n

-- ---- one call

module _ (room w : List ℕ) (x : List Float) (n : Model) (f : Follows room w x n) (o e : ℕ) (t : Float) where
  edge-heard : edge_for (decode room w x) o e ≡ edge_for n o e
  edge-heard = edge_same (limits room) (decode room w x) n f.model f.formed o e

  split-follows : (i : ℕ) → Follows room (split_words room w x i t) (split_reals room w x i t) (model_after (limits room) n i t)
  split-follows i =
      let h = split-model room w x i t f.readable in
      record {
        readable = h.readable;
        model = same-trans _ (model_after (limits room) (decode room w x) i t) _ h.model (after_same (limits room) (decode room w x) n f.model f.formed i t);
        formed = split-keeps (limits room) n i t f.formed;
      }

  pub call-follows : Follows room (office_split_words room w x o e t) (office_split_reals room w x o e t) (office_model_after (limits room) n o e t)
  call-follows = by (leb o 1) refl
    where
      by : (b : Bool) → leb o 1 ≡ b → Follows room (office_split_words room w x o e t) (office_split_reals room w x o e t) (office_model_after (limits room) n o e t)
      by true h = rw (heard-words room w x o e t h, heard-reals room w x o e t h, passed-after (limits room) n o e t h, edge-heard) (split-follows (edge_for n o e))
      by false h =
          let k = above-refused room w x o e t h in
          let s = refused-left room w x o e t k.0 k.1 in
          rw (s.0, s.1, above-after (limits room) n o e t h) f

-- ---- a sequence

pub heard-passed : (room w : List ℕ) (x : List Float) (n : Model) → Follows room w x n → (l : List OfficeCut) → heard room w x l ≡ passed (limits room) n l
unfolding heard passed
heard-passed room w x n f [] = refl
heard-passed room w x n f (c ∷ l) =
    ap₂ (λ (i : ℕ) (k : List Cut). cond (leb c.office 1) (record { edge = i; fraction = c.fraction } ∷ k) k)
    (edge-heard room w x n f c.office c.edge c.fraction)
    (heard-passed room (office_split_words room w x c.office c.edge c.fraction) (office_split_reals room w x c.office c.edge c.fraction) (office_model_after (limits room) n c.office c.edge c.fraction) (call-follows room w x n f c.office c.edge c.fraction) l)
