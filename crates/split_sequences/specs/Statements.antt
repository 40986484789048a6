-- What stays true of the lent memory (demand 3), for any room, words, floats and list of splits, accepted or refused, whoever asks. Assumes nothing.
use Rattle.std.specs.Prelude.{ℕ, ◌<◌, ◌≡◌, true, false, List, ◌∷◌, ◌++◌, Float}
use Rattle.std.proofs.Math.Path.{ap, subst}
use Rattle.std.proofs.Common.{◌∙◌}
use Rattle.meaning.specs.Model.{Model, Shell, shell}
use Rattle.meaning.specs.Refuse.{given}
use Rattle.meaning.specs.Split.{split_line_edge, model_after, Cut, after_all}
use Rattle.meaning.specs.Formed.{WellFormed, has_edge}
use Rattle.memory_layout.specs.Names.{EDGES, VERTICES}
use Rattle.memory_layout.specs.Layout.{word}
use Rattle.memory_layout.specs.Decode.{decode}
use Rattle.memory_layout.specs.Readable.{readable}
use Rattle.memory_writes.specs.Change.{SameModel}
use Rattle.memory_layout.specs.Limits.{limits}
use Rattle.station_answers.specs.declared.EdgeSplit.{EdgeSplit}
use Rattle.station_answers.specs.declared.Split.TheVariants.{Is}
use Rattle.split_edge.specs.After.{split_answer, split_words, split_reals}
use Rattle.meaning_split_laws.specs.Terms.{OneMore, SameWalks}
use Rattle.meaning_split_laws.specs.Rows.{RefusedAt}
use Rattle.meaning_split_laws.specs.After.{bodies_kept, shells-kept}
use Rattle.meaning_split_laws.specs.Kept.{split-keeps}
use Rattle.meaning_split_laws.specs.Refusals.{one-row}
use Rattle.meaning_split_laws.specs.Statements.{stays-well-formed, accepted-split-leaves-others, wire-edge-follows}
use Rattle.meaning_split_laws.proofs.Statements.{accepted-split-adds-one, gives-back-any}
use Rattle.split_effect.proofs.Statements.{split-model}
use Rattle.split_sequences.specs.Sequence.{calls_words, calls_reals}
use Rattle.split_sequences.specs.CallRows.{call_rows}
use Rattle.split_sequences.specs.Walked.{walks_same}
use Rattle.split_sequences.specs.Answered.{call-accepted, call-value, walks-trans, more_same}

-- the words w and the floats x are readable, and hold a well-formed model
pub record Sound (room w : List ℕ) (x : List Float) : Type 0 where
  pub readable : readable room w x ≡ true
  pub formed : WellFormed (limits room) (decode room w x)

module _ (room w : List ℕ) (x : List Float) (l : List Cut) (s : Sound room w x) where
  abbrev before : Model
  before = decode room w x

  abbrev behind : Model
  behind = decode room (calls_words room w x l) (calls_reals room w x l)

  pub after-formed : WellFormed (limits room) (after_all (limits room) before l)
  after-formed = stays-well-formed (limits room) before l s.formed

  pub still-there : (b : ℕ) → b < before.bodies.used → b < (after_all (limits room) before l).bodies.used
  still-there b hb = rw (gives-back-any (limits room) before l).bodies hb

-- an accepted call
module _ (room w : List ℕ) (x : List Float) (e : ℕ) (t : Float) (s : Sound room w x) (r : EdgeSplit) (a : split_answer room w x e t ≡ Is r) where
  abbrev m : Model
  m = decode room w x

  abbrev after : Model
  after = decode room (split_words room w x e t) (split_reals room w x e t)

  accepted : split_line_edge (limits room) m e t ≡ given (record { original_edge = e; new_edge = m.edges.used; vertex = m.vertices.used })
  accepted = rw (call-accepted room w x e t r a s.readable)

  same_after : SameModel after (model_after (limits room) m e t)
  same_after = (split-model room w x e t s.readable).model

  -- 5. "A new wire edge stands after the old one": the edge that the call answers
  pub new-wire-edge-follows : (i : ℕ) → i < (decode room w x).shells.used → (k l : List ℕ) → (shell (decode room w x) i).wire_edges ≡ k ++ (e ∷ l)
      → (shell (decode room (split_words room w x e t) (split_reals room w x e t)) i).wire_edges ≡ k ++ (e ∷ r.new_edge ∷ l)
  unfolding decode
  new-wire-edge-follows i h k l q =
      let still : i < (model_after (limits room) m e t).shells.used = rw (shells-kept (limits room) m e t) h in
      ap (λ (v : Shell). v.wire_edges) (same_after.shells.slots i (rw same_after.shells.used still))
      ∙ wire-edge-follows (limits room) m e t _ s.formed accepted i h k l q
      ∙ ap (λ (v : EdgeSplit). k ++ (e ∷ v.new_edge ∷ l)) (call-value room w x e t r a)

  -- 6. "An accepted split gives each body that has the edge exactly one more edge and vertex", those that the call answers, and leaves the walks of every other body
  module _ (b : ℕ) (hb : b < (decode room w x).bodies.used) where
    walks-after : SameWalks (model_after (limits room) m e t) after b
    walks-after =
        walks_same after (model_after (limits room) m e t) same_after b (limits room) (split-keeps (limits room) m e t s.formed)
        (rw (bodies_kept (limits room) m e t) hb)

    pub accepted-call-adds-one : has_edge (decode room w x) b e ≡ true
        → OneMore (decode room w x) (decode room (split_words room w x e t) (split_reals room w x e t)) b r.new_edge r.vertex
    unfolding decode
    accepted-call-adds-one q =
        subst (λ (v : EdgeSplit). OneMore m after b v.new_edge v.vertex) (call-value room w x e t r a)
        (more_same m (model_after (limits room) m e t) after b (word w EDGES) (word w VERTICES) (accepted-split-adds-one (limits room) m e t _ s.formed accepted b hb q) walks-after)

    pub accepted-call-leaves-others : has_edge (decode room w x) b e ≡ false → SameWalks (decode room w x) (decode room (split_words room w x e t) (split_reals room w x e t)) b
    accepted-call-leaves-others q =
        walks-trans m (model_after (limits room) m e t) after b (accepted-split-leaves-others (limits room) m e t _ s.formed accepted b hb q) walks-after

-- 7. "Each refusal comes exactly where its row in 01 says", 9 included, in any memory: a call is refused with n exactly if, at some row, the rows before it pass
-- and its condition for n holds; that row is one; and a call is accepted exactly if all rows pass (`call_rows`: CallRows.antt)
module _ (room w : List ℕ) (x : List Float) (e : ℕ) (t : Float) where
  pub call-refused-at-one-row : (j k n i : ℕ) → RefusedAt (call_rows room w x e t) j n → RefusedAt (call_rows room w x e t) k i → j ≡ k
  call-refused-at-one-row = one-row (call_rows room w x e t)
