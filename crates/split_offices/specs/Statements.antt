-- What stays true of the lent memory behind calls of `split_line_edge` by both offices ("Demand 3 holds for splits by both offices in any order"), for any room, words, floats and list of calls,
-- accepted or refused: the statements of `split_sequences`, in its order and words. Assumes nothing.
use Rattle.std.specs.Prelude.{ℕ, suc, ◌<◌, ◌↔◌, ◌≡◌, refl, Bool, true, false, List, [], ◌∷◌, ◌++◌, leb, get_or, Float}
use Rattle.std.proofs.Common.{sym, ◌∙◌}
use Rattle.meaning.specs.Model.{Model, shell}
use Rattle.meaning.specs.Split.{test1, Cut}
use Rattle.meaning.specs.Formed.{has_edge}
use Rattle.meaning.specs.Offices.{foreign, edge_for, office_model_after, OfficeCut}
use Rattle.memory_layout.specs.Decode.{decode}
use Rattle.memory_layout.specs.Readable.{readable}
use Rattle.memory_layout.specs.Limits.{limits}
use Rattle.split_place.specs.SplitNumber.{office_split_number}
use Rattle.station_answers.specs.declared.EdgeSplit.{EdgeSplit}
use Rattle.station_answers.specs.declared.Split.TheVariants.{Is, Refused}
use Rattle.split_edge.specs.After.{split_answer, split_words, split_reals, office_split_answer, office_split_words, office_split_reals}
use Rattle.split_edge.specs.Rooms.{office-accepted}
use Rattle.meaning_split_laws.specs.Terms.{OneMore, SameWalks}
use Rattle.meaning_split_laws.specs.Rows.{Passes, RefusedAt}
use Rattle.meaning_split_laws.specs.Refusals.{one-row}
use Rattle.meaning_office_laws.specs.Passed.{passed-after, above-after, own-edge, foreign-in, none_has}
use Rattle.meaning_office_laws.proofs.Refused.{other-refused}
use Rattle.split_effect.specs.Statements.{HoldsModel, same-model}
use Rattle.split_effect.proofs.Statements.{split-model}
use Rattle.split_sequences.specs.Answered.{number-given, number-refused}
use Rattle.split_sequences.specs.Statements as Calls
use Rattle.split_sequences.specs.Statements.{Sound}
use Rattle.split_offices.specs.Calls.{heard, office_call_rows}
use Rattle.split_offices.specs.Heard.{heard-words, heard-reals, above-number, above-refused, refused-left}
use Rattle.split_offices.specs.Refused.{number_read, refused-there, there-refused, accepted-there, there-accepted}

-- one call leaves a readable memory that holds the model that `meaning` says, accepted or refused, whatever was in it
pub call-model : (room w : List ℕ) (x : List Float) (o e : ℕ) (t : Float) → readable room w x ≡ true
    → HoldsModel room (office_split_words room w x o e t) (office_split_reals room w x o e t) (office_model_after (limits room) (decode room w x) o e t)
call-model room w x o e t r = by (leb o 1) refl
  where
    by : (b : Bool) → leb o 1 ≡ b → HoldsModel room (office_split_words room w x o e t) (office_split_reals room w x o e t) (office_model_after (limits room) (decode room w x) o e t)
    by true h =
        rw (heard-words room w x o e t h, heard-reals room w x o e t h, passed-after (limits room) (decode room w x) o e t h)
        (split-model room w x (edge_for (decode room w x) o e) t r)
    by false h =
        let k = above-refused room w x o e t h in
        let s = refused-left room w x o e t k.0 k.1 in
        rw (s.0, s.1, above-after (limits room) (decode room w x) o e t h) (record { readable = r; model = same-model (decode room w x) })

module _ (room w : List ℕ) (x : List Float) (l : List OfficeCut) where
  module _ (s : Sound room w x) where
    abbrev without : List Cut
    without = heard room w x l

-- an accepted call
module _ (room w : List ℕ) (x : List Float) (o e : ℕ) (t : Float) (s : Sound room w x) (r : EdgeSplit) (a : office_split_answer room w x o e t ≡ Is r) where
  abbrev m : Model
  m = decode room w x

  number : office_split_number room w x o e t ≡ 0
  unfolding office_split_answer
  number = number-given (office_split_number room w x o e t) _ r a

  -- is the call without offices of the same edge
  pub call-as-without-offices : (split_answer room w x e t ≡ Is r) × (office_split_words room w x o e t ≡ split_words room w x e t) × (office_split_reals room w x o e t ≡ split_reals room w x e t)
  unfolding office_split_answer split_answer office_split_words split_words office_split_reals split_reals
  call-as-without-offices = let z = (office-accepted room w x o e t number).1 in (rw z (rw number at a), rw (z, number), rw (z, number))

  -- 5. "A new wire edge stands after the old one": the edge that the call answers
  pub new-wire-edge-follows : (i : ℕ) → i < (decode room w x).shells.used → (k l : List ℕ) → (shell (decode room w x) i).wire_edges ≡ k ++ (e ∷ l)
      → (shell (decode room (office_split_words room w x o e t) (office_split_reals room w x o e t)) i).wire_edges ≡ k ++ (e ∷ r.new_edge ∷ l)
  new-wire-edge-follows = let h = call-as-without-offices in rw (h.1, h.2) (Calls.new-wire-edge-follows room w x e t s r h.0)

  -- 6. "An accepted split gives each body that has the edge exactly one more edge and vertex", those that the call answers, and leaves the walks of every other body
  module _ (b : ℕ) (hb : b < (decode room w x).bodies.used) where
    pub accepted-call-adds-one : has_edge (decode room w x) b e ≡ true
        → OneMore (decode room w x) (decode room (office_split_words room w x o e t) (office_split_reals room w x o e t)) b r.new_edge r.vertex
    accepted-call-adds-one = let h = call-as-without-offices in rw (h.1, h.2) (Calls.accepted-call-adds-one room w x e t s r h.0 b hb)

    pub accepted-call-leaves-others : has_edge (decode room w x) b e ≡ false
        → SameWalks (decode room w x) (decode room (office_split_words room w x o e t) (office_split_reals room w x o e t)) b
    accepted-call-leaves-others = let h = call-as-without-offices in rw (h.1, h.2) (Calls.accepted-call-leaves-others room w x e t s r h.0 b hb)

    -- and so of all bodies of the other office
    pub accepted-call-leaves-the-other-office : foreign (decode room w x) o b ≡ true
        → SameWalks (decode room w x) (decode room (office_split_words room w x o e t) (office_split_reals room w x o e t)) b
    accepted-call-leaves-the-other-office f =
        accepted-call-leaves-others (none_has m o e (own-edge (limits room) m o e t (sym (number_read room w x o e t s.readable) ∙ number)).0 b f)

-- 7. "Each refusal comes exactly where its row in 01 says", 9 and the office's included, in any memory: a call is refused with n exactly if, at some row, the rows before it pass
-- and its condition for n holds; that row is one; and a call is accepted exactly if all rows pass (`office_call_rows`: Calls.antt)
module _ (room w : List ℕ) (x : List Float) (o e : ℕ) (t : Float) where
  pub call-refused-by-row : (n : ℕ) → (office_split_answer room w x o e t ≡ Refused (suc n)) ↔ ((k : ℕ) × RefusedAt (office_call_rows room w x o e t) k (suc n))
  unfolding office_split_answer
  call-refused-by-row n =
      (λ q. refused-there room w x o e t n (number-refused (office_split_number room w x o e t) _ (suc n) q), λ f. rw (there-refused room w x o e t f.0 n f.1))

  pub call-refused-at-one-row : (j k n i : ℕ) → RefusedAt (office_call_rows room w x o e t) j n → RefusedAt (office_call_rows room w x o e t) k i → j ≡ k
  call-refused-at-one-row = one-row (office_call_rows room w x o e t)

  pub call-accepted-by-rows : (office_split_answer room w x o e t
      ≡ Is (record { original_edge = e; new_edge = (decode room w x).edges.used; vertex = (decode room w x).vertices.used }))
      ↔ ((k : ℕ) → Passes (get_or (office_call_rows room w x o e t) k []))
  unfolding office_split_answer decode
  call-accepted-by-rows =
      (λ q. accepted-there room w x o e t (number-given (office_split_number room w x o e t) _ _ q), λ p. rw (there-accepted room w x o e t p))

  -- 8. a refused call leaves every word and float as it was
  pub refused-call-changes-nothing : (n : ℕ) → office_split_answer room w x o e t ≡ Refused (suc n) → (office_split_words room w x o e t ≡ w) × (office_split_reals room w x o e t ≡ x)
  unfolding office_split_answer
  refused-call-changes-nothing n q = refused-left room w x o e t n (number-refused (office_split_number room w x o e t) _ (suc n) q)

  -- ---- "1 for an office above 1, right after 9"
  pub office-above-refused : readable room w x ≡ true → leb o 1 ≡ false → office_split_answer room w x o e t ≡ Refused 1
  unfolding office_split_answer
  office-above-refused r h = rw (above-number room w x o e t h, r)

  -- "and is refused if the edge is in a walk of the other office's bodies", with 2 "in the place of a missing one": behind test 1
  pub foreign-edge-refused : readable room w x ≡ true → leb o 1 ≡ true → test1 t ≡ 0 → (c : ℕ) → foreign (decode room w x) o c ≡ true → has_edge (decode room w x) c e ≡ true
      → office_split_answer room w x o e t ≡ Refused 2
  unfolding office_split_answer
  foreign-edge-refused r h f c g q =
      rw (number_read room w x o e t r, other-refused (limits room) (decode room w x) o e t h f (foreign-in (decode room w x) o e c g q))
