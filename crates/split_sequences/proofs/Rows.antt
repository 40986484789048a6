-- The theorems of specs/Statements.antt that rest on accepted-there, refused-there, there-accepted and there-refused of specs/Refused.antt. Assumes nothing.
use Rattle.std.specs.Prelude.{ℕ, suc, ◌↔◌, ◌≡◌, List, [], get_or, Float}
use Rattle.memory_layout.specs.Decode.{decode}
use Rattle.split_place.specs.SplitNumber.{split_number}
use Rattle.station_answers.specs.declared.Split.TheVariants.{Is, Refused}
use Rattle.split_edge.specs.After.{split_answer}
use Rattle.meaning_split_laws.specs.Rows.{Passes, RefusedAt}
use Rattle.split_sequences.specs.CallRows.{call_rows}
use Rattle.split_sequences.specs.Refused.{refused-there, there-refused, accepted-there, there-accepted}
use Rattle.split_sequences.specs.Answered.{number-given, number-refused}

-- 7. "Each refusal comes exactly where its row in 01 says", 9 included, in any memory: a call is refused with n exactly if, at some row, the rows before it pass
-- and its condition for n holds; that row is one; and a call is accepted exactly if all rows pass (`call_rows`: CallRows.antt)
module _ (room w : List ℕ) (x : List Float) (e : ℕ) (t : Float) where
  pub call-refused-by-row : (n : ℕ) → (split_answer room w x e t ≡ Refused (suc n)) ↔ ((k : ℕ) × RefusedAt (call_rows room w x e t) k (suc n))
  unfolding split_answer
  call-refused-by-row n =
      (λ q. refused-there room w x e t n (number-refused (split_number room w x e t) _ (suc n) q), λ f. rw (there-refused room w x e t f.0 n f.1))

  pub call-accepted-by-rows : (split_answer room w x e t
      ≡ Is (record { original_edge = e; new_edge = (decode room w x).edges.used; vertex = (decode room w x).vertices.used }))
      ↔ ((k : ℕ) → Passes (get_or (call_rows room w x e t) k []))
  unfolding split_answer decode
  call-accepted-by-rows =
      (λ q. accepted-there room w x e t (number-given (split_number room w x e t) _ _ q), λ p. rw (there-accepted room w x e t p))
