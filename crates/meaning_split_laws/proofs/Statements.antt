-- The statements of specs/Statements.antt that rest on theorems of proofs/ (`gives-back-any`, the rows, the Euler number). Assumes nothing.
use Rattle.std.specs.Prelude.{ℕ, suc, ◌<◌, ◌↔◌, ◌≡◌, true, List, [], get_or, Float}
use Rattle.meaning.specs.Model.{Model, Limits}
use Rattle.meaning.specs.Refuse.{refused, given}
use Rattle.meaning.specs.Split.{split_refusal, EdgeSplit, split_line_edge, model_after, Cut, after_all}
use Rattle.meaning.specs.Formed.{WellFormed, has_edge}
use Rattle.meaning_split_laws.specs.Terms.{struck_from, itself, split_edges, Restored, OneMore, euler_number}
use Rattle.meaning_split_laws.specs.Rows.{split_rows, Passes, RefusedAt}
use Rattle.meaning_split_laws.specs.Refusals.{one-row, answered-given}
use Rattle.meaning_split_laws.proofs.Refusals.{refused-where, accepted-where, accepted-only, row-of-answer}
use Rattle.meaning_split_laws.specs.Struck.{restored-whole}
use Rattle.meaning_split_laws.proofs.Struck.{splits-restore}
use Rattle.meaning_split_laws.proofs.Gained.{split-adds-one, euler-kept}

pub accepted-split-adds-one : (x : Limits) (m : Model) (e : ℕ) (t : Float) (s : EdgeSplit)
    → WellFormed x m → split_line_edge x m e t ≡ given s → (b : ℕ) → b < m.bodies.used
    → has_edge m b e ≡ true → OneMore m (model_after x m e t) b s.new_edge s.vertex
accepted-split-adds-one = split-adds-one

-- "so vertices minus edges plus faces never changes"
pub euler-number-stays : (x : Limits) (m : Model) (l : List Cut) → WellFormed x m → (b : ℕ) → b < m.bodies.used
    → euler_number (after_all x m l) b ≡ euler_number m b
euler-number-stays = euler-kept

-- 4. "Striking out what was added gives back every stored list in its starting order", and every other field of every old record is as it was but for
-- the end of a split edge (`Restored`: Terms.antt). From any model: a starting list may have ids of no record, which are struck out of it too
pub gives_back : (x : Limits) (m : Model) (l : List Cut) → WellFormed x m → Restored m (after_all x m l) (split_edges x m l) itself
gives_back x m l w = restored-whole m (after_all x m l) (split_edges x m l) w.ids (splits-restore x m l)

pub gives-back-any : (x : Limits) (m : Model) (l : List Cut) → Restored m (after_all x m l) (split_edges x m l) struck_from
gives-back-any = splits-restore

-- 5. "Each refusal comes exactly where its row in 01 says": the number is n exactly if, at some row, the rows before it pass and its condition for n
-- holds (`RefusedAt`, over 01's rows: Rows.antt); that row is one; and a split is accepted exactly if all rows pass
pub refused-by-row : (x : Limits) (m : Model) (e : ℕ) (t : Float) (n : ℕ)
    → (split_line_edge x m e t ≡ refused (suc n)) ↔ ((k : ℕ) × RefusedAt (split_rows x m e t) k (suc n))
refused-by-row x m e t n = (row-of-answer x m e t (suc n), λ r. rw (refused-where x m e t r.0 n r.1))

pub refused-at-one-row : (x : Limits) (m : Model) (e : ℕ) (t : Float) (j k n i : ℕ)
    → RefusedAt (split_rows x m e t) j n → RefusedAt (split_rows x m e t) k i → j ≡ k
refused-at-one-row x m e t = one-row (split_rows x m e t)

pub accepted-by-rows : (x : Limits) (m : Model) (e : ℕ) (t : Float)
    → (split_line_edge x m e t ≡ given (record { original_edge = e; new_edge = m.edges.used; vertex = m.vertices.used }))
    ↔ ((k : ℕ) → Passes (get_or (split_rows x m e t) k []))
accepted-by-rows x m e t = (λ h. accepted-only x m e t (answered-given (split_refusal x m e t) _ _ h), λ p. rw (accepted-where x m e t p))
