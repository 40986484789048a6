-- "8 for capacity, an edge's ninth fin included", as facts about the lent memory; and what the laying asks, of a mesh in flat lists. Assumes nothing.
use Prim.Native.Nat.{ℕ, zero, suc, ◌+◌, ◌*◌, ◌≤◌, ◌<◌}
use Rattle.std.proofs.Common.{arith, sym, ap, ◌∙◌, get_or-take}
use Rattle.std.specs.Prelude.{◌≡◌, true, List, [], ◌∷◌, length, get_or, Float}
use Rattle.std.proofs.Math.Dec.{leb}
use borrow.Author.Tests.{leb-true}
use Rattle.meaning.specs.Lists.{count}
use Rattle.meaning_list_laws.specs.Tests.{every-at, all_below-at}
use Rattle.memory_layout.specs.Layout.{word}
use Rattle.memory_layout.specs.Decode.{decode}
use Rattle.memory_layout.specs.Fit.{Fit}
use Rattle.memory_layout.specs.Laws.{capacity-le}
use Rattle.memory_layout.specs.Limits.{limits}
use Rattle.stl_body.specs.Read.{Step, step, Mesh, fins_on, room_tests, has_room}
use Rattle.stl_body.proofs.Laws.{fins-length}
use Rattle.stl_body.specs.Meshes.{ends_below, Ranged}
use Rattle.stl_body.proofs.Meshes.{ends-both}
use Rattle.stl_body.specs.Flat.{flat_steps, Held}
use Rattle.stl_rows.specs.Rows.{new_counts}
use Rattle.stl_rows.specs.Facts.{Space, FloatSpace, Ready, Flattened}
use Rattle.stl_rows.specs.Laws.{space}

-- the ends of edges that are all below n, in a flat list
ends-below : (n : ℕ) (l : List Step) → ((k : ℕ) → k < length l → ends_below n (get_or l k (step 0 0)) ≡ true) → (i : ℕ) → i < 2 * length l → word (flat_steps l) i < n
unfolding flat_steps
ends-below n [] h i g = absurd (omega arith)
ends-below n (s ∷ l) h zero g = (ends-both n s (h 0 (omega arith))).0
ends-below n (s ∷ l) h (suc zero) g = (ends-both n s (h 0 (omega arith))).1
ends-below n (s ∷ l) h (suc (suc i)) g = ends-below n l (λ k b. h (suc k) (omega arith)) i (omega arith)

module _ (room w : List ℕ) (x : List Float) (t : Mesh) (roomy : has_room (limits room) (decode room w x) t ≡ true) where
  -- "8 for capacity": each table has room
  pub slots : (k : ℕ) → k < 8 → word w k + word (new_counts t) k ≤ word room k
  unfolding has_room decode
  slots zero h = leb-true _ _ (every-at (room_tests (limits room) (decode room w x) t) roomy 0)
  slots (suc zero) h = leb-true _ _ (every-at (room_tests (limits room) (decode room w x) t) roomy 1)
  slots (suc (suc zero)) h = leb-true _ _ (every-at (room_tests (limits room) (decode room w x) t) roomy 2)
  slots (suc (suc (suc zero))) h = leb-true _ _ (every-at (room_tests (limits room) (decode room w x) t) roomy 3)
  slots (suc (suc (suc (suc zero)))) h = leb-true _ _ (every-at (room_tests (limits room) (decode room w x) t) roomy 4)
  slots (suc (suc (suc (suc (suc zero))))) h = leb-true _ _ (every-at (room_tests (limits room) (decode room w x) t) roomy 5)
  slots (suc (suc (suc (suc (suc (suc zero)))))) h = leb-true _ _ (every-at (room_tests (limits room) (decode room w x) t) roomy 6)
  slots (suc (suc (suc (suc (suc (suc (suc zero))))))) h = leb-true _ _ (every-at (room_tests (limits room) (decode room w x) t) roomy 7)
  slots (suc (suc (suc (suc (suc (suc (suc (suc k)))))))) h = absurd (omega arith)

  pub shell-room : t.triangles ≤ 512
  unfolding has_room
  shell-room = leb-true _ _ (every-at (room_tests (limits room) (decode room w x) t) roomy 10)

  -- "an edge's ninth fin included"
  pub eighth : (k u : ℕ) → k < length t.edges → length (fins_on k u t.edge_numbers) ≤ 8
  unfolding has_room
  eighth k u h = rw (fins-length k u t.edge_numbers) (leb-true _ _ (all_below-at (λ e. leb (count e t.edge_numbers) 8) (length t.edges) k (every-at (room_tests (limits room) (decode room w x) t) roomy 13) h))

  module _ (fit : Fit room w x) where
    table-space : (k : ℕ) → k < 8 → Space room w k (word (new_counts t) k)
    table-space k h = space room w k (word (new_counts t) k) fit.sized.small fit.sized.words (omega arith) (slots k h)

    float-space : (k : ℕ) → k < 8 → FloatSpace room x k (word w k) (word (new_counts t) k)
    float-space k h = record { small = fit.sized.small; reals = fit.sized.reals; table = omega arith; slots = slots k h; few = capacity-le room fit.sized.small k (omega arith) }

    -- a table's new records are at most 4,096, so that every sum of ids fits its word
    few : (k : ℕ) → k < 8 → word w k + word (new_counts t) k ≤ 4096
    few k h = let s = table-space k h in omega (arith, s.slots, s.few)

    held-ready : (numbers : List ℕ) (points : List Float) (edges ends : List ℕ) → Ranged t → Held t numbers points edges ends
        → Ready room w x t.triangles (length t.points) (length t.edges) numbers points edges ends
    held-ready numbers points edges ends r f =
        record {
          upper = record {
            bodies = table-space 0 (omega arith);
            regions = table-space 1 (omega arith);
            shells = table-space 2 (omega arith);
            faces = table-space 3 (omega arith);
            loops = table-space 4 (omega arith);
            shell = shell-room;
            fins = let a = few 5 (omega arith) in omega arith;
          };
          lower = record {
            fins = table-space 5 (omega arith);
            edges = table-space 6 (omega arith);
            vertices = table-space 7 (omega arith);
            corners = f.corners-long;
            numbered = record { long = f.edges-long; below = numbered };
            ends = record { long = f.ends-long; below = ended };
            eight = record { eight = λ k u h. rw f.edges (eighth k u h) };
          };
          tolerances = float-space 6 (omega arith);
          places = float-space 7 (omega arith);
          floats = f.points-long;
        }
      where
        numbered : (i : ℕ) → i < 3 * t.triangles → word edges i < 4096
        numbered i h =
            let e : word edges i ≡ get_or t.edge_numbers i 0 = sym (get_or-take (3 * t.triangles) edges i 0 h) ∙ ap (λ l. word l i) f.edges in
            let b = r.fin-edge i h in
            let c = few 6 (omega arith) in
            omega arith

        ended : (i : ℕ) → i < 2 * length t.edges → word ends i < 4096
        ended i h =
            let e : word ends i ≡ word (flat_steps t.edges) i = sym (get_or-take (2 * length t.edges) ends i 0 h) ∙ ap (λ l. word l i) f.ends in
            let b = ends-below (length t.points) t.edges r.ends i h in
            let c = few 7 (omega arith) in
            omega arith

    -- what `lay` asks holds of an accepted mesh in flat lists
    pub ready : (n v e : ℕ) (numbers : List ℕ) (points : List Float) (edges ends : List ℕ) → Ranged t → Flattened t n v e numbers points edges ends → Ready room w x n v e numbers points edges ends
    ready n v e numbers points edges ends r f = rw (f.triangles, f.points, f.edges) (held-ready numbers points edges ends r f.held)
