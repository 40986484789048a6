-- The theorems of specs/PlaceLaws.antt that rest on struck-length. Assumes nothing.
use Prim.Native.Nat.{ℕ, suc, ◌+◌, ◌-◌, ◌<◌}
use Rattle.std.proofs.Common.{add-zero, ◌∙◌, get_or-take}
use native.Mathlib.Omega.{arith}
use Rattle.std.specs.Prelude.{◌≡◌}
use Rattle.std.proofs.Math.Path.{sym, ap}
use mathlib.Core.List.{List, ◌∷◌}
use Rattle.std.proofs.Math.ListN.{length, drop, set}
use Rattle.std.proofs.Math.Seq.{get_or-drop, paste}
use Rattle.memory_layout.specs.Layout.{word}
use Rattle.memory_layout.specs.Decode.{list_at}
use Rattle.memory_layout.specs.Fit.{Held}
use Rattle.memory_writes.specs.Put.{over}
use Rattle.memory_writes.specs.Over.{set-over, over_last}
use Rattle.edit_lists.specs.Place.{struck, with_list}
use Rattle.edit_lists.specs.PlaceLaws.{moved, moved-entries, all_moved, struck-length}

module _ (w : List ℕ) (at : ℕ) (h : Held w at) where
  abbrev n : ℕ
  n = word w at

  abbrev l : List ℕ
  l = list_at w at

  -- the entries behind a place, moved one down one after the other
  module _ (place : ℕ) (g : place < n) where
    abbrev behind : List ℕ
    behind = drop (suc place) l

    last-stands : word w (at + length ((n - 1) ∷ struck l place)) ≡ word l (n - 1)
    unfolding list_at
    last-stands =
        let e = struck-length w at h place g in
        let q : at + suc (length (struck l place)) ≡ suc at + (n - 1) = omega arith in
        ap (word w) q ∙ sym (get_or-drop (suc at) w (n - 1) 0) ∙ sym (get_or-take n (drop (suc at) w) (n - 1) 0 (omega arith))

    pub strike-end : set (moved w at place (n - 1 - place)) at (n - 1) ≡ with_list at (struck l place) w
    unfolding moved with_list
    strike-end =
        let c = moved-entries w at h place g (n - 1 - place) (omega arith) in
        let e = struck-length w at h place g in
        ap (λ (j : ℕ). set (over at (n ∷ paste l place behind (n - 1 - place)) w) j (n - 1)) (sym (add-zero at))
        ∙ set-over at 0 (n ∷ paste l place behind (n - 1 - place)) w (n - 1) (omega arith) (omega (arith, h.whole))
        ∙ ap (λ (r : List ℕ). over at ((n - 1) ∷ r) w) (all_moved w at h place g)
        ∙ over_last at ((n - 1) ∷ struck l place) w (word l (n - 1)) 0 (omega (arith, h.whole)) last-stands
        ∙ ap (λ (k : ℕ). over at (k ∷ struck l place) w) (sym e)
