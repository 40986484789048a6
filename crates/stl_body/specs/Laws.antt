-- What is asked of every entry of a list, and that no two of a list are the same. Definitions only.
use Prim.Native.Nat.{ℕ, ◌<◌}
use Rattle.std.specs.Prelude.{◌≡◌, Bool, ◌&&◌, get_or}
use Rattle.std.proofs.Math.Bool.{true, false}
use mathlib.Core.List.{List, [], ◌∷◌}
use Rattle.std.proofs.Math.ListN.{length}

-- p holds of every entry
unfoldable pub holds : {A : Type 0} → (A → Bool) → List A → Bool
holds p [] = true
holds p (a ∷ l) = p a && holds p l

module _ {A : Type 0} (same : A → A → Bool) where
  -- no entry is the same as one before it
  pub record Apart (d : A) (l : List A) : Type 0 where
    pub apart : (i j : ℕ) → i < j → j < length l → same (get_or l j d) (get_or l i d) ≡ false
