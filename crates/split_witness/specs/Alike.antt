-- Two tables whose records, listed, are the same: `same-table`. Assumes nothing.
use Rattle.std.specs.Prelude.{ℕ, ◌≡◌, Bool, ◌||◌}
use Rattle.std.proofs.Common.{arith, eqb-true}
use Rattle.std.proofs.Math.Path.{refl}
use Rattle.std.proofs.Math.Bool.{true, false}
use Rattle.std.proofs.lemmas.Bool.{false≢true}
use mathlib.Core.List.{List, [], ◌∷◌, map}
use Rattle.std.proofs.Math.Dec.{eqb}
use Rattle.meaning.specs.Lists.{run, member}
use Rattle.meaning.specs.Model.{Table}
use Rattle.meaning_list_laws.specs.Lists.{count-run-in, member-counted}
use Rattle.memory_writes.specs.Change.{SameTable}

module _ {A : Type 0} where
  same_at : (f g : ℕ → A) (l : List ℕ) (i : ℕ) → map f l ≡ map g l → member i l ≡ true → f i ≡ g i
  unfolding member
  same_at f g [] i q h = absurd (false≢true h)
  same_at f g (j ∷ l) i q h = go (eqb i j) refl h (same_at f g l i (cc))
    where
      go : (b : Bool) → eqb i j ≡ b → (b || member i l) ≡ true → (member i l ≡ true → f i ≡ g i) → f i ≡ g i
      go true e h r = let head : f j ≡ g j = cc in rw (eqb-true i j e) head
      go false e h r = r h

  pub same-table : (t u : Table A) → t.used ≡ u.used → map t.slot (run 0 t.used) ≡ map u.slot (run 0 t.used) → SameTable t u
  same-table t u e q =
      record {
        used = e;
        slots = λ i h. same_at t.slot u.slot (run 0 t.used) i q
            (member-counted i (run 0 t.used) (omega (arith, count-run-in 0 t.used i (omega arith) (omega arith))));
      }
