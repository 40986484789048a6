-- What a promise says of lent memory, in short. Definitions only.
use Rattle.std.specs.Prelude.{ℕ, ◌≡◌, List, [], ◌∷◌, Float}
use Rattle.std.specs.Borrow.{Bor}
use denote.Triple.Both.{Both}
use Rattle.meaning.specs.Model.{Model}
use Rattle.memory_layout.specs.Decode.{decode}

-- what stood behind a reference at entry, `now x.entry`
abbrev pub was : {X E : Type 0} → Both (Bor X) E → X
was x = x.entry.now

-- a definition over room, words and reals, of what stood there at entry: `lent readable room words reals`
abbrev pub lent : {A P Q R : Type 0} → (List ℕ → List ℕ → List Float → A) → Both (Bor (List ℕ)) P → Both (Bor (List ℕ)) Q → Both (Bor (List Float)) R → A
lent f room words reals = f (was room) (was words) (was reals)

-- the model that the lent memory held at entry
abbrev pub held : {P Q R : Type 0} → Both (Bor (List ℕ)) P → Both (Bor (List ℕ)) Q → Both (Bor (List Float)) R → Model
held = lent decode

-- a value that fills its slots alone
abbrev pub alone : {A : Type 0} → A → List A
alone v = v ∷ []

-- an answer a that is an enum, crossed to C: of a value r is 0 and the slots, which held old, hold the value; of a refusal r is its number and they hold old
pub record Crosses {B A S : Type 0} (is : B → A) (refused : ℕ → A) (value : B → S) (a : A) (r : ℕ) (old new : S) : Type 0 where
  pub of-value : (b : B) → a ≡ is b → (r ≡ 0) × (new ≡ value b)
  pub of-refusal : (n : ℕ) → a ≡ refused n → (r ≡ n) × (new ≡ old)
