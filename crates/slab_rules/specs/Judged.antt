-- A verdict as the code holds it. No reader of a public promise needs this file. Definitions only.
use Rattle.std.specs.Prelude.{ℕ, zero, suc, ◌-◌, ◌≡◌, cond, [], ◌∷◌, eqb}
use Rattle.meaning_slabs.specs.Slabs as Slabs
use Rattle.meaning_slabs.specs.Slabs.{accepted, broken, judged}
use Rattle.slab_rules.specs.declared.Verdict.{Verdict}

-- one rule more
unfoldable pub judged_by : Verdict → ℕ → ℕ → Verdict
judged_by v rule n =
    cond (eqb v.rule 0)
    (cond (eqb n 0) (record { rule = 0; entity = v.entity }) (record { rule = rule; entity = n - 1 }))
    (record { rule = v.rule; entity = v.entity })

-- a verdict of the definitions
abbrev pub named : ℕ → ℕ → Slabs.Verdict
named zero entity = accepted
named (suc k) entity = broken (suc k) entity

abbrev pub verdict_of : Verdict → Slabs.Verdict
verdict_of v = named v.rule v.entity

-- it is that of the rules' six numbers
pub record Judged (v : Verdict) (one two three four five six : ℕ) : Type 0 where
  pub is : verdict_of v ≡ judged 1 (one ∷ two ∷ three ∷ four ∷ five ∷ six ∷ [])
