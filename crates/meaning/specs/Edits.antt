-- Inserting and editing (model.rs, `RawEditor`; 01, "Refusal numbers"). Definitions only.
-- Which record, list and place a call names is said with that call; here stand the order of its refusals and what it leaves.
use Rattle.std.specs.Prelude.{ℕ, Bool, true, cond, ◌&&◌, List, [], ◌∷◌, ◌++◌, eqb, ltb, Float}
use Rattle.std.specs.Float.Ieee.{lt, le}
use Rattle.std.specs.Float.Ieee.Scale.{finite}
use Rattle.interval_arithmetic.specs.Ops.{zero_f}
use Rattle.geom_lines_planes.specs.declared.tolerance.Tolerance.{Tolerance}
use Rattle.geom_lines_planes.specs.declared.tolerance.Tolerance.TheVariants.{Own, Session}
use Rattle.geom_lines_planes.specs.Refuse.{◌unless◌, ◌then◌}
use Rattle.meaning.specs.Model.{Table, extended, changed}

-- 1: "an inserted tolerance or precision not finite or negative, or a zero precision"
abbrev pub tolerance_ok : Tolerance → Bool
tolerance_ok (Own t) = finite t && le zero_f t
tolerance_ok Session = true

abbrev pub precision_ok : Float → Bool
precision_ok p = finite p && lt zero_f p

-- "Inserts check no reference and give 1 before 8": what is inserted is ok, and the table has a slot
abbrev pub insert_refusal : {A : Type 0} → Bool → Table A → ℕ → ℕ
insert_refusal ok t capacity = 1 unless ok then 8 unless ltb t.used capacity

-- "Edits and appended entries give 1, then 2 (edited record missing), 1 for a list place that isn't there, then 8"
abbrev pub edit_refusal : Bool → Bool → Bool → Bool → ℕ
edit_refusal ok there place room = 1 unless ok then 2 unless there then 1 unless place then 8 unless room

-- the table with one record more; with the record i changed; a list with one entry more
abbrev pub inserted : {A : Type 0} → Table A → A → Table A
inserted t r = extended t 1 (λ k. r)

abbrev pub edited : {A : Type 0} → Table A → ℕ → (A → A) → Table A
edited t i f = changed t (λ j r. cond (eqb j i) (f r) r)

abbrev pub appended : List ℕ → ℕ → List ℕ
appended l x = l ++ (x ∷ [])
