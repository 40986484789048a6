-- The findings of the checker as they are logged: words of the faults, four to a fault, in a lent list, and a tally. Definitions only.
use Rattle.std.specs.Prelude.{ℕ, zero, suc, ◌+◌, ◌*◌, ◌≤◌, ◌≡◌, Bool, not, cond, ◌&&◌, List, [], ◌∷◌, ◌++◌, eqb, leb, length}
use Rattle.std.proofs.Math.Option.{Option, none, some}
use Rattle.std.proofs.lemmas.List.Edits.{sets}
use Rattle.meaning.specs.Faults.{Class, of_body, of_region, of_shell, of_face, of_loop, of_fin, of_edge, of_vertex, reason_row, Fault, Finding, found, skipped}
use Rattle.meaning.specs.Faults as Faults
use Rattle.check_reasons.specs.declared.Reason.{Reason}
use Rattle.check_reasons.specs.declared.Tally.{Tally}

-- a class by its table, and back
abbrev pub class_number : Class → ℕ
class_number of_body = 0
class_number of_region = 1
class_number of_shell = 2
class_number of_face = 3
class_number of_loop = 4
class_number of_fin = 5
class_number of_edge = 6
class_number of_vertex = 7

abbrev pub class_at : ℕ → Class
class_at zero = of_body
class_at (suc zero) = of_region
class_at (suc (suc zero)) = of_shell
class_at (suc (suc (suc zero))) = of_face
class_at (suc (suc (suc (suc zero)))) = of_loop
class_at (suc (suc (suc (suc (suc zero))))) = of_fin
class_at (suc (suc (suc (suc (suc (suc zero)))))) = of_edge
class_at (suc (suc (suc (suc (suc (suc (suc n))))))) = of_vertex

-- the class of a reason: 8 where it is that of what was asked about
abbrev pub class_word : Option Class → ℕ
class_word none = 8
class_word (some c) = class_number c

-- a row of the reasons' table in numbers, and that of reason n
abbrev pub in_numbers : Faults.Reason → Reason
in_numbers r = record { kind = r.kind; class = class_word r.class }

abbrev pub row_of : ℕ → Reason
row_of n = in_numbers (reason_row n)

-- "A fault is kind, entity class, id, reason"
abbrev pub fault_words : Fault → List ℕ
fault_words f = f.kind ∷ class_number f.class ∷ f.id ∷ f.reason ∷ []

unfoldable pub faults_words : List Fault → List ℕ
faults_words [] = []
faults_words (f ∷ l) = fault_words f ++ faults_words l

-- W-207, "a question that stops there": where the first fault is all that is asked for, the checks not made are counted from FIRST
abbrev pub FIRST : ℕ
FIRST = 2305843009213693952

-- it was found
abbrev pub stopped : ℕ → ℕ → Bool
stopped faults unchecked = leb FIRST unchecked && not (eqb faults 0)

abbrev pub over : Tally → Bool
over t = stopped t.faults t.unchecked

-- the lent words, and the tally
pub record Log : Type 0 where
  pub list : List ℕ
  pub tally : Tally

abbrev pub log_of : List ℕ → Tally → Log
log_of d t = record { list = d; tally = t }

-- one finding more: a fault's words stand behind those of the faults before, as far as the list goes
abbrev pub more : Log → Finding → Log
more g (found f) =
    record {
      list = sets g.list (4 * g.tally.faults) (fault_words f);
      tally = record { faults = suc g.tally.faults; unchecked = g.tally.unchecked };
    }
more g skipped = record { list = g.list; tally = record { faults = g.tally.faults; unchecked = suc g.tally.unchecked } }

unfoldable pub noted : Log → Finding → Log
noted g x = cond (over g.tally) g (more g x)

unfoldable pub logged : Log → List Finding → Log
logged g [] = g
logged g (x ∷ l) = logged (noted g x) l

-- the findings l were logged, from one state to the next
pub record Noted (l : List Finding) (d₀ : List ℕ) (t₀ : Tally) (d : List ℕ) (t : Tally) : Type 0 where
  pub log : log_of d t ≡ logged (log_of d₀ t₀) l
  pub long : length d ≡ length d₀

-- there are numbers for the findings l
pub record Enough (t : Tally) (l : List Finding) : Type 0 where
  pub faults : t.faults + length l ≤ 1152921504606846976
  pub unchecked : t.unchecked + length l ≤ 3458764513820540928
