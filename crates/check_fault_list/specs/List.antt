-- What is put into a lent list of faults. Definitions only.
use Rattle.std.specs.Prelude.{ℕ, zero, suc, ◌+◌, ◌*◌, List, get_or, set}
use Rattle.check_fault_list.specs.declared.Fault.{Fault}

-- what lies past the end of a list
abbrev pub no_fault : Fault
no_fault = record { kind = 0; class = 0; id = 0; reason = 0 }

abbrev pub at : List Fault → ℕ → Fault
at l i = get_or l i no_fault

-- fault k of a list of plain numbers, four to a fault
abbrev pub told : List ℕ → ℕ → Fault
told ns k = record { kind = get_or ns (k * 4) 0; class = get_or ns (k * 4 + 1) 0; id = get_or ns (k * 4 + 2) 0; reason = get_or ns (k * 4 + 3) 0 }

-- the list with its first k entries told by the numbers, and the others as they were
abbrev pub written : List Fault → List ℕ → ℕ → List Fault
written l ns zero = l
written l ns (suc k) = set (written l ns k) k (told ns k)
