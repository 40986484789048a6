-- `inquire_fin_starts::starts_refusal` meets its contract: a turn of the loop is one fin more. Assumes nothing.
use Rattle.std.specs.Prelude.{◌≡◌}
use Rattle.std.proofs.Common.{take}
use Rattle.meaning.specs.Refuse.{first_of}
use Rattle.inquire_fin_starts.specs.Starts.{start_number}
use Rattle.inquire_fin_starts.proofs.starts_refusal.Given as goal

abbrev pub invariant-loop-fin : goal.invariant-loop-fin
invariant-loop-fin l = l.n ≡ first_of (start_number l.room l.words) (take l.fin-index l.fins)
