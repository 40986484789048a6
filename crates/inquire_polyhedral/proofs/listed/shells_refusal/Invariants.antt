-- `inquire_polyhedral::listed::shells_refusal` meets its contract: a turn of the loop is one shell more. Assumes nothing.
use Rattle.std.specs.Prelude.{◌≡◌}
use Rattle.std.proofs.Common.{take}
use Rattle.meaning.specs.Refuse.{first_of}
use Rattle.inquire_polyhedral.specs.Tested.{shell_tested}
use Rattle.inquire_polyhedral.proofs.listed.shells_refusal.Given as goal

abbrev pub invariant-loop-shell : goal.invariant-loop-shell
invariant-loop-shell l = l.n ≡ first_of (shell_tested l.room l.words l.reals l.test) (take l.shell-index l.shells)
