-- `image_loading::parts::load_lists` meets its contract. Assumes nothing.
use native.Mathlib.Omega.{arith}
use mathlib.Core.Path.{refl}
use Rattle.image_loading.specs.Steps.{behind_lists, lists_over}
use Rattle.image_loading.specs.Laws.{no-places}
use Rattle.image_loading.proofs.parts.load_lists.Goals as goal

pub load_list-requires : goal.load_list-requires
load_list-requires c = let h = rw c.in-0.is at c.requires in h.0

pub load_list-requires-in-1 : goal.load_list-requires-in-1
load_list-requires-in-1 c = let h = rw c.in-1.is at c.requires in h.0

pub load_shell-requires : goal.load_shell-requires
load_shell-requires c = let h = rw c.in-2.is at c.requires in h

pub load_list-requires-in-3 : goal.load_list-requires-in-3
load_list-requires-in-3 c = let h = rw c.in-3.is at c.requires in h.0

pub load_list-requires-in-4 : goal.load_list-requires-in-4
load_list-requires-in-4 c = let h = rw c.in-4.is at c.requires in h.0

pub load_list-requires-in-6 : goal.load_list-requires-in-6
load_list-requires-in-6 c = let h = rw c.in-6.is at c.requires in h.0

pub returns-in-0 : goal.returns-in-0
unfolding behind_lists lists_over
returns-in-0 c = rw c.in-0.is c.load_list.ensures

pub returns-in-1 : goal.returns-in-1
unfolding behind_lists lists_over
returns-in-1 c = rw c.in-1.is c.load_list-in-1.ensures

pub returns-in-2 : goal.returns-in-2
returns-in-2 c = rw c.in-2.is c.load_shell.ensures

pub returns-in-3 : goal.returns-in-3
unfolding behind_lists lists_over
returns-in-3 c = rw c.in-3.is c.load_list-in-3.ensures

pub returns-in-4 : goal.returns-in-4
unfolding behind_lists lists_over
returns-in-4 c = rw c.in-4.is c.load_list-in-4.ensures

pub returns-in-6 : goal.returns-in-6
unfolding behind_lists lists_over
returns-in-6 c = rw c.in-6.is c.load_list-in-6.ensures

pub returns-in_default : goal.returns-in_default
unfolding behind_lists lists_over
returns-in_default c =
    let none = no-places c.args.k (λ e. omega arith) (λ e. omega arith) (λ e. omega arith) (λ e. omega arith) (λ e. omega arith) (λ e. omega arith) in
    rw none record { w_after = refl; value = refl }
