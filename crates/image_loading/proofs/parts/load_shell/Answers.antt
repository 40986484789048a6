-- `image_loading::parts::load_shell` meets its contract: each list begins where the one before it ends. Assumes nothing.
use Prim.Native.Nat.{ℕ}
use mathlib.Core.Path.{ap, ap₂, ◌∙◌}
use mathlib.Core.List.{List}
use Rattle.memory_layout.specs.Names.{AT_SHELL_WIRES, AT_SHELL_ACORNS}
use Rattle.image_loading.specs.Steps.{behind_list, list_over, behind_lists, lists_over}
use Rattle.image_loading.proofs.parts.load_shell.Goals as goal

pub load_list-wires-requires : goal.load_list-wires-requires
load_list-wires-requires c = c.requires.0

pub load_list-acorns-requires : goal.load_list-acorns-requires
load_list-acorns-requires c =
    let s = c in
    rw (c.load_list-wires.auto.w, c.load_list-wires.ensures.value) s.requires.1.0

pub load_list-requires : goal.load_list-requires
load_list-requires c =
    let s = c in
    let first = c.load_list-wires in
    let second = c.load_list-acorns in
    rw (second.auto.w, first.auto.w, second.ensures.value, first.ensures.value) s.requires.1.1.0

pub returns : goal.returns
unfolding behind_lists lists_over
returns c =
    let s = c in
    let b : List ℕ = s.args.bytes.now in
    let first = c.load_list-wires.ensures in
    let second = c.load_list-acorns.ensures in
    let third = c.load_list.ensures in
    let acorns = second.value ∙ ap (behind_list b) first.value in record {
      w_after = third.w_after
          ∙ ap₂ (λ (a : ℕ) (v : List ℕ). list_over b a AT_SHELL_ACORNS v) acorns
          (second.w_after ∙ ap₂ (λ (a : ℕ) (v : List ℕ). list_over b a AT_SHELL_WIRES v) first.value first.w_after);
      value = third.value ∙ ap (behind_list b) acorns;
    }
