-- `image_loading::parts::load_list` meets its contract: the count in front is one number more. Assumes nothing.
use Prim.Native.Nat.{ℕ, suc, ◌+◌, ◌-◌}
use native.Mathlib.Omega.{arith}
use mathlib.Core.Path.{◌≡◌, sym, ap, ◌∙◌}
use mathlib.Core.List.{List, ◌++◌}
use lib.ListN.{take, drop, length-drop}
use lib.Seq.{length-take-le}
use Rattle.memory_writes.specs.Over.{taken_back}
use Rattle.image_format.specs.Bytes.{number, words_in}
use Rattle.image_laws.specs.Numbers.{length-words_in}
use Rattle.image_loading.specs.Steps.{behind_list, list_over}
use Rattle.image_loading.proofs.parts.load_list.Goals as goal

pub get_words-requires : goal.get_words-requires
get_words-requires c =
    let s = c in
    let p = s.args.p in
    let n = c.word_in-n.result in
    let left = length-drop p s.args.w.now in
    let long = length-take-le (p + 1 + n - p) (drop p s.args.w.now) (omega arith) in
    omega arith

pub returns : goal.returns
unfolding behind_list list_over
returns c =
    let s = c in
    let p = s.args.p in
    let w : List ℕ = s.args.w.now in
    let b : List ℕ = drop s.args.at s.args.bytes.now in
    let n = c.word_in-n.result in
    let e : n ≡ number 4 b = c.word_in-n.ensures in
    let m : p + 1 + n - p ≡ suc (number 4 b) = omega arith in
    let left = length-drop p w in
    let long = length-take-le (p + 1 + n - p) (drop p w) (omega arith) in record {
      w_after = ap (λ (a : List ℕ). take p w ++ (a ++ drop (p + 1 + n - p) (drop p w))) (c.get_words.ensures ∙ ap (λ (j : ℕ). words_in j b) (long ∙ m))
          ∙ taken_back p (p + 1 + n - p) (words_in (suc (number 4 b)) b) w (length-words_in (suc (number 4 b)) b ∙ sym m);
      value = omega arith;
    }
