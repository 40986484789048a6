-- The tests of an edge's fins by their own words, turn by turn; those of test 3 are those of `meaning`. Assumes nothing.
use Rattle.std.specs.Prelude.{ℕ, ◌+◌, ◌≤◌, ◌<◌, ◌≡◌, Bool, true, false, not, cond, List, eqb, length, get_or, take, Float}
use Rattle.std.proofs.Common.{le_trans, add-one, arith, take-suc}
use Rattle.std.proofs.Math.Path.{refl}
use Rattle.geom_lines_planes.specs.Refuse.{◌unless◌}
use Rattle.meaning.specs.Lists.{count}
use Rattle.meaning.specs.Model.{edge}
use Rattle.meaning.specs.Refuse.{◌if◌, first_of}
use Rattle.meaning.specs.Split.{test3}
use Rattle.meaning_list_laws.specs.Lists.{count-snoc}
use Rattle.memory_layout.specs.Layout.{word_strides}
use Rattle.memory_layout.specs.Decode.{decode}
use Rattle.memory_layout.specs.Fit.{Lists}
use Rattle.memory_layout.specs.Laws.{before-tables}
use Rattle.split_fins.specs.Fins.{pcurve_test}

-- ---- tests

-- the used counts are there
pub counts-listed : (room w : List ℕ) → Lists room w → 11 ≤ length w
counts-listed room w f = le_trans (before-tables 11 word_strides room 10) f.words

pub unless-is : (n : ℕ) (b : Bool) → n unless b ≡ n if not b
unless-is n true = refl
unless-is n false = refl

pub one-le : (b : Bool) → cond b 1 0 ≤ 1
one-le true = omega arith
one-le false = omega arith

-- ---- one entry more

pub count_turn : (i : ℕ) (l : List ℕ) (j n p : ℕ) → j < length l → n ≡ count i (take j l) → p ≡ cond (eqb i (get_or l j 0)) 1 0
    → n + p ≡ count i (take (j + 1) l)
count_turn i l j n p h e g = rw (add-one, take-suc l j 0, count-snoc, e, g)

-- ---- test 3 is that of `meaning`

module _ (room w : List ℕ) (x : List Float) (e : ℕ) where
  pub pcurve-tests : first_of (pcurve_test room w) (edge (decode room w x) e).fins ≡ test3 (decode room w x) e
  unfolding pcurve_test decode
  pcurve-tests = refl
