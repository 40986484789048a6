-- W-211, "What holds of both rules is proved once: the tolerance is one of the two numbers, and raising either never lowers it". Both versions' rules are fair (Rules.antt), and what is said of the
-- effective tolerance follows from that alone: of any fair rule it would hold as well. Assumes nothing.
use Rattle.std.specs.Prelude.{◌≡◌, ◌⊎◌, not, T, Float}
use Rattle.std.proofs.Math.Path.{refl}
use Rattle.std.proofs.Common.{sym, subst, inl, inr}
use Rattle.std.specs.Float.{nan, inf, fin, binary64}
use Rattle.std.specs.Float.Ieee.{is_nan, mul, of_bits, le, lt, eq}
use Rattle.float_values.specs.Laws.Order.{le-nums}
use Rattle.geom_lines_planes.specs.declared.tolerance.Tolerance.TheVariants.{Own, Session}
use Rattle.geom_lines_planes.specs.declared.tolerance.Version.{Version}
use Rattle.geom_lines_planes.specs.declared.tolerance.Version.TheVariants.{First, Second}
use Rattle.geom_lines_planes.specs.Geometry.{half, session, rule, effective}
use Rattle.interval_arithmetic.specs.Ops.{zero_f}
use Rattle.interval_narrowing.specs.Laws.Times.{times-num}
use Rattle.geom_tolerance_rules.specs.Rules.{Fair}
use Rattle.geom_tolerance_rules.specs.Laws.{larger-is, larger-rises, product-rises}

-- the rule of either version is fair
pub rules-fair : (v : Version) → Fair (rule v)
unfolding rule
rules-fair First = record { one-of = λ own session. inl refl; rises = λ own own' session session' h g. h }
rules-fair Second = record { one-of = larger-is; rises = larger-rises }

-- what holds of both numbers holds of what a fair rule gives
pub one_holds : (r : Float → Float → Float) → Fair r → (P : Float → Type 0) (own session : Float) → P own → P session → P (r own session)
one_holds r f P own session a b = elim (f.one-of own session) [
  | inl e ↦ subst P (sym e) a
  | inr e ↦ subst P (sym e) b
]

-- raising the precision raises the session's tolerance
half-num : (x : Float) → T (not (is_nan x)) → T (not (is_nan (mul binary64 x half)))
unfolding is_nan mul of_bits
half-num nan n = absurd n
half-num (inf s) n = tt
half-num (fin s m e) n = times-num 0 (fin s m e) half

half-above : T (le zero_f half)
unfolding le lt eq of_bits
half-above = tt

pub session-rises : (p p' : Float) → T (le p p') → T (le (session p) (session p'))
session-rises p p' h = product-rises p p' half h half-above (half-num p (le-nums p p' h).0) (half-num p' (le-nums p p' h).1)

module _ (v : Version) where
  -- the tolerance is one of the two numbers
  pub effective-one-of : (t p : Float) → (effective v (Own t) p ≡ t) ⊎ (effective v (Own t) p ≡ session p)
  unfolding effective
  effective-one-of t p = (rules-fair v).one-of t (session p)

  pub effective-holds : (P : Float → Type 0) (t p : Float) → P t → P (session p) → P (effective v (Own t) p)
  unfolding effective
  effective-holds P t p a b = one_holds (rule v) (rules-fair v) P t (session p) a b

  -- raising either never lowers it
  pub effective-rises : (t t' p p' : Float) → T (le t t') → T (le p p') → T (le (effective v (Own t) p) (effective v (Own t') p'))
  unfolding effective
  effective-rises t t' p p' h g = (rules-fair v).rises t t' (session p) (session p') h (session-rises p p' g)

  -- a record that has none of its own has the session's: what it is told does not depend on the version
  pub effective-session : (p : Float) → effective v Session p ≡ session p
  unfolding effective
  effective-session p = refl
