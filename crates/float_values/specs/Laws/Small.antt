-- Small facts that the files beside this one share. Assumes nothing.
use Rattle.std.specs.Prelude.{◌≡◌, refl, ◌⊎◌, ℕ, ◌≤◌, ◌<◌, Bool, true, false, not, ◌||◌, T, leb, Float}
use Rattle.std.proofs.Common.{inl, inr, arith, leb→le}
use Rattle.std.proofs.Math.Dec.{nleb→lt}
use Rattle.std.specs.Float.{nan, inf, fin}
use Rattle.std.specs.Float.Ieee.{neg}
use Rattle.float_order.specs.Next.{INF, TOP}

pub le-or-lt : (a c : ℕ) → (a ≤ c) ⊎ (c < a)
le-or-lt a c = go (leb a c) (leb→le a c) (nleb→lt a c)
  where
    go : (t : Bool) → (T t → a ≤ c) → (T (not t) → c < a) → (a ≤ c) ⊎ (c < a)
    go true f g = inl (f tt)
    go false f g = inr (g tt)

pub or_split : (a b : Bool) → T (a || b) → T a ⊎ T b
or_split true b t = inl tt
or_split false b t = inr t

pub or_left : (a b : Bool) → T a → T (a || b)
or_left true b t = tt
or_left false b t = absurd t

pub or_right : (a b : Bool) → T b → T (a || b)
or_right true b t = tt
or_right false b t = t

pub in_top : (b : ℕ) → b ≤ INF → b < TOP
in_top b h = omega arith

pub neg-neg : (x : Float) → neg (neg x) ≡ x
unfolding neg
neg-neg nan = refl
neg-neg (inf true) = refl
neg-neg (inf false) = refl
neg-neg (fin true m e) = refl
neg-neg (fin false m e) = refl
