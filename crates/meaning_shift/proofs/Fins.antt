-- The theorems of specs/Fins.antt that rest on those of specs/ that the edits of must-fail/ make fail. Assumes nothing.
use Rattle.std.specs.Prelude.{ℕ, ◌≤◌, ◌<◌, ◌≡◌, refl, Bool, true, false, cond, ◌||◌, [], eqb}
use Rattle.std.proofs.Common.{arith, ap, ◌∙◌, subst}
use Rattle.std.proofs.Math.Option.{Option, some}
use Rattle.meaning.specs.Lists.{member, count, joined, is}
use Rattle.meaning.specs.Model.{Model, Limits, body, region, shell, face}
use Rattle.meaning.specs.Walks.{face_walk}
use Rattle.meaning.specs.Inquire.{rim}
use Rattle.meaning.specs.Formed.{bit}
use Rattle.meaning_list_laws.specs.Lists.{count_none, count-absent, all-member}
use Rattle.meaning_shift.specs.Sums.{count-joined}
use Rattle.meaning_shift.specs.Moving.{Movable, one_of, outside}
use Rattle.meaning_shift.specs.Fins.{shell_fins, region_fins, body_fins, bit-small, bit-cond, one-of, not-front, parent, Walked, face-walked, face-below, region-below, shell-below, shell-names, parent_is, count-rim, fin-from}

module _ (x : Limits) (m : Model) (b r : ℕ) (k : Movable x m b r) where
  -- ---- each stands there once

  module _ (c f s₀ : ℕ) (h : Walked x m b r k f) (p : parent x m b r k c ≡ f) (e : (face m f).back ≡ some s₀) (g : member s₀ (region m r).shells ≡ true) where
    shell-once : (q s : ℕ) → member q (body m b).regions ≡ true → (region m q).solid ≡ true → member s (region m q).shells ≡ true → count c (shell_fins m s) ≤ cond (eqb s₀ s) 1 0
    shell-once q s a t d =
        let hq : q < m.regions.used = region-below x m b r k q a in
        let own : (region m (shell m s).region).solid ≡ true = ap (λ (z : ℕ). (region m z).solid) (shell-names x m b r k q s hq d) ∙ t in
        let front : is (face m f).front s ≡ false = not-front m (face m f).front s (all-member (λ f. outside m (face m f).front) (face_walk m b) f k.fronts h) own in
        let counted : count f (shell m s).faces ≡ cond (eqb s₀ s) 1 0 =
        k.formed.faces.once s f (shell-below x m b r k q s hq d) (face-below x m b r k f h)
        ∙ ap bit (ap (λ (z : Bool). z || is (face m f).back s) front ∙ ap (λ (o : Option ℕ). is o s) e)
        ∙ bit-cond (eqb s₀ s) in
        omega (arith, count-joined (rim m) c f (shell m s).faces (λ y u. subst (λ (z : ℕ). count c (rim m y) ≤ cond (eqb z y) 1 0) p (count-rim x m b r k y (face-walked x m b r k q s y a d u) c)))

    region-once : (q : ℕ) → member q (body m b).regions ≡ true → count c (region_fins m q) ≤ cond (eqb (shell m s₀).region q) 1 0
    region-once q a = by (region m q).solid refl
      where
        by : (t : Bool) → (region m q).solid ≡ t → count c (cond t (joined (shell_fins m) (region m q).shells) []) ≤ cond (eqb (shell m s₀).region q) 1 0
        by true t =
            omega (
              arith,
              count-joined (shell_fins m) c s₀ (region m q).shells (λ s d. shell-once q s a t d),
              k.formed.shells.once q s₀ (region-below x m b r k q a) (shell-below x m b r k r s₀ (region-below x m b r k r k.own) g),
              bit-cond (eqb (shell m s₀).region q),
            )
        by false t = omega (arith, count_none c)

    body-once : count c (body_fins m b) ≤ 1
    body-once =
        let hs : s₀ < m.shells.used = shell-below x m b r k r s₀ (region-below x m b r k r k.own) g in
        omega (
          arith,
          count-joined (region_fins m) c (shell m s₀).region (body m b).regions region-once,
          k.formed.regions.once b (shell m s₀).region k.there (k.formed.ids.shell-region s₀ hs),
          bit-small (eqb (region m (shell m s₀).region).body b),
        )

  pub fins-once : (c : ℕ) → count c (body_fins m b) ≤ 1
  fins-once c = by (member c (body_fins m b)) refl
    where
      by : (t : Bool) → member c (body_fins m b) ≡ t → count c (body_fins m b) ≤ 1
      by false n = omega (arith, count-absent c (body_fins m b) n)
      by true i =
          let f = fin-from x m b r k c i in
          let back = one-of (face m f.0).back (region m r).shells (all-member (λ f. one_of (face m f).back (region m r).shells) (face_walk m b) f.0 k.backs f.1) in
          body-once c f.0 back.0 f.1 (parent_is x m b r k f.0 f.1 c f.2) back.1 back.2
