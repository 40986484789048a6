-- What the sheet keeps as its largest stone, of the stones so far and of one more; and a list has one first greatest. Assumes nothing.
use Rattle.std.specs.Prelude.{◌≡◌, Bool, true, false, cond, ◌&&◌, ◌↔◌, T, ℤ, pos, negsuc, ◌≤ℤ◌, ◌<ℤ◌}
use Rattle.std.proofs.Math.Path.{refl}
use Rattle.std.proofs.Common.{sym, ap, ◌∙◌, subst, arith, le-leb, ltb-true}
use mathlib.Core.List.{List, [], ◌∷◌, ◌++◌, append_assoc, head-eq_of_cons-eq, tail-eq_of_cons-eq, cons-ne-nil}
use Rattle.std.proofs.Math.Option.{Option, none, some, none-ne-some}
use Rattle.std.specs.Int.Signed.{lt_z, le_z, lt_z_yes, le_z_yes, lt_z_no, ≤ℤ_refl, <ℤ-≤ℤ_trans, clash_ℤ}
use Rattle.meaning_list_laws.specs.Tests.{and_both, and_assoc}
use Rattle.meaning_sheets.specs.Sheets.{Stone, larger}
use Rattle.meaning_sheet_laws.specs.Terms.{all_stones, smaller, not_larger, FirstGreatest}

-- ---- tests of all stones of a list

module _ (p : Stone → Bool) where
  all_both : (k l : List Stone) → all_stones p (k ++ l) ≡ (all_stones p k && all_stones p l)
  unfolding all_stones
  all_both [] l = refl
  all_both (s ∷ k) l = rw (all_both k l) (sym (and_assoc (p s) (all_stones p k) (all_stones p l)))

  all_more : (k : List Stone) (s : Stone) → all_stones p k ≡ true → p s ≡ true → all_stones p (k ++ (s ∷ [])) ≡ true
  unfolding all_stones
  all_more k s h q = rw (all_both k (s ∷ []), h, q)

  all_then : (q : Stone → Bool) → ((s : Stone) → p s ≡ true → q s ≡ true) → (l : List Stone) → all_stones p l ≡ true → all_stones q l ≡ true
  unfolding all_stones
  all_then q f [] h = refl
  all_then q f (s ∷ l) h = let b = and_both (p s) (all_stones p l) h in rw (f s b.0, all_then q f l b.1)

  -- the stone in the middle
  all-at : (k : List Stone) (s : Stone) (l : List Stone) → all_stones p (k ++ (s ∷ l)) ≡ true → p s ≡ true
  unfolding all_stones
  all-at [] s l h = (and_both (p s) (all_stones p l) h).0
  all-at (t ∷ k) s l h = all-at k s l (and_both (p t) (all_stones p (k ++ (s ∷ l))) h).1

-- ---- the order of numbers

less : (a b : ℤ) → lt_z a b ≡ true → a <ℤ b
less a b h = lt_z_yes (subst T (sym h) tt)

not_more : (a b : ℤ) → le_z a b ≡ true → a ≤ℤ b
not_more a b h = le_z_yes (subst T (sym h) tt)

at_most : (a b : ℤ) → a ≤ℤ b → le_z a b ≡ true
at_most a b h = by (le_z a b) h.le
  where
    by : (t : Bool) → T t → t ≡ true
    by true h = refl
    by false h = absurd h

not-less : (a b : ℤ) → lt_z a b ≡ false → le_z b a ≡ true
not-less a b h = at_most b a (lt_z_no (rw h tt))

at-most-less : (a b c : ℤ) → le_z a b ≡ true → lt_z b c ≡ true → lt_z a c ≡ true
at-most-less a b c h g = by (lt_z a c) refl
  where
    by : (t : Bool) → lt_z a c ≡ t → t ≡ true
    by true q = refl
    by false q = clash_ℤ (<ℤ-≤ℤ_trans (less b c g) (not_more c a (not-less a c q))) (not_more a b h)

less-at-most : (a b : ℤ) → lt_z a b ≡ true → le_z a b ≡ true
less-at-most (pos a) (pos b) h = le-leb a b (omega (arith, ltb-true a b h))
less-at-most (pos a) (negsuc b) h = h
less-at-most (negsuc a) (pos b) h = refl
less-at-most (negsuc a) (negsuc b) h = le-leb b a (omega (arith, ltb-true b a h))

-- ---- one stone more

-- what the sheet keeps, of the stones so far
unfoldable pub Kept : Option Stone → List Stone → Type 0
Kept none l = l ≡ []
Kept (some g) l = FirstGreatest g l

alone : (s : Stone) → FirstGreatest s (s ∷ [])
unfolding all_stones
alone s = record { front = []; back = []; listed = refl; front-smaller = refl; none-larger = rw (at_most s.number s.number (≤ℤ_refl s.number)) }

pub one_more : (o : Option Stone) (k : List Stone) (s : Stone) → Kept o k → Kept (some (larger o s)) (k ++ (s ∷ []))
unfolding Kept
one_more none k s h = rw h (alone s)
one_more (some t) k s h = by (lt_z t.number s.number) refl
  where
    by : (b : Bool) → lt_z t.number s.number ≡ b → FirstGreatest (cond b s t) (k ++ (s ∷ []))
    by true q =
        let under : all_stones (smaller s) k ≡ true = all_then (not_larger t) (smaller s) (λ u g. at-most-less u.number t.number s.number g q) k h.none-larger in
        record {
          front = k;
          back = [];
          listed = refl;
          front-smaller = under;
          none-larger = all_more (not_larger s) k s (all_then (smaller s) (not_larger s) (λ u. less-at-most u.number s.number) k under) (at_most s.number s.number (≤ℤ_refl s.number));
        }
    by false q =
        record {
          front = h.front;
          back = h.back ++ (s ∷ []);
          listed = ap (λ (l : List Stone). l ++ (s ∷ [])) h.listed ∙ append_assoc h.front (t ∷ h.back) (s ∷ []);
          front-smaller = h.front-smaller;
          none-larger = all_more (not_larger t) k s h.none-larger (not-less t.number s.number q);
        }

-- ---- a list has one first greatest

pub one-greatest : (l : List Stone) (g k : Stone) → FirstGreatest g l → FirstGreatest k l → g ≡ k
unfolding all_stones
one-greatest l g k a b = go a.front b.front (sym a.listed ∙ b.listed) a.front-smaller b.front-smaller
  where
    g-most : k.number ≤ℤ g.number
    g-most = not_more k.number g.number (all-at (not_larger g) b.front k b.back (rw (← b.listed) a.none-larger))

    k-most : g.number ≤ℤ k.number
    k-most = not_more g.number k.number (all-at (not_larger k) a.front g a.back (rw (← a.listed) b.none-larger))

    -- neither stands in front of the other
    apart : (s t x : Stone) (f : List Stone) → s ≡ t → all_stones (smaller x) (t ∷ f) ≡ true → s.number <ℤ x.number
    apart s t x f e h = rw e (less t.number x.number (and_both (smaller x t) (all_stones (smaller x) f) h).0)

    go : (f e : List Stone) → f ++ (g ∷ a.back) ≡ e ++ (k ∷ b.back) → all_stones (smaller g) f ≡ true → all_stones (smaller k) e ≡ true → g ≡ k
    go [] [] q h i = head-eq_of_cons-eq q
    go [] (t ∷ e) q h i = clash_ℤ (apart g t k e (head-eq_of_cons-eq q) i) g-most
    go (s ∷ f) [] q h i = clash_ℤ (apart k s g f (sym (head-eq_of_cons-eq q)) h) k-most
    go (s ∷ f) (t ∷ e) q h i = go f e (tail-eq_of_cons-eq q) (and_both (smaller g s) (all_stones (smaller g) f) h).1 (and_both (smaller k t) (all_stones (smaller k) e) i).1

-- and an empty one has none
pub none-of-none : (l : List Stone) (g : Stone) → FirstGreatest g l → l ≡ [] → ⊥
none-of-none l g f e = filled f.front (sym f.listed ∙ e)
  where
    filled : (k : List Stone) → k ++ (g ∷ f.back) ≡ [] → ⊥
    filled [] q = cons-ne-nil g f.back q
    filled (t ∷ k) q = cons-ne-nil t (k ++ (g ∷ f.back)) q

-- ---- so what is kept is the list's first greatest

pub kept-none : (o : Option Stone) (l : List Stone) → Kept o l → (o ≡ none) ↔ (l ≡ [])
unfolding Kept
kept-none none l h = (λ _. h, λ _. refl)
kept-none (some g) l h = (λ e. absurd (none-ne-some g (sym e)), λ e. absurd (none-of-none l g h e))
