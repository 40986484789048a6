-- Rows of two models that stop at the same part: compared part by part, a later one only where those before it pass. Assumes nothing.
use Rattle.std.specs.Prelude.{ℕ, zero, suc, ◌≡◌, refl, true, cond, List, [], ◌∷◌, ◌++◌, map}
use Rattle.std.proofs.Common.{sym, ap, ◌∙◌, subst}
use Rattle.std.proofs.Math.Option.{Option, some}
use Rattle.geom_lines_planes.specs.Refuse.{◌then◌}
use Rattle.meaning.specs.Lists.{member, joined}
use Rattle.meaning.specs.Refuse.{first_refusal}
use Rattle.meaning_list_laws.specs.Lists.{member-head, member-tail}
use Rattle.meaning_isolation.specs.Laws.{map-alike}
use Rattle.meaning_stops.specs.Stops.{Part, numbers, Row, ◌∶◌, Stop, stop_at, unless_passed, first_part, first_stop}
use Rattle.meaning_stops.specs.Bodies.{first_with}
use Rattle.meaning_stops.specs.Laws.{parts-append}

-- the parts k stop where the parts l do, and where they pass, what is told behind them is the same
pub record Follows (k l : List Part) : Type 0 where
  pub told : (row : ℕ) (r s : Stop) → (first_refusal (numbers k) ≡ 0 → r ≡ s) → first_part row k r ≡ first_part row l s

-- the same of a row and the rows behind it
pub row_same : (row : ℕ) (k l : List Part) (p q : List Row) → Follows k l → (first_refusal (numbers k) ≡ 0 → first_stop p ≡ first_stop q) → first_stop ((row ∶ k) ∷ p) ≡ first_stop ((row ∶ l) ∷ q)
unfolding first_stop
row_same row k l p q f h = f.told row (first_stop p) (first_stop q) h

pub follows-none : Follows [] []
unfolding first_part first_refusal
follows-none = record { told = λ row r s h. h refl }

pub follows-more : (p q : Part) (k l : List Part) → p ≡ q → (p.number ≡ 0 → Follows k l) → Follows (p ∷ k) (q ∷ l)
unfolding first_part first_refusal
follows-more p q k l e f =
    subst (λ (c : Part). Follows (p ∷ k) (c ∷ l)) e (record { told = λ row r s h. by row r s p.number refl h })
  where
    by : (row : ℕ) (r s : Stop) (n : ℕ) → p.number ≡ n → ((n then first_refusal (numbers k)) ≡ 0 → r ≡ s)
        → unless_passed n (stop_at row p) (first_part row k r) ≡ unless_passed n (stop_at row p) (first_part row l s)
    by row r s zero z h = (f z).told row r s h
    by row r s (suc n) z h = refl

part-append : (row : ℕ) (k l : List Part) (r : Stop) → first_part row (k ++ l) r ≡ first_part row k (first_part row l r)
unfolding first_part
part-append row [] l r = refl
part-append row (p ∷ k) l r = ap (λ (s : Stop). unless_passed p.number (stop_at row p) s) (part-append row k l r)

pub follows-append : (k l p q : List Part) → Follows k l → (first_refusal (numbers k) ≡ 0 → Follows p q) → Follows (k ++ p) (l ++ q)
follows-append k l p q f g =
    record {
      told = λ row r s h.
          part-append row k p r
          ∙ f.told row (first_part row p r) (first_part row q s) (λ z. (g z).told row r s (λ y. h (parts-append k p ∙ ap (λ (n : ℕ). n then first_refusal (numbers p)) z ∙ y)))
          ∙ sym (part-append row l q s);
    }

pub follows-joined : (f g : ℕ → List Part) (l : List ℕ) → ((y : ℕ) → member y l ≡ true → Follows (f y) (g y)) → Follows (joined f l) (joined g l)
unfolding joined
follows-joined f g [] h = follows-none
follows-joined f g (y ∷ l) h = follows-append (f y) (g y) (joined f l) (joined g l) (h y (member-head y l)) (λ z. follows-joined f g l (λ x q. h x (member-tail x y l q)))

pub follows_itself : (l : List Part) → Follows l l
follows_itself [] = follows-none
follows_itself (p ∷ l) = follows-more p p l l refl (λ z. follows_itself l)

pub follows_same : (k l p : List Part) → Follows k l → l ≡ p → Follows k p
follows_same k l p f e = subst (Follows k) e f

pub follows-mapped : (f g : ℕ → Part) (l : List ℕ) → ((y : ℕ) → member y l ≡ true → f y ≡ g y) → Follows (map f l) (map g l)
follows-mapped f g l h = follows_same (map f l) (map f l) (map g l) (follows_itself (map f l)) (map-alike f g l h)

-- ---- the first whose list has an id

pub first_alike : (f g : ℕ → List ℕ) (x : ℕ) (l : List ℕ) → ((y : ℕ) → member y l ≡ true → f y ≡ g y) → first_with f x l ≡ first_with g x l
unfolding first_with
first_alike f g x [] h = refl
first_alike f g x (y ∷ l) h =
    ap (λ (k : List ℕ). cond (member x k) (some y) (first_with f x l)) (h y (member-head y l))
    ∙ ap (λ (o : Option ℕ). cond (member x (g y)) (some y) o) (first_alike f g x l (λ z q. h z (member-tail z y l q)))
