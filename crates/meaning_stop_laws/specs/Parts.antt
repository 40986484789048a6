-- What holds of each part of rows, a later one where those before it pass, holds of the part that a stop is told by. Assumes nothing.
use Rattle.std.specs.Prelude.{ℕ, suc, ◌≡◌, true}
use Rattle.std.proofs.Math.Path.{refl}
use Rattle.std.proofs.Common.{ap, ◌∙◌, subst}
use mathlib.Core.List.{List, [], ◌∷◌, ◌++◌, map}
use Rattle.geom_lines_planes.specs.Refuse.{◌then◌}
use Rattle.meaning.specs.Lists.{member, joined}
use Rattle.meaning.specs.Refuse.{first_refusal}
use Rattle.meaning_list_laws.specs.Tests.{then-zero}
use Rattle.meaning_list_laws.specs.Lists.{member-head, member-tail}
use Rattle.meaning_stops.specs.Stops.{Part, numbers, Row, refusal_of, Stop, stop_at, first_stop}
use Rattle.meaning_stops.proofs.Laws.{first-stopped}

module _ (P : Part → Type 0) where
  abbrev EachOf : List Part → Type 0
  EachOf [] = Unit {0}
  EachOf (p ∷ l) = P p × (p.number ≡ 0 → EachOf l)

  pub record Each (l : List Part) : Type 0 where
    pub parts : EachOf l

  pub each_none : Each []
  each_none = record { parts = tt }

  -- where p passes; and whether it does or not
  pub each_more : {p : Part} {l : List Part} → P p → (p.number ≡ 0 → Each l) → Each (p ∷ l)
  each_more a f = record { parts = (a, λ z. (f z).parts) }

  pub each_and : {p : Part} {l : List Part} → P p → Each l → Each (p ∷ l)
  each_and a b = each_more a (λ _. b)

  each_tail : (p : Part) (l : List Part) → Each (p ∷ l) → p.number ≡ 0 → Each l
  each_tail p l a z = record { parts = a.parts.1 z }

  pub each_append : (k l : List Part) → Each k → (first_refusal (numbers k) ≡ 0 → Each l) → Each (k ++ l)
  unfolding first_refusal
  each_append [] l a f = f refl
  each_append (p ∷ k) l a f = each_more a.parts.0 (λ z. each_append k l (each_tail p k a z) (λ y. f (ap (λ (n : ℕ). n then first_refusal (numbers k)) z ∙ y)))

  pub each-joined : (f : ℕ → List Part) (l : List ℕ) → ((i : ℕ) → member i l ≡ true → Each (f i)) → Each (joined f l)
  unfolding joined
  each-joined f [] h = each_none
  each-joined f (i ∷ l) h = each_append (f i) (joined f l) (h i (member-head i l)) (λ z. each-joined f l (λ j q. h j (member-tail j i l q)))

  pub each-mapped : (f : ℕ → Part) (l : List ℕ) → ((i : ℕ) → member i l ≡ true → P (f i)) → Each (map f l)
  each-mapped f [] h = each_none
  each-mapped f (i ∷ l) h = each_and (h i (member-head i l)) (each-mapped f l (λ j q. h j (member-tail j i l q)))

  -- and of rows
  abbrev RowsOf : List Row → Type 0
  RowsOf [] = Unit {0}
  RowsOf (r ∷ l) = Each r.parts × (first_refusal (numbers r.parts) ≡ 0 → RowsOf l)

  pub record EachRow (l : List Row) : Type 0 where
    pub rows : RowsOf l

  pub rows_none : EachRow []
  rows_none = record { rows = tt }

  pub rows_more : {r : Row} {l : List Row} → Each r.parts → (first_refusal (numbers r.parts) ≡ 0 → EachRow l) → EachRow (r ∷ l)
  rows_more a f = record { rows = (a, λ z. (f z).rows) }

  pub rows-and : {r : Row} {l : List Row} → Each r.parts → EachRow l → EachRow (r ∷ l)
  rows-and a b = rows_more a (λ _. b)

  -- the part behind those that pass, and the row
  part-behind : (k l : List Part) (p : Part) → Each (k ++ (p ∷ l)) → first_refusal (numbers k) ≡ 0 → P p
  unfolding first_refusal
  part-behind [] l p a z = a.parts.0
  part-behind (q ∷ k) l p a z = let t = then-zero q.number (first_refusal (numbers k)) z in part-behind k l p (each_tail q (k ++ (p ∷ l)) a t.0) t.1

  row-behind : (k l : List Row) (r : Row) → EachRow (k ++ (r ∷ l)) → first_refusal (map refusal_of k) ≡ 0 → Each r.parts
  unfolding first_refusal refusal_of
  row-behind [] l r a z = a.rows.0
  row-behind (q ∷ k) l r a z = let t = then-zero (refusal_of q) (first_refusal (map refusal_of k)) z in row-behind k l r (record { rows = a.rows.1 t.0 }) t.1

  -- the part that a stop is told by
  pub record ToldBy (s : Stop) : Type 0 where
    pub row : ℕ
    pub here : Part
    pub holds : P here
    pub stop : s ≡ stop_at row here

  pub told-by : (l : List Row) → EachRow l → (n : ℕ) → (first_stop l).number ≡ suc n → ToldBy (first_stop l)
  told-by l a n z =
      let s = first-stopped l n z in
      let r = row-behind s.before s.behind s.here (subst EachRow s.rows a) s.passed in
      let t = s.at in
      record {
        row = s.here.row;
        here = t.here;
        holds = part-behind t.before t.behind t.here (subst Each t.parts r) t.passed;
        stop = t.stop;
      }
