-- A split is refused exactly where its row says, and a refused one leaves the model as it was. Assumes nothing.
use Prim.Native.Nat.{ℕ, zero, suc, ◌≤◌, ◌<◌}
use native.Mathlib.Omega.{arith}
use Rattle.std.proofs.Math.Decide.{dec_lt}
use Rattle.std.specs.Prelude.{◌≡◌, Bool, eqb, get_or, Float}
use Rattle.std.proofs.Math.Path.{refl}
use Rattle.std.proofs.Common.{sym, ◌∙◌}
use Rattle.std.proofs.Math.Bool.{true, false, not}
use Rattle.std.proofs.lemmas.Bool.{false≢true}
use mathlib.Core.List.{List, [], ◌∷◌, ◌++◌, map}
use Rattle.interval_arithmetic.specs.declared.Sign.{Sign}
use Rattle.interval_arithmetic.specs.declared.Sign.TheVariants.{Negative, Zero, Positive, Unresolved}
use Rattle.geom_lines_planes.specs.declared.surface.Plane.{Plane}
use Rattle.geom_lines_planes.specs.Refuse.{◌unless◌, ◌then◌}
use Rattle.geom_carriers.specs.declared.Carrier.TheVariants as Carriers
use Rattle.geom_carriers.specs.Found.{Found}
use Rattle.std.specs.Prelude.{Some, None}
use Rattle.geom_carriers.specs.Queries.{line_refusal, plane_refusal, the_plane}
use Rattle.meaning.specs.Lists.{count, joined, the, is_some}
use Rattle.meaning.specs.Model.{Model, has, face, loop, fin, edge, surface, Limits}
use Rattle.meaning.specs.Refuse.{refused, given, answered, ◌if◌, first_refusal, first_of}
use Rattle.meaning.specs.Split.{is_positive, lo, hi, parameter, test3, test7, test8, test9, test10, within, on_plane, test11-fin, test11-fins, test12, test13, split_tests, split_refusal, EdgeSplit, split_line_edge, after_split, where_accepted, model_after}
use Rattle.meaning_list_laws.specs.Tests.{then-zero, then-assoc, none-refused}
use Rattle.meaning_split_laws.specs.Rows.{Step, ◌when◌, missing, is_line, is_plane, is_unresolved, distance, plane_steps, fin_steps, fins_steps, split_rows, never, Passes, Says, RefusedAt}

-- the number of the first condition that holds, and 0 where none does
unfoldable pub first : List Step → ℕ
first [] = 0
first (s ∷ l) = (s.number if s.holds) then first l

pub first-append : (k l : List Step) → first (k ++ l) ≡ (first k then first l)
unfolding first
first-append [] l = refl
first-append (s ∷ k) l = rw (first-append k l) (sym (then-assoc (s.number if s.holds) (first k) (first l)))

pub first-joined : (f : ℕ → List Step) (g : ℕ → ℕ) (l : List ℕ) → ((i : ℕ) → first (f i) ≡ g i) → first (joined f l) ≡ first_of g l
unfolding first joined first_of
first-joined f g [] h = refl
first-joined f g (i ∷ l) h = rw (first-append (f i) (joined f l), h i, first-joined f g l h)

pub first-empty : first [] ≡ 0
unfolding first
first-empty = refl

-- a row of one test
pub first_one : (n : ℕ) (b : Bool) → first (n when not b ∷ []) ≡ (n unless b)
unfolding first
first_one n true = refl
first_one zero false = refl
first_one (suc n) false = refl

-- ---- the thirteen rows are the thirteen tests

module _ (x : Limits) (m : Model) (e : ℕ) (t : Float) where
  row3 : (i : ℕ) → first (2 when not (has m.fins i) ∷ 7 when (fin m i).pcurve ∷ []) ≡ (2 unless has m.fins i then 7 if (fin m i).pcurve)
  unfolding first
  row3 i = go (has m.fins i) (fin m i).pcurve
    where
      go : (a b : Bool) → ((2 if not a) then (7 if b) then 0) ≡ (2 unless a then 7 if b)
      go true true = refl
      go true false = refl
      go false b = refl

  row5 : (b : Bool) (c : Found) → first (1 when not b ∷ 2 when missing c ∷ 7 when not (is_line c) ∷ []) ≡ (1 unless b then line_refusal c)
  unfolding first line_refusal
  row5 false c = refl
  row5 true None = refl
  row5 true (Some (Carriers.Line l)) = refl
  row5 true (Some (Carriers.Plane s)) = refl
  row5 true (Some Carriers.Other) = refl

  two : (n : ℕ) (a b : Bool) → first (n when not a ∷ n when not b ∷ []) ≡ (n unless a then n unless b)
  unfolding first
  two n true true = refl
  two zero true false = refl
  two (suc n) true false = refl
  two zero false true = refl
  two zero false false = refl
  two (suc n) false b = refl

  planes : (s : Plane) (u : Float) → first (plane_steps m e s u) ≡ on_plane m e s u
  unfolding first on_plane
  planes s u = go (distance m e s u)
    where
      go : (s : Sign) → ((1 if is_positive s) then (7 if is_unresolved s) then 0) ≡ within s
      go Negative = refl
      go Zero = refl
      go Positive = refl
      go Unresolved = refl

  steps : (i : ℕ) → first (fin_steps m e t i) ≡ test11-fin m e t i
  unfolding fin_steps test11-fin first plane_refusal
  steps i =
      let s : Found = surface m (the (face m (loop m (fin m i).owner).face).surface) in
      let P : Plane = the_plane s in
      rw (
        first-append (plane_steps m e P (lo m e)) (plane_steps m e P (hi m e) ++ plane_steps m e P (parameter m e t)),
        first-append (plane_steps m e P (hi m e)) (plane_steps m e P (parameter m e t)),
        planes P (lo m e),
        planes P (hi m e),
        planes P (parameter m e t),
      )
      (go (eqb (fin m i).edge e) (has m.loops (fin m i).owner) (eqb (count i (loop m (fin m i).owner).fins) 1) (has m.faces (loop m (fin m i).owner).face) (is_some (face m (loop m (fin m i).owner).face).surface) s (on_plane m e P (lo m e) then on_plane m e P (hi m e) then on_plane m e P (parameter m e t)))
    where
      go : (a b c d f : Bool) (s : Found) (r : ℕ)
          → ((1 if not a) then (2 if not b) then (1 if not c) then (2 if not d) then (1 if not f) then (2 if missing s) then (7 if not (is_plane s)) then r)
          ≡ (1 unless a then 2 unless b then 1 unless c then 2 unless d then 1 unless f then plane_refusal s then r)
      go false b c d f s r = refl
      go true false c d f s r = refl
      go true true false d f s r = refl
      go true true true false f s r = refl
      go true true true true false s r = refl
      go true true true true true None r = refl
      go true true true true true (Some (Carriers.Line l)) r = refl
      go true true true true true (Some (Carriers.Plane p)) r = refl
      go true true true true true (Some Carriers.Other) r = refl

  row11 : (seen l : List ℕ) → first (fins_steps m e t seen l) ≡ test11-fins m e t seen l
  unfolding fins_steps test11-fins first
  row11 seen [] = refl
  row11 seen (i ∷ l) = rw (first-append (fin_steps m e t i) (fins_steps m e t (i ∷ seen) l), steps i, row11 (i ∷ seen) l)

  pub rows-are-tests : map first (split_rows x m e t) ≡ 0 ∷ split_tests x m e t
  unfolding test7 test8 test9 test10 test12 test13
  rows-are-tests =
      let pcurves : first (joined (λ i. 2 when not (has m.fins i) ∷ 7 when (fin m i).pcurve ∷ []) (edge m e).fins) ≡ test3 m e =
      first-joined (λ i. 2 when not (has m.fins i) ∷ 7 when (fin m i).pcurve ∷ []) (λ i. 2 unless has m.fins i then 7 if (fin m i).pcurve) (edge m e).fins row3 in
      simp (first-empty, first_one, two, row5, row11, pcurves)

-- ---- the first number of a list that is not 0

-- where the k-th is the first
pub first-at : (l : List ℕ) (k n : ℕ) → ((j : ℕ) → j < k → get_or l j 0 ≡ 0) → get_or l k 0 ≡ suc n → first_refusal l ≡ suc n
unfolding first_refusal
first-at [] k n b h = h
first-at (i ∷ l) zero n b h = rw h
first-at (i ∷ l) (suc k) n b h = rw (b 0 (omega arith)) (first-at l k n (λ j q. b (suc j) (omega arith)) h)

-- there is such a k
pub first_found : (l : List ℕ) (n : ℕ) → first_refusal l ≡ suc n → (k : ℕ) × ((j : ℕ) → j < k → get_or l j 0 ≡ 0) × (get_or l k 0 ≡ suc n)
unfolding first_refusal
first_found [] n h = absurd (omega arith)
first_found (zero ∷ l) n h =
    let r : (k : ℕ) × ((j : ℕ) → j < k → get_or l j 0 ≡ 0) × (get_or l k 0 ≡ suc n) = first_found l n h in
    (suc r.0, before r.0 r.1, r.2)
  where
    before : (k : ℕ) → ((j : ℕ) → j < k → get_or l j 0 ≡ 0) → (j : ℕ) → j < suc k → get_or (0 ∷ l) j 0 ≡ 0
    before k b zero q = refl
    before k b (suc j) q = b j (omega arith)
first_found (suc i ∷ l) n h = (0, (λ j q. absurd (omega arith)), h)

pub first-none : (l : List ℕ) → ((k : ℕ) → get_or l k 0 ≡ 0) → first_refusal l ≡ 0
unfolding first_refusal
first-none [] h = refl
first-none (i ∷ l) h = rw (h 0) (first-none l (λ k. h (suc k)))

-- a 0 in front changes nothing
pub first-passed : (l : List ℕ) → first_refusal (0 ∷ l) ≡ first_refusal l
unfolding first_refusal
first-passed l = refl

-- ---- a row passes where its number is 0, and says its number else

pub passes-zero : (l : List Step) → Passes l → first l ≡ 0
unfolding first
passes-zero [] p = refl
passes-zero (s ∷ l) p = rw (p.none-holds 0) (passes-zero l (record { none-holds = λ j. p.none-holds (suc j) }))

pub says-number : (l : List Step) (n : ℕ) → Says l (suc n) → first l ≡ suc n
unfolding first
says-number l n s = go l s.step s.before s.here s.number
  where
    go : (l : List Step) (k : ℕ) → ((j : ℕ) → j < k → (get_or l j never).holds ≡ false) → (get_or l k never).holds ≡ true → (get_or l k never).number ≡ suc n → first l ≡ suc n
    go [] k b h q = absurd (false≢true h)
    go (s ∷ l) zero b h q = rw (h, q)
    go (s ∷ l) (suc k) b h q = rw (b 0 (omega arith)) (go l k (λ j z. b (suc j) (omega arith)) h q)

-- every test of a row has a number that is not 0
abbrev pub Numbered : List Step → Type 0
Numbered [] = Unit {0}
Numbered (s ∷ l) = (1 ≤ s.number) × Numbered l

numbered-append : (k l : List Step) → Numbered k → Numbered l → Numbered (k ++ l)
numbered-append [] l a b = b
numbered-append (s ∷ k) l a b = (a.0, numbered-append k l a.1 b)

numbered-joined : (f : ℕ → List Step) (l : List ℕ) → ((i : ℕ) → Numbered (f i)) → Numbered (joined f l)
unfolding joined
numbered-joined f [] h = tt
numbered-joined f (i ∷ l) h = numbered-append (f i) (joined f l) (h i) (numbered-joined f l h)

pub zero-passes : (l : List Step) → Numbered l → first l ≡ 0 → Passes l
unfolding first
zero-passes l a h = record { none-holds = go l a h }
  where
    off : (n : ℕ) (b : Bool) → 1 ≤ n → (n if b) ≡ 0 → b ≡ false
    off n true a h = absurd (omega arith)
    off n false a h = refl

    go : (l : List Step) → Numbered l → first l ≡ 0 → (j : ℕ) → (get_or l j never).holds ≡ false
    go [] a h j = refl
    go (s ∷ l) a h zero = off s.number s.holds a.0 (then-zero (s.number if s.holds) (first l) h).0
    go (s ∷ l) a h (suc j) = go l a.1 (then-zero (s.number if s.holds) (first l) h).1 j

pub number-says : (l : List Step) (n : ℕ) → Numbered l → first l ≡ suc n → Says l (suc n)
unfolding first
number-says [] n a h = absurd (omega arith)
number-says (s ∷ l) n a h = by s.holds refl s.number refl (number-says l n a.1)
  where
    earlier : s.holds ≡ false → (r : Says l (suc n)) (j : ℕ) → j < suc r.step → (get_or (s ∷ l) j never).holds ≡ false
    earlier q r zero i = q
    earlier q r (suc j) i = r.before j (omega arith)

    by : (b : Bool) → s.holds ≡ b → (k : ℕ) → s.number ≡ k → (first l ≡ suc n → Says l (suc n)) → Says (s ∷ l) (suc n)
    by true q zero r f = absurd (omega (arith, a.0))
    by true q (suc k) r f =
        let z : suc k ≡ suc n = rw (q, r) at h in
        record { step = 0; before = λ j i. absurd (omega arith); here = q; number = r ∙ z }
    by false q k r f =
        let rest : Says l (suc n) = f (rw q at h) in
        record { step = suc rest.step; before = earlier q rest; here = rest.here; number = rest.number }

-- ---- rows of tests

get_d_map : (l : List (List Step)) (k : ℕ) → get_or (map first l) k 0 ≡ first (get_or l k [])
unfolding first
get_d_map [] k = refl
get_d_map (r ∷ l) zero = refl
get_d_map (r ∷ l) (suc k) = get_d_map l k

abbrev pub AllNumbered : List (List Step) → Type 0
AllNumbered [] = Unit {0}
AllNumbered (r ∷ l) = Numbered r × AllNumbered l

numbered-at : (l : List (List Step)) → AllNumbered l → (k : ℕ) → Numbered (get_or l k [])
numbered-at [] a k = tt
numbered-at (r ∷ l) a zero = a.0
numbered-at (r ∷ l) a (suc k) = numbered-at l a.1 k

-- "the number is n at row k exactly if the tests before k pass and row k's condition for n holds"
pub rows-where : (rows : List (List Step)) (k n : ℕ) → RefusedAt rows k (suc n) → first_refusal (map first rows) ≡ suc n
rows-where rows k n r =
    first-at (map first rows) k n (λ j h. get_d_map rows j ∙ passes-zero (get_or rows j []) (r.before j h)) (get_d_map rows k ∙ says-number (get_or rows k []) n r.here)

pub rows-only : (rows : List (List Step)) → AllNumbered rows → (n : ℕ) → first_refusal (map first rows) ≡ suc n → (k : ℕ) × RefusedAt rows k (suc n)
rows-only rows a n h =
    let f : (k : ℕ) × ((j : ℕ) → j < k → get_or (map first rows) j 0 ≡ 0) × (get_or (map first rows) k 0 ≡ suc n) = first_found (map first rows) n h in (
      f.0,
      record {
        before = λ j q. zero-passes (get_or rows j []) (numbered-at rows a j) (sym (get_d_map rows j) ∙ f.1 j q);
        here = number-says (get_or rows f.0 []) n (numbered-at rows a f.0) (sym (get_d_map rows f.0) ∙ f.2);
      },
    )

pub rows_pass : (rows : List (List Step)) → ((k : ℕ) → Passes (get_or rows k [])) → first_refusal (map first rows) ≡ 0
rows_pass rows p = first-none (map first rows) (λ k. get_d_map rows k ∙ passes-zero (get_or rows k []) (p k))

pub pass-only : (rows : List (List Step)) → AllNumbered rows → first_refusal (map first rows) ≡ 0 → (k : ℕ) → Passes (get_or rows k [])
pass-only rows a h k = zero-passes (get_or rows k []) (numbered-at rows a k) (sym (get_d_map rows k) ∙ none-refused (map first rows) h k)

-- ---- the rows of a split

module _ (x : Limits) (m : Model) (e : ℕ) (t : Float) where
  numbered-fins : (seen l : List ℕ) → Numbered (fins_steps m e t seen l)
  unfolding fins_steps fin_steps
  numbered-fins seen [] = tt
  numbered-fins seen (i ∷ l) = (omega arith, numbered-append (fin_steps m e t i) (fins_steps m e t (i ∷ seen) l) (omega arith) (numbered-fins (i ∷ seen) l))

  pub numbered-rows : AllNumbered (split_rows x m e t)
  numbered-rows = (tt, (omega arith, (omega arith, (numbered-joined (λ i. 2 when not (has m.fins i) ∷ 7 when (fin m i).pcurve ∷ []) (edge m e).fins (λ i. omega arith), (omega arith, (omega arith, (omega arith, (omega arith, (omega arith, (omega arith, (omega arith, (numbered-fins [] (edge m e).fins, (omega arith, (omega arith, tt))))))))))))))

-- a list of rows refuses at one row
pub one-row : (rows : List (List Step)) (j k n i : ℕ) → RefusedAt rows j n → RefusedAt rows k i → j ≡ k
one-row rows j k n i a b =
    elim (dec_lt j k) [
      | yes l ↦ absurd (false≢true (sym ((b.before j l).none-holds a.here.step) ∙ a.here.here))
      | no g ↦ elim (dec_lt k j) [
        | yes l ↦ absurd (false≢true (sym ((a.before k l).none-holds b.here.step) ∙ b.here.here))
        | no r ↦ omega arith
      ]
    ]

-- ---- answers

module _ {A : Type 0} where
  pub answered-refused : (n k : ℕ) (a : A) → answered k a ≡ refused n → k ≡ n
  answered-refused n zero a h = cc
  answered-refused n (suc k) a h = cc

  pub answered-given : (k : ℕ) (a b : A) → answered k a ≡ given b → k ≡ 0
  answered-given zero a b h = refl
  answered-given (suc k) a b h = cc

  pub given-value : (k : ℕ) (a b : A) → answered k a ≡ given b → a ≡ b
  given-value zero a b h = cc
  given-value (suc k) a b h = absurd (let z : ◌≡◌ {A = ℕ} 0 1 = cc in omega arith)

-- a refused split leaves the model as it was
pub refused-keeps : (x : Limits) (m : Model) (e : ℕ) (t : Float) (n : ℕ) → split_line_edge x m e t ≡ refused n → model_after x m e t ≡ m
unfolding model_after
refused-keeps x m e t n h = go (split_refusal x m e t) h
  where
    go : (k : ℕ) → answered {A = EdgeSplit} k (record { original_edge = e; new_edge = m.edges.used; vertex = m.vertices.used }) ≡ refused n → where_accepted k m (after_split m e t) ≡ m
    go zero h = cc
    go (suc k) h = refl
