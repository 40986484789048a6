-- "It accepts exactly the bodies for which all rules hold and otherwise names the first broken rule of this list and the first entity in walk order that breaks it" (W-212). Assumes nothing.
use Rattle.std.specs.Prelude.{ℕ, zero, suc, ◌+◌, ◌≡◌, refl, Bool, true, false, List, [], ◌∷◌, ◌++◌, eqb, length}
use Rattle.std.proofs.Common.{arith, sym, ap, ◌∙◌}
use Rattle.std.proofs.lemmas.Bool.{false≢true}
use Rattle.geom_lines_planes.specs.Refuse.{◌unless◌, ◌then◌}
use Rattle.meaning.specs.Lists.{all, every}
use Rattle.meaning.specs.Model.{Model}
use Rattle.meaning.specs.Refuse.{first_of, first_refusal}
use Rattle.meaning.specs.Walks.{face_walk, edge_walk, vertex_walk}
use Rattle.meaning.specs.Inquire.{rim}
use Rattle.meaning_list_laws.specs.Tests.{and_both, then-zero}
use Rattle.meaning_slabs.specs.Slabs.{steps, closed, along_normal, one_loop, ends_at, along_axis, grid_vertex, level_face, first_broken, broken_fin, rules, Verdict, accepted, broken, judged, verdict, is_accepted}

-- ---- one rule over a walk

held : (x : ℕ) (t : Bool) → (suc x unless t) ≡ 0 → t ≡ true
held x true h = refl
held x false h = absurd (omega arith)

-- no number is told exactly where the rule holds of all
pub none-broken : (p : ℕ → Bool) (l : List ℕ) → first_broken p l ≡ 0 → all p l ≡ true
unfolding first_of all
none-broken p [] e = refl
none-broken p (x ∷ l) e = let both = then-zero (suc x unless p x) (first_broken p l) e in rw (held x (p x) both.0) (none-broken p l both.1)

pub all_hold : (p : ℕ → Bool) (l : List ℕ) → all p l ≡ true → first_broken p l ≡ 0
unfolding first_of all
all_hold p [] e = refl
all_hold p (x ∷ l) e = let both = and_both (p x) (all p l) e in rw both.0 (all_hold p l both.1)

-- "the first entity in walk order that breaks it": all in front of it keep the rule
pub record FirstOf (p : ℕ → Bool) (walk : List ℕ) (x : ℕ) : Type 0 where
  pub front : List ℕ
  pub back : List ℕ
  pub listed : walk ≡ front ++ (x ∷ back)
  pub kept : all p front ≡ true
  pub breaks : p x ≡ false

pub first-named : (p : ℕ → Bool) (l : List ℕ) (x : ℕ) → first_broken p l ≡ suc x → FirstOf p l x
unfolding first_of all
first-named p [] x e = absurd (omega arith)
first-named p (y ∷ l) x e = by (p y) refl e (first-named p l x)
  where
    by : (t : Bool) → p y ≡ t → (suc y unless t then first_broken p l) ≡ suc x → (first_broken p l ≡ suc x → FirstOf p l x) → FirstOf p (y ∷ l) x
    by true q h rest = let r = rest h in record { front = y ∷ r.front; back = r.back; listed = ap (λ t. y ∷ t) r.listed; kept = rw q r.kept; breaks = r.breaks }
    by false q h rest = let same : y ≡ x = omega (arith, h) in record { front = []; back = l; listed = ap (λ t. t ∷ l) same; kept = refl; breaks = ap p (sym same) ∙ q }

-- "each fin ends where the next starts", of a face
abbrev pub closed_face : Model → ℕ → Bool
closed_face m f = every (steps (ends_at m) (closed (rim m f)))

fins-meet : (m : Model) (l : List ℕ) → first_refusal (steps (λ i j. suc i unless ends_at m i j) l) ≡ 0 → every (steps (ends_at m) l) ≡ true
unfolding steps first_refusal every
fins-meet m [] e = refl
fins-meet m (i ∷ []) e = refl
fins-meet m (i ∷ j ∷ l) e =
    let both = then-zero (suc i unless ends_at m i j) (first_refusal (steps (λ i j. suc i unless ends_at m i j) (j ∷ l))) e in
    rw (held i (ends_at m i j) both.0) (fins-meet m (j ∷ l) both.1)

meet-none : (m : Model) (l : List ℕ) → every (steps (ends_at m) l) ≡ true → first_refusal (steps (λ i j. suc i unless ends_at m i j) l) ≡ 0
unfolding steps first_refusal every
meet-none m [] e = refl
meet-none m (i ∷ []) e = refl
meet-none m (i ∷ j ∷ l) e = let both = and_both (ends_at m i j) (every (steps (ends_at m) (j ∷ l))) e in rw both.0 (meet-none m (j ∷ l) both.1)

faces-meet : (m : Model) (l : List ℕ) → first_of (broken_fin m) l ≡ 0 → all (closed_face m) l ≡ true
unfolding first_of all broken_fin
faces-meet m [] e = refl
faces-meet m (f ∷ l) e = let both = then-zero (broken_fin m f) (first_of (broken_fin m) l) e in rw (fins-meet m (closed (rim m f)) both.0) (faces-meet m l both.1)

none_open : (m : Model) (l : List ℕ) → all (closed_face m) l ≡ true → first_of (broken_fin m) l ≡ 0
unfolding first_of all broken_fin
none_open m [] e = refl
none_open m (f ∷ l) e = let both = and_both (closed_face m f) (all (closed_face m) l) e in rw (meet-none m (closed (rim m f)) both.0) (none_open m l both.1)

-- ---- all rules

judged-more : (k n : ℕ) (l : List ℕ) → judged k (n ∷ l) ≡ accepted → (n ≡ 0) × (judged (suc k) l ≡ accepted)
unfolding judged
judged-more k zero l e = (refl, e)
judged-more k (suc x) l e = absurd (false≢true (ap is_accepted e))

pub record Rules (m : Model) (b : ℕ) : Type 0 where
  pub normals : all (along_normal m) (face_walk m b) ≡ true
  pub loops : all (one_loop m) (face_walk m b) ≡ true
  pub fins : all (closed_face m) (face_walk m b) ≡ true
  pub edges : all (along_axis m) (edge_walk m b) ≡ true
  pub grid : all (grid_vertex m) (vertex_walk m b) ≡ true
  pub corners : all (level_face m) (face_walk m b) ≡ true

pub accepted-holds : (m : Model) (b : ℕ) → verdict m b ≡ accepted → Rules m b
unfolding verdict rules
accepted-holds m b e =
    let one = judged-more 1 _ _ e in
    let two = judged-more 2 _ _ one.1 in
    let three = judged-more 3 _ _ two.1 in
    let four = judged-more 4 _ _ three.1 in
    let five = judged-more 5 _ _ four.1 in
    let six = judged-more 6 _ _ five.1 in
    record {
      normals = none-broken (along_normal m) (face_walk m b) one.0;
      loops = none-broken (one_loop m) (face_walk m b) two.0;
      fins = faces-meet m (face_walk m b) three.0;
      edges = none-broken (along_axis m) (edge_walk m b) four.0;
      grid = none-broken (grid_vertex m) (vertex_walk m b) five.0;
      corners = none-broken (level_face m) (face_walk m b) six.0;
    }

pub holds-accepted : (m : Model) (b : ℕ) → Rules m b → verdict m b ≡ accepted
unfolding verdict rules judged
holds-accepted m b r =
    rw (all_hold (along_normal m) (face_walk m b) r.normals, all_hold (one_loop m) (face_walk m b) r.loops, none_open m (face_walk m b) r.fins, all_hold (along_axis m) (edge_walk m b) r.edges, all_hold (grid_vertex m) (vertex_walk m b) r.grid, all_hold (level_face m) (face_walk m b) r.corners)

broken-parts : (k x k' x' : ℕ) → broken k x ≡ broken k' x' → (k ≡ k') × (x ≡ x')
broken-parts k x k' x' e = (ap rule e, ap entity e)
  where
    rule : Verdict → ℕ
    rule accepted = 0
    rule (broken k x) = k

    entity : Verdict → ℕ
    entity accepted = 0
    entity (broken k x) = x

-- "the first broken rule of this list", numbered from j: its number tells the entity, and those in front of it tell none
pub record From (j : ℕ) (l : List ℕ) (k x : ℕ) : Type 0 where
  pub front : List ℕ
  pub back : List ℕ
  pub numbers : l ≡ front ++ (suc x ∷ back)
  pub rule : k ≡ j + length front
  pub earlier : all (λ n. eqb n 0) front ≡ true

from : (j : ℕ) (l : List ℕ) (k x : ℕ) → judged j l ≡ broken k x → From j l k x
unfolding judged all
from j [] k x e = absurd (false≢true (sym (ap is_accepted e)))
from j (zero ∷ l) k x e = let r = from (suc j) l k x e in record { front = 0 ∷ r.front; back = r.back; numbers = ap (λ t. 0 ∷ t) r.numbers; rule = omega (arith, r.rule); earlier = r.earlier }
from j (suc y ∷ l) k x e = let s = broken-parts j y k x e in record { front = []; back = l; numbers = ap (λ n. suc n ∷ l) s.1; rule = omega (arith, s.0); earlier = refl }

pub broken-first : (m : Model) (b k x : ℕ) → verdict m b ≡ broken k x → From 1 (rules m b) k x
unfolding verdict
broken-first m b k x e = from 1 (rules m b) k x e
