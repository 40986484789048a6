-- A split's rows 12 and 13 ask every shell of the table: the shell that is told lists the edge, and so is none of a body of the other office whose edges can be walked. Assumes nothing.
use Prim.Native.Nat.{ℕ, zero, suc, ◌+◌, ◌≤◌, ◌<◌}
use Rattle.std.proofs.Common.{arith, sym, ◌∙◌, subst}
use Rattle.std.specs.Prelude.{◌≡◌, Bool, not, eqb, leb, length, Float}
use Rattle.std.proofs.Math.Path.{refl, ap, ap₂}
use Rattle.std.proofs.Math.Bool.{true, false, cond, ◌&&◌}
use Rattle.std.proofs.lemmas.Bool.{false≢true}
use mathlib.Core.List.{List, [], ◌∷◌, ◌++◌}
use borrow.Author.Tests.{leb-false, ltb-true, eq-eqb}
use Rattle.geom_lines_planes.specs.Refuse.{◌unless◌}
use Rattle.meaning.specs.Lists.{run, member, count, joined}
use Rattle.meaning.specs.Model.{Model, Limits, has, body, shell, edge}
use Rattle.meaning.specs.Refuse.{first_refusal}
use Rattle.meaning.specs.Walks.{shells_of, face_walk, face_edges, edge_walk, edges_refusal}
use Rattle.meaning.specs.Formed.{has_edge}
use Rattle.meaning.specs.Faults.{Class, of_body, of_region, of_shell, of_face, of_loop, of_fin, of_edge, of_vertex}
use Rattle.meaning.specs.Offices.{office_number, foreign, foreign_edge, edge_for}
use Rattle.meaning_list_laws.specs.Tests.{and_both, then-zero, unless-zero}
use Rattle.meaning_list_laws.specs.Lists.{member-counted, member-firsts}
use Rattle.meaning_isolation.specs.Laws.{behind, joined_in, any-in, member-run}
use Rattle.meaning_stops.specs.Stops.{Entity, this, this_curve, this_surface, nothing, Part, part, Row, Stop, first_stop}
use Rattle.meaning_stops.specs.Splits.{row3-fin, row11-fin, row11-fins, row12, row13, row13-loops, row13-shells, split_stops, split_stop}
use Rattle.meaning_stops.proofs.Laws.{stop-accepted}
use Rattle.meaning_stop_laws.specs.Parts.{Each, each_none, each_and, each_append, each-joined, each-mapped, EachRow, rows_none, rows_more, rows-and, told-by}
use Rattle.meaning_stop_laws.specs.Statements.{foreign-edge-is-missing}

abbrev shell_class : Class → Bool
shell_class of_body = false
shell_class of_region = false
shell_class of_shell = true
shell_class of_face = false
shell_class of_loop = false
shell_class of_fin = false
shell_class of_edge = false
shell_class of_vertex = false

abbrev is_shell : Entity → Bool
is_shell (this c i) = shell_class c
is_shell (this_curve i) = false
is_shell (this_surface i) = false
is_shell nothing = false

abbrev id_of : Entity → ℕ
id_of (this c i) = i
id_of (this_curve i) = i
id_of (this_surface i) = i
id_of nothing = 0

-- ---- where a shell is told, Q holds of it

module _ (Q : ℕ → Type 0) where
  pub record Asks (p : Part) : Type 0 where
    pub shell : (s : ℕ) → p.entity ≡ this of_shell s → (p.number ≡ 0 → ⊥) → Q s

  -- another record
  other : (p : Part) → is_shell p.entity ≡ false → Asks p
  other p h = record { shell = λ s e z. absurd (false≢true (sym h ∙ ap is_shell e)) }

  told-shell : (l : List Row) → EachRow Asks l → (s : ℕ) → (first_stop l).entity ≡ this of_shell s → Q s
  told-shell l a s e = go (first_stop l).number refl
    where
      go : (n : ℕ) → (first_stop l).number ≡ n → Q s
      go zero z = absurd (false≢true (ap is_shell (sym (ap (λ (t : Stop). t.entity) (stop-accepted l z)) ∙ e)))
      go (suc n) z =
          let t = told-by Asks l a n z in
          t.holds.shell s (sym (ap (λ (k : Stop). k.entity) t.stop) ∙ e) (λ y. let q = sym (ap (λ (k : Stop). k.number) t.stop) ∙ z in omega (arith, y, q))

  -- ---- the rows of a split: the first eleven tell no shell

  module _ (x : Limits) (m : Model) (asked e : ℕ) (t : Float) where
    fin-asks : (i : ℕ) → Each Asks (row11-fin m e t i)
    unfolding row11-fin
    fin-asks i =
        (each_and Asks (other _ refl)
        (each_and Asks (other _ refl)
        (each_and Asks (other _ refl)
        (each_and Asks (other _ refl)
        (each_and Asks (other _ refl)
        (each_and Asks (other _ refl)
        (each_and Asks (other _ refl) (each_and Asks (other _ refl) (each_and Asks (other _ refl) (each_and Asks (other _ refl) (each_none Asks)))))))))))

    fins-ask : (seen l : List ℕ) → Each Asks (row11-fins m e t seen l)
    unfolding row11-fins
    fins-ask seen [] = each_none Asks
    fins-ask seen (i ∷ l) = (each_and Asks (other _ refl) (each_append Asks (row11-fin m e t i) (row11-fins m e t (i ∷ seen) l) (fin-asks i) (λ _. fins-ask (i ∷ seen) l)))

    -- 12 and 13 are asked where the edge is there
    rows-ask : (has m.edges e ≡ true → Each Asks (row12 m e) × Each Asks (row13 x m e)) → EachRow Asks (split_stops x m asked e t)
    unfolding split_stops first_refusal
    rows-ask a =
        (rows-and Asks (each_and Asks (other _ refl) (each_and Asks (other _ refl) (each_and Asks (other _ refl) (each_none Asks))))
        (rows_more Asks (each_and Asks (other _ refl) (each_none Asks))
        (λ z. (rows-and Asks (each-joined Asks (row3-fin m e) (edge m e).fins (λ i _. (each_and Asks (other _ refl) (each_and Asks (other _ refl) (each_none Asks)))))
        (rows-and Asks (each_and Asks (other _ refl) (each_and Asks (other _ refl) (each_none Asks)))
        (rows-and Asks (each_and Asks (other _ refl) (each_and Asks (other _ refl) (each_and Asks (other _ refl) (each_none Asks))))
        (rows-and Asks (each_and Asks (other _ refl) (each_and Asks (other _ refl) (each_none Asks)))
        (rows-and Asks (each_and Asks (other _ refl) (each_none Asks))
        (rows-and Asks (each_and Asks (other _ refl) (each_and Asks (other _ refl) (each_and Asks (other _ refl) (each_none Asks))))
        (rows-and Asks (each_and Asks (other _ refl) (each_none Asks))
        (rows-and Asks (each_and Asks (other _ refl) (each_and Asks (other _ refl) (each_none Asks)))
        (rows-and Asks (fins-ask [] (edge m e).fins)
        (let there = unless-zero 1 (has m.edges e) (then-zero (2 unless has m.edges e) 0 z).0 in
        (rows-and Asks (a there).0 (rows-and Asks (a there).1 (rows_none Asks))))))))))))))))

-- ---- 12 and 13: the edge is there, and the shell lists it

abbrev Listed : Model → ℕ → ℕ → Type 0
Listed m e s = (has m.edges e ≡ true) × (member e (shell m s).wire_edges ≡ true)

refuses : (n : ℕ) (b : Bool) → (n unless b ≡ 0 → ⊥) → b ≡ false
refuses n true h = absurd (h refl)
refuses n false h = refl

module _ (x : Limits) (m : Model) (e : ℕ) (there : has m.edges e ≡ true) where
  -- a part of the shell i, whose test fails only where the edge is counted in its list
  wired : (k n i : ℕ) (b : Bool) → (b ≡ false → 1 ≤ count e (shell m i).wire_edges) → Asks (Listed m e) (part k (n unless b) (this of_shell i) nothing)
  wired k n i b h = record { shell = λ s q z. subst (Listed m e) (ap id_of q) (there, member-counted e (shell m i).wire_edges (h (refuses n b z))) }

  twelfth : Each (Asks (Listed m e)) (row12 m e)
  twelfth =
      each-mapped (Asks (Listed m e)) _ (run 0 m.shells.used)
      (λ i _. wired 1 1 i (leb (count e (shell m i).wire_edges) 1) (λ q. let more = leb-false (count e (shell m i).wire_edges) 1 q in omega arith))

  -- where no list is longer than it may be
  thirteenth : ((s : ℕ) → length (shell m s).wire_edges ≤ x.shell_wire_edges) → Each (Asks (Listed m e)) (row13 x m e)
  thirteenth fits =
      (each_and (Asks (Listed m e)) (other _ _ refl)
      (each_and (Asks (Listed m e)) (other _ _ refl)
      (each_and (Asks (Listed m e)) (other _ _ refl)
      (each_and (Asks (Listed m e)) (other _ _ refl)
      (each_append (Asks (Listed m e)) (row13-loops x m e) (row13-shells x m e) (each-mapped (Asks (Listed m e)) _ (edge m e).fins (λ i _. other _ _ refl))
      (λ _. each-mapped (Asks (Listed m e)) _ (run 0 m.shells.used)
      (λ i _. wired 6 8 i (leb (length (shell m i).wire_edges + count e (shell m i).wire_edges) x.shell_wire_edges)
      (λ q. let more = leb-false (length (shell m i).wire_edges + count e (shell m i).wire_edges) x.shell_wire_edges q in let fit = fits i in omega arith))))))))

-- ---- "nothing of the other office's records": a shell that is told is none of a body of the other office whose edges can be walked

module _ (x : Limits) (m : Model) (o e : ℕ) (t : Float) (fits : (s : ℕ) → length (shell m s).wire_edges ≤ x.shell_wire_edges) where
  listed : (s : ℕ) → (split_stop x m o e t).entity ≡ this of_shell s → Listed m (edge_for m o e) s
  unfolding split_stop
  listed s q =
      let E = edge_for m o e in
      told-shell (Listed m E) _ (rows-and (Asks (Listed m E)) (each_and (Asks (Listed m E)) (other (Listed m E) _ refl) (each_none (Asks (Listed m E))))
      (rows-ask (Listed m E) x m e E t (λ there. (twelfth x m E there, thirteenth x m E there fits)))) s q

  -- an edge that is in a shell's list of wire edges is in the walk of a body that has the shell
  in-walk : (s c : ℕ) → member e (shell m s).wire_edges ≡ true → member s (shells_of m c) ≡ true → edges_refusal m c ≡ 0 → has_edge m c e ≡ true
  unfolding edge_walk
  in-walk s c wire there walked =
      let faces : List ℕ = joined (face_edges m) (face_walk m c) in
      let wires : List ℕ = joined (λ s. (shell m s).wire_edges) (shells_of m c) in
      ap₂ ◌&&◌ (eq-eqb (edges_refusal m c) 0 walked)
      (member-firsts e (faces ++ wires) ∙ behind e faces wires (joined_in (λ s. (shell m s).wire_edges) (shells_of m c) s e there wire))

  -- and then it is the other's
  in-foreign : (c : ℕ) → foreign m o c ≡ true → has_edge m c e ≡ true → foreign_edge m o e ≡ true
  unfolding foreign_edge
  in-foreign c h g =
      let below : c < m.bodies.used = ltb-true c m.bodies.used (and_both (has m.bodies c) (not (eqb (office_number (body m c).office) o)) h).0 in
      any-in (λ c. foreign m o c && has_edge m c e) (run 0 m.bodies.used) c (member-run m.bodies.used c below) (ap₂ ◌&&◌ h g)

  pub shell-told : (s : ℕ) → (split_stop x m o e t).entity ≡ this of_shell s → (c : ℕ) → foreign m o c ≡ true → edges_refusal m c ≡ 0 → member s (shells_of m c) ≡ false
  unfolding edge_for
  shell-told s q c theirs walked = go (foreign_edge m o e) refl (member s (shells_of m c)) refl
    where
      go : (f : Bool) → foreign_edge m o e ≡ f → (b : Bool) → member s (shells_of m c) ≡ b → member s (shells_of m c) ≡ false
      go true g b r = absurd (false≢true (sym (foreign-edge-is-missing m o e g) ∙ (listed s q).0))
      go false g true r =
          let own : edge_for m o e ≡ e = ap (λ k. cond k m.edges.used e) g in
          absurd (false≢true (sym g ∙ in-foreign c theirs (in-walk s c (subst (λ (k : ℕ). member k (shell m s).wire_edges ≡ true) own (listed s q).1) r walked)))
      go false g false r = r
