-- `inquire_corners::wedge` meets its contract. Assumes nothing.
use mathlib.Core.Path.{◌∙◌, ap, sym, subst}
use borrow.Author.Rules.{rules}
use Rattle.meaning_sheets.specs.Sheets.{wedge, dot_c, cross_c}
use Rattle.meaning_sheet_laws.specs.Sizes.{Within, minus-within, cross-within}
use Rattle.inquire_corners.specs.Seen.{seen}
use Rattle.inquire_corners.specs.Machines.{read-wedge}
use Rattle.inquire_corners.proofs.wedge.Goals as goal

pub cross-requires : goal.cross-requires
cross-requires c =
    let s = c in (
      subst (Within 65536) (sym c.minus.ensures) (minus-within (seen s.args.p) (seen s.args.o) s.requires.1 s.requires.0),
      subst (Within 65536) (sym c.minus-2.ensures) (minus-within (seen s.args.q) (seen s.args.o) s.requires.2 s.requires.0),
    )

pub dot-requires : goal.dot-requires
dot-requires c =
    let s = c in
    let e = c.cross.ensures ∙ ap (λ v. cross_c v (seen c.minus-2.result)) c.minus.ensures ∙ ap (cross_c _) c.minus-2.ensures in
    (s.requires.0, subst (Within 8589934592) (sym e) (cross-within _ _ (minus-within (seen s.args.p) (seen s.args.o) s.requires.1 s.requires.0) (minus-within (seen s.args.q) (seen s.args.o) s.requires.2 s.requires.0)))

pub returns : goal.returns
unfolding wedge
returns c =
    let s = c in
    read-wedge _ (seen s.args.o) (seen s.args.p) (seen s.args.q)
    (c.dot.ensures ∙ ap (dot_c (seen s.args.o)) (c.cross.ensures ∙ ap (λ v. cross_c v (seen c.minus-2.result)) c.minus.ensures ∙ ap (cross_c _) c.minus-2.ensures))
    s.requires.0 s.requires.1 s.requires.2
