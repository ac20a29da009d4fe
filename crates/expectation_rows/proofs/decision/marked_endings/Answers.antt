use Rattle.std.proofs.Common.{◌≡◌, List, [], ◌∷◌, arith, get_or, length, map, refl}
use Rattle.frame_rows.specs.declared.class.Ending.{Ending}
use Rattle.expectation_rows.proofs.decision.marked_endings.Goals as goal

-- each of eight, one by one
each_of : (f : Ending → Ending) (xs : List Ending) (d : Ending) → length xs ≡ 8
    → (f (get_or xs 0 d) ∷ f (get_or xs 1 d) ∷ f (get_or xs 2 d) ∷ f (get_or xs 3 d) ∷ f (get_or xs 4 d) ∷ f (get_or xs 5 d) ∷ f (get_or xs 6 d)
    ∷ f (get_or xs 7 d) ∷ [])
    ≡ map f xs
each_of f [] d h = absurd (omega arith)
each_of f (x ∷ []) d h = absurd (omega arith)
each_of f (x ∷ x1 ∷ []) d h = absurd (omega arith)
each_of f (x ∷ x1 ∷ x2 ∷ []) d h = absurd (omega arith)
each_of f (x ∷ x1 ∷ x2 ∷ x3 ∷ []) d h = absurd (omega arith)
each_of f (x ∷ x1 ∷ x2 ∷ x3 ∷ x4 ∷ []) d h = absurd (omega arith)
each_of f (x ∷ x1 ∷ x2 ∷ x3 ∷ x4 ∷ x5 ∷ []) d h = absurd (omega arith)
each_of f (x ∷ x1 ∷ x2 ∷ x3 ∷ x4 ∷ x5 ∷ x6 ∷ []) d h = absurd (omega arith)
each_of f (x ∷ x1 ∷ x2 ∷ x3 ∷ x4 ∷ x5 ∷ x6 ∷ x7 ∷ []) d h = refl
each_of f (x ∷ x1 ∷ x2 ∷ x3 ∷ x4 ∷ x5 ∷ x6 ∷ x7 ∷ x8 ∷ rest) d h = absurd (omega arith)

pub returns : goal.returns
returns c =
    rw (
      c.marked.ensures,
      c.marked-2.ensures,
      c.marked-3.ensures,
      c.marked-4.ensures,
      c.marked-5.ensures,
      c.marked-6.ensures,
      c.marked-7.ensures,
      c.marked-8.ensures,
    )
    (each_of _ c.args.endings.now _ c.told-endings)
