use Rattle.std.proofs.Common.{◌∷◌, ◌++◌, [], List, ap, map, subst, sym, take, ◌∙◌}
use Rattle.std.specs.Prelude.{All, IsTrue}
use Rattle.std.proofs.lemmas.List.{map_more}
use Rattle.std.proofs.lemmas.List.Elements.{All-push}
use Rattle.frame_rows.specs.declared.row.Row.{Row}
use Rattle.frame_rows.specs.Fits.{row_fits}
use Rattle.frame_sameness.specs.UseRows.{use_row}
use Rattle.frame_sameness.proofs.sameness.use_rows.Goals as goal

pub loop-row-preserved : goal.loop-row-preserved
loop-row-preserved c =
    let rows = c.args.rows.now in
    let i = c.loop-row.row-index in
    record {
      is =
          c.in_ok-push.ensures.items ∙ ap (λ (xs : List Row). xs ++ c.use_row.result ∷ []) c.loop-row.invariant.is
          ∙ ap (λ (row : Row). map use_row (take i rows) ++ row ∷ []) c.use_row.ensures.is ∙ sym (map_more use_row rows i _ c.loop-row-test.true);
      fit = λ input all.
          subst (All (λ (row : Row). IsTrue (row_fits input row))) (sym c.in_ok-push.ensures.items)
          (All-push (λ (row : Row). IsTrue (row_fits input row)) c.loop-row.uses.items c.use_row.result (c.loop-row.invariant.fit input all)
          (c.use_row.ensures.fits input (all i _ c.loop-row-test.true)));
    }
