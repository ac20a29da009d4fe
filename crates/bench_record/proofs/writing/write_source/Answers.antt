use Rattle.std.proofs.Common.{◌≡◌, ◌∙◌, ◌++◌, [], ℕ, List, Some, codes, ap, map}
use Rattle.std.specs.Borrow.{Bor}
use Rattle.std.specs.Fmt.{decimal}
use Rattle.std.specs.Prelude.{slice_index_or}
use Rattle.bench_record.specs.Text.{remark_of, seconds}
use Rattle.bench_record.specs.declared.captured.Source.{Source}
use Rattle.bench_record.proofs.Parts.{err_as, err_both, joined, ok_as, ok_both, part_first}
use Rattle.bench_record.proofs.writing.write_source.Goals as goal

abbrev name_in : List (Bor (List ℕ)) → Source → List ℕ
name_in names source = slice_index_or (map (λ (name : Bor (List ℕ)). name.now) names) source.capture []

abbrev behind_name : ℕ → Source → List ℕ
behind_name time source = codes " record " ++ decimal source.place ++ codes " " ++ seconds time ++ codes " s\n"

remark_is : (names : List (Bor (List ℕ))) (time : ℕ) (source : Source)
    → (codes "# " ++ name_in names source) ++ behind_name time source ≡ remark_of (map (λ (name : Bor (List ℕ)). name.now) names) time (Some source)
remark_is names time source =
    joined (codes "# ") (name_in names source) (codes " record ") (decimal source.place) (codes " ") (seconds time) (codes " s\n")

pub returns-in_err-write_both-clause-err : goal.returns-in_err-write_both-clause-err
returns-in_err-write_both-clause-err g c =
    let a = g.W.Write.contents c.args.writer.now in
    let b = g.W.Write.contents c.write_both.new.writer in
    let names = c.args.names.now in
    let front = codes "# " ++ name_in names c.args.source in
    let behind = behind_name c.args.time c.args.source in
    err_as c.from_residual.result a b (front ++ behind) _ (remark_is names c.args.time c.args.source)
    (part_first c.from_residual.result a b _ front behind (ap (λ (name : List ℕ). codes "# " ++ name) c.name_of.ensures) c.in_err-write_both.ensures.err)

pub returns-clause-ok : goal.returns-clause-ok
returns-clause-ok g c =
    let a = g.W.Write.contents c.args.writer.now in
    let b = g.W.Write.contents c.write_both.new.writer in
    let d = g.W.Write.contents c.write_whole.new.writer in
    let names = c.args.names.now in
    let front = codes "# " ++ name_in names c.args.source in
    let behind = behind_name c.args.time c.args.source in
    ok_as c.write_whole.result a d (front ++ behind) _ (remark_is names c.args.time c.args.source)
    (ok_both c.write_whole.result a b d _ _ front behind (ap (λ (name : List ℕ). codes "# " ++ name) c.name_of.ensures) (c.deref.ensures.0 ∙ c.place_of.ensures)
    c.in_ok-write_both.ensures.ok c.write_whole.ensures.ok)

pub returns-clause-err : goal.returns-clause-err
returns-clause-err g c =
    let a = g.W.Write.contents c.args.writer.now in
    let b = g.W.Write.contents c.write_both.new.writer in
    let d = g.W.Write.contents c.write_whole.new.writer in
    let names = c.args.names.now in
    let front = codes "# " ++ name_in names c.args.source in
    let behind = behind_name c.args.time c.args.source in
    err_as c.write_whole.result a d (front ++ behind) _ (remark_is names c.args.time c.args.source)
    (err_both c.write_whole.result a b d _ _ front behind (ap (λ (name : List ℕ). codes "# " ++ name) c.name_of.ensures) (c.deref.ensures.0 ∙ c.place_of.ensures)
    c.in_ok-write_both.ensures.ok c.write_whole.ensures.err)
