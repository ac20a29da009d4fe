-- The records stand behind the header.
use Rattle.std.proofs.Common.{◌≡◌, ◌∙◌, ℕ, List, Err, Ok, ap, drop, subst, sym}
use Rattle.capture.specs.Listed.{IsWhyNoFrames, IsWhyNoList}
use Rattle.capture.specs.Records.{capture_of, first_fault, frames_in, header_of}
use Rattle.capture.specs.declared.listed.ListFault.{ListFault}
use Rattle.capture_pieces.specs.Cut.{Cut}
use Rattle.capture_pieces.specs.declared.piece.Piece.{Piece}
use Rattle.capture_pieces.specs.Joined.{file_of}
use Rattle.capture.proofs.Unlisted.{why_no_list}
use Rattle.capture_pieces.proofs.Files.{broken_header, err_then, ok_both, whole_file}
use Rattle.capture_pieces.proofs.pieces.Pieces.cut.Goals as goal

pub returns-in-Err-clause-fault : goal.returns-in-Err-clause-fault
returns-in-Err-clause-fault c =
    let file : List ℕ = file_of c.self.inside.pieces.items in
    let header : header_of file ≡ Err c.in-Err.fault = ap (λ (l : List Piece). header_of (file_of l)) (sym c.deref.ensures.value) ∙ sym c.in-Err.ensures in
    ap (λ (l : List ℕ). capture_of l) (sym c.self.view_is) ∙ broken_header file c.in-Err.fault header

pub returns-clause-frames : goal.returns-clause-frames
returns-clause-frames c =
    let file : List ℕ = file_of c.self.inside.pieces.items in
    let order = c.in-Ok.order in
    let header : header_of file ≡ Ok order = ap (λ (l : List Piece). header_of (file_of l)) (sym c.deref.ensures.value) ∙ sym c.in-Ok.ensures in
    let records : c.from_place-records.result ≡ drop 24 file = c.from_place-records.ensures ∙ ap (λ (l : List Piece). drop 24 (file_of l)) c.deref-2.ensures.value in
    ok_both c.cut.result _ _ (λ (cut : Cut). capture_of c.args.self.now ≡ Ok cut.frames) c.cut.ensures.whole c.cut.ensures.cut (λ cut whole is.
    ap (λ (l : List ℕ). capture_of l) (sym c.self.view_is)
    ∙ whole_file file order header (ap (λ (l : List ℕ). first_fault order l) (sym records) ∙ whole)
    ∙ ap (λ (l : List ℕ). Ok (frames_in order l)) (sym records) ∙ ap (λ (x : Cut). Ok x.frames) (sym is))

pub returns-clause-fault : goal.returns-clause-fault
returns-clause-fault c =
    let file : List ℕ = file_of c.self.inside.pieces.items in
    let order = c.in-Ok.order in
    let header : header_of file ≡ Ok order = ap (λ (l : List Piece). header_of (file_of l)) (sym c.deref.ensures.value) ∙ sym c.in-Ok.ensures in
    let records : c.from_place-records.result ≡ drop 24 file = c.from_place-records.ensures ∙ ap (λ (l : List Piece). drop 24 (file_of l)) c.deref-2.ensures.value in
    err_then c.cut.result _ (λ (fault : ListFault). IsWhyNoList c.args.self.now fault) c.cut.ensures.fault (λ fault why.
    subst (λ (l : List ℕ). IsWhyNoList l fault) c.self.view_is
    (why_no_list file order fault header (subst (λ (l : List ℕ). IsWhyNoFrames order l fault) records why)))
