use Rattle.std.proofs.Common.{◌≡◌, ◌∙◌, ℕ, Bool, List, drop, length, min, take, ap, arith}
use Rattle.std.proofs.lemmas.List.{drop_min, take_min}
use Rattle.bench_history.specs.declared.extent.Extent.{Extent}
use Rattle.bench_record.specs.Cores.{Core, behind_tags, known_behind}
use Rattle.bench_record.proofs.frame_core.core_of.Goals as goal

abbrev core_by : Bool → Extent → List ℕ → List ℕ → Core
core_by padded extent addresses rest = record { padded = padded; extent = extent; addresses = addresses; rest = rest }

pub returns : goal.returns
returns c =
    let frame : List ℕ = c.args.frame.now in
    let extent : Extent = c.args.extent in
    let tpids : List ℕ = c.args.tpids.now in
    let padded = c.args.padded in
    let many : c.min.result ≡ min 12 (length frame) = omega arith in
    let addresses : c.split_at.result.0.now ≡ take 12 frame = c.split_at.ensures.front ∙ ap (λ k. take k frame) many ∙ take_min 12 frame in
    let behind : c.split_at.result.1.now ≡ drop 12 frame = c.split_at.ensures.back ∙ ap (λ k. drop k frame) many ∙ drop_min 12 frame in
    let rest : c.known_behind.result.now ≡ known_behind tpids extent (behind_tags tpids (drop 12 frame)) =
    c.known_behind.ensures
    ∙ ap (λ (xs : List ℕ). known_behind tpids extent xs) (c.behind_tags.ensures ∙ ap (λ (xs : List ℕ). behind_tags tpids xs) behind) in
    ap (λ (xs : List ℕ). core_by padded extent xs c.known_behind.result.now) addresses ∙ ap (λ (xs : List ℕ). core_by padded extent (take 12 frame) xs) rest
