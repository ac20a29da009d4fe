use Rattle.std.proofs.Common.{◌≡◌, ◌++◌, ◌==◌, ◌∙◌, ℕ, List, Option, is_some, true, false, ap, sym, arith}
use Rattle.std.proofs.lemmas.Grind.{common_steps}
use Rattle.bench_history.specs.History.{is_among}
use Rattle.bench_history.proofs.Placed.{behind_is, front_is, in_parts, neither_is, placed}
use Rattle.bench_history.proofs.doubts.place_behind.Goals as goal

pub returns-in-Some : goal.returns-in-Some
returns-in-Some c =
    let n : ℕ = c.args.number in
    let front : List ℕ = c.split_at.result.0.now in
    let behind : List ℕ = c.split_at.result.1.now in
    let whole : c.args.frames.now ≡ front ++ behind = grind (arith, common_steps) in
    let found : true ≡ is_among behind n = ap (λ (o : Option ℕ). is_some o) (sym c.in-Some.is ∙ c.place_of.ensures) ∙ placed (λ (m : ℕ). m == n) behind in
    behind_is (is_among front n) (is_among behind n) found ∙ sym (in_parts n front behind c.args.frames.now whole)

pub returns-in-Some-place_of : goal.returns-in-Some-place_of
returns-in-Some-place_of c =
    let n : ℕ = c.args.number in
    let front : List ℕ = c.split_at.result.0.now in
    let behind : List ℕ = c.split_at.result.1.now in
    let whole : c.args.frames.now ≡ front ++ behind = grind (arith, common_steps) in
    let found : true ≡ is_among front n =
    ap (λ (o : Option ℕ). is_some o) (sym c.in-Some-place_of.is ∙ c.place_of-2.ensures) ∙ placed (λ (m : ℕ). m == n) front in
    front_is (is_among front n) (is_among behind n) found ∙ sym (in_parts n front behind c.args.frames.now whole)

pub returns-in-None : goal.returns-in-None
returns-in-None c =
    let n : ℕ = c.args.number in
    let front : List ℕ = c.split_at.result.0.now in
    let behind : List ℕ = c.split_at.result.1.now in
    let whole : c.args.frames.now ≡ front ++ behind = grind (arith, common_steps) in
    let none : false ≡ is_among front n = ap (λ (o : Option ℕ). is_some o) (sym c.in-None.is ∙ c.place_of-2.ensures) ∙ placed (λ (m : ℕ). m == n) front in
    let neither : false ≡ is_among behind n = ap (λ (o : Option ℕ). is_some o) (sym c.in_default.is ∙ c.place_of.ensures) ∙ placed (λ (m : ℕ). m == n) behind in
    neither_is (is_among front n) (is_among behind n) none neither ∙ sym (in_parts n front behind c.args.frames.now whole)
