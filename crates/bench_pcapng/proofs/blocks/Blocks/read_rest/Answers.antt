-- The end of a block is its effect.
use Rattle.std.proofs.Common.{◌≡◌, ◌≤◌, ◌+◌, ◌∙◌, ℕ, List, Bool, true, false, Some, None, ap, arith, drop, length, refl, subst, sym, take}
use Rattle.std.specs.Prelude.{Ok, if◌then◌else◌, nat_lt}
use Rattle.std.proofs.lemmas.Bool.{ltb-false}
use Rattle.bench_pcapng.specs.Numbers.{number_in}
use Rattle.bench_pcapng.specs.Passing.{inside_of, outcome_in, step_within}
use Rattle.bench_pcapng.specs.Read.{IsBlock}
use Rattle.bench_pcapng.specs.Reading.{place_at}
use Rattle.bench_pcapng.specs.declared.effect.Effect.{Effect}
use Rattle.bench_pcapng.proofs.PacketPlaces.{gives_packet}
use Rattle.bench_pcapng.proofs.Rests.{kept_stands, rest_given}
use Rattle.bench_pcapng.proofs.blocks.Blocks.read_rest.Goals as goal

end_is : (b : Bool) (found end : ℕ) → Some found ≡ (if b then None else Some end) → (b ≡ false) × (found ≡ end)
end_is true found end is = absurd (cc)
end_is false found end is = (refl, cc)

pub returns-in-Ok-Some : goal.returns-in-Ok-Some
returns-in-Ok-Some c =
    let old = c.args.self.now in
    let passing = c.args.passing in
    let bytes = c.args.bytes.now in
    let inside = inside_of passing in
    let ends = end_is (nat_lt (length bytes) (inside + 4)) c.in-Some.end inside c.in-Some.ensures in
    let long : inside + 4 ≤ length bytes = ltb-false _ _ ends.0 in
    let same : number_in 4 passing.order (drop inside bytes) ≡ passing.total =
    ap (λ (n : ℕ). number_in 4 passing.order (drop n bytes)) (sym ends.1)
    ∙ ap (λ (left : List ℕ). number_in 4 passing.order left) (sym c.split_at.ensures.back) ∙ sym c.read_u32.ensures ∙ c.if-read_u32-passing.false in
    let does : outcome_in passing.order passing.outcome (take inside bytes) ≡ Ok c.in-Ok.effect =
    ap (λ (n : ℕ). outcome_in passing.order passing.outcome (take n bytes)) (sym ends.1)
    ∙ ap (λ (left : List ℕ). outcome_in passing.order passing.outcome left) (sym c.split_at.ensures.front) ∙ sym c.in-Ok.ensures in
    let applied = rw c.in-Ok-Some.field-0-is at c.in-Ok-Some.ensures in
    let behind = drop (inside + 4) bytes in
    let yields = applied behind behind in
    let gives = gives_packet (place_at old behind) (place_at c.apply.new.self behind) behind c.in-Ok.effect c.in-Ok-Some.packet yields in
    let is : IsBlock 4 (step_within old passing bytes) bytes (record { length = inside + 4; packet = Some (record { packet = c.in-Ok-Some.packet; start = 0 }) }) c.apply.new.self =
    record {
      some = omega arith;
      within = long;
      comes = (
        rest_given old passing bytes c.in-Ok.effect long same does ∙ yields,
        kept_stands passing bytes c.in-Ok-Some.packet long (does ∙ ap (λ (effect : Effect). Ok effect) gives),
      );
    } in
    subst (λ (n : ℕ). IsBlock 4 (step_within old passing bytes) bytes (record { length = n + 4; packet = Some (record { packet = c.in-Ok-Some.packet; start = 0 }) }) c.apply.new.self) (sym ends.1) is
