-- The options that are held are those of the bytes that are left.
use Rattle.std.proofs.Common.{◌≡◌, ◌≤◌, ◌<◌, ◌⊎◌, ◌+◌, ◌∙◌, inl, inr, ℕ, List, ap, arith, length, length-take, sym, take}
use Rattle.std.specs.Prelude.{min}
use Rattle.std.proofs.lemmas.Bool.{cases_lt}
use Rattle.std.proofs.lemmas.List.{take_min}
use Rattle.bench_pcapng.specs.Passing.{kept_of, letting_by, letting_of, letting_option}
use Rattle.bench_pcapng.specs.declared.outcome.Outcome.{Outcome}
use Rattle.bench_pcapng.proofs.Held.{all_held}
use Rattle.bench_pcapng.proofs.LettingGo.{letting_other, rest_does_as_held}
use Rattle.bench_pcapng.proofs.passing.Passing.let_go.Goals as goal

pub returns-in-Describing-clause-value : goal.returns-in-Describing-clause-value
unfolding letting_of
returns-in-Describing-clause-value c =
    c.let_option_go.ensures.value
    ∙ ap (λ (options : List ℕ). letting_option c.args.self c.in-Describing.plain options)
    (c.split_at.ensures.front ∙ ap (λ (n : ℕ). take n c.args.bytes.now) c.min.ensures ∙ take_min c.args.self.left c.args.bytes.now)
    ∙ ap (λ (outcome : Outcome). letting_by c.args.self outcome c.args.bytes.now) (sym c.in-Describing.is)

-- options are let go until few of them are held
held_few : (left size held kept : ℕ) → kept ≡ 0 → held ≡ min left size → held < 65540 → (kept + left + 4 ≤ size) ⊎ (size < 262176)
held_few left size held kept none all few = elim (cases_lt size (kept + left + 4)) [
  | inl short ↦ inr (omega (arith, short, none, all, few))
  | inr long ↦ inl long
]

pub returns-in-Describing-clause-held : goal.returns-in-Describing-clause-held
returns-in-Describing-clause-held c = λ few none.
    let kept : kept_of c.args.self.outcome ≡ 0 = ap (λ (outcome : Outcome). kept_of outcome) c.in-Describing.is in
    let size : length c.split_at.result.0.now ≡ min c.args.self.left (length c.args.bytes.now) =
    ap length c.split_at.ensures.front ∙ length-take c.min.result c.args.bytes.now ∙ (let a : min c.min.result (length c.args.bytes.now) ≡ min c.args.self.left (length c.args.bytes.now) = omega (arith, c.min.ensures) in a) in
    held_few c.args.self.left (length c.args.bytes.now) (length c.split_at.result.0.now) (kept_of c.args.self.outcome) kept size (c.let_option_go.ensures.few none)

pub returns-in-Describing-clause-same : goal.returns-in-Describing-clause-same
returns-in-Describing-clause-same c = rest_does_as_held c.args.self c.args.bytes.now _ (returns-in-Describing-clause-value c)

pub returns-in_default-clause-value : goal.returns-in_default-clause-value
unfolding letting_of
returns-in_default-clause-value c =
    c.let_all_go.ensures ∙ sym (letting_other c.args.self c.args.self.outcome c.args.bytes.now c.in_default.not-Describing)

pub returns-in_default-clause-same : goal.returns-in_default-clause-same
returns-in_default-clause-same c = rest_does_as_held c.args.self c.args.bytes.now _ (returns-in_default-clause-value c)

pub returns-in_default-clause-held : goal.returns-in_default-clause-held
returns-in_default-clause-held c = λ few none. all_held c.args.self c.args.bytes.now few (sym c.let_all_go.ensures ∙ none)
