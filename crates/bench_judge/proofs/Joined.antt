-- Runs of versions, when one more version comes.
use Rattle.std.proofs.Common.{◌≡◌, ℕ, zero, suc, ◌+◌, ◌<◌, ◌≤◌, List, [], ◌∷◌, ◌++◌, length, set, get_or, Some, slice_get, refl, ap, sym, subst, ◌∙◌, arith, inl, inr}
use Rattle.std.proofs.lemmas.Bool.{cases_lt}
use Rattle.std.proofs.lemmas.Option.{slice_get-get_or}
use Rattle.frame_meaning.specs.declared.verdict.Verdict.{Verdict}
use Rattle.frame_meaning.specs.declared.verdict.Verdict.TheVariants.{Forward, Drop}
use Rattle.bench_judge.specs.Judged.{AreRunsUpTo, AreSameAnswers, Differs, IsAnswer, IsRun}
use Rattle.bench_judge.specs.declared.judgement.Run.{Run}
use Rattle.bench_judge.specs.declared.judgement.Answer.{Answer}
use Rattle.bench_judge.specs.declared.judgement.Answer.TheVariants.{Left, Dropped}

-- the same answer answers the same
pub same_answer : (verdict : Verdict) (sent : List ℕ) (one other : Answer) → AreSameAnswers sent one other → IsAnswer verdict sent other → IsAnswer verdict sent one
same_answer (Forward gem frame) sent (Left l) (Left m) same is = (is.0 ∙ sym same.0, is.1 ∙ sym same.1)
same_answer (Forward gem frame) sent (Left l) (Dropped reason) same is = absurd same
same_answer (Forward gem frame) sent (Dropped reason) (Left m) same is = absurd same
same_answer (Forward gem frame) sent (Dropped reason) (Dropped other) same is = is
same_answer (Drop reason) sent (Left l) (Left m) same is = is
same_answer (Drop reason) sent (Left l) (Dropped other) same is = absurd same
same_answer (Drop reason) sent (Dropped given) (Left m) same is = absurd same
same_answer (Drop reason) sent (Dropped given) (Dropped other) same is = is ∙ sym same

module _ (verdicts : ℕ → Verdict) (sent : List ℕ) where
  -- the run of one version
  one_version : (version : ℕ) (answer : Answer) → IsAnswer (verdicts version) sent answer → IsRun verdicts sent (record { from = version; to = version; answer = answer })
  one_version version answer is v le ge = subst (λ w. IsAnswer (verdicts w) sent answer) (both version v le ge) is
    where
      both : (a b : ℕ) → a ≤ b → b ≤ a → a ≡ b
      both a b le ge = omega (arith, le, ge)

  -- a run more, where the last has another answer
  pub pushed : (runs : List Run) (from version : ℕ) (answer : Answer)
      → ((i : ℕ) (last : Run) → slice_get runs i ≡ Some last → i + 1 ≡ length runs → AreSameAnswers sent last.answer answer → ⊥)
      → AreRunsUpTo verdicts sent from version runs → IsAnswer (verdicts version) sent answer
      → AreRunsUpTo verdicts sent from (version + 1) (runs ++ (record { from = version; to = version; answer = answer }) ∷ [])
  pushed [] from version answer other are is = (sym are, omega (arith, are), one_version version answer is, tt, refl)
  pushed (x ∷ []) from version answer other are is =
      (are.0, are.1, are.2, other zero x refl refl, pushed [] (x.to + 1) version answer (λ i last at len. absurd (cc at)) are.4 is)
  pushed (x ∷ y ∷ runs) from version answer other are is =
      (are.0, are.1, are.2, are.3, pushed (y ∷ runs) (x.to + 1) version answer (λ i last at len. other (suc i) last at (omega (arith, len))) are.4 is)

  differs_set : (x : Run) (runs : List Run) (i : ℕ) (last : Run) (to : ℕ) → slice_get runs i ≡ Some last
      → Differs sent x runs → Differs sent x (set runs i (record last { to = to }))
  differs_set x [] i last to at differs = absurd (cc at)
  differs_set x (y ∷ runs) zero last to at differs = let same : y ≡ last = cc at in subst (λ (z : Run). AreSameAnswers sent x.answer z.answer → ⊥) same differs
  differs_set x (y ∷ runs) (suc i) last to at differs = differs

  longer : (run : Run) (version : ℕ) → run.to + 1 ≡ version → IsRun verdicts sent run → IsAnswer (verdicts version) sent run.answer
      → IsRun verdicts sent (record run { to = version })
  longer run version next is answer v le ge =
      elim (cases_lt v version) [
        | inl under ↦ is v le (omega (arith, next, under))
        | inr over ↦ subst (λ w. IsAnswer (verdicts w) sent run.answer) (both version v over ge) answer
      ]
    where
      both : (a b : ℕ) → a ≤ b → b ≤ a → a ≡ b
      both a b le ge = omega (arith, le, ge)

  -- the last run made longer, where it has the same answer
  pub extended : (runs : List Run) (from version i : ℕ) (last : Run) → slice_get runs i ≡ Some last → i + 1 ≡ length runs
      → AreRunsUpTo verdicts sent from version runs → IsAnswer (verdicts version) sent last.answer
      → AreRunsUpTo verdicts sent from (version + 1) (set runs i (record last { to = version }))
  extended [] from version i last at len are answer = absurd (cc at)
  extended (x ∷ []) from version zero last at len are answer =
      let same : x ≡ last = cc at in
      let next : x.to + 1 ≡ version = are.4 in
      subst (λ (z : Run). AreRunsUpTo verdicts sent from (version + 1) ((record z { to = version }) ∷ [])) same
      (are.0, omega (arith, next, are.1), longer x version next are.2 (subst (λ (z : Run). IsAnswer (verdicts version) sent z.answer) (sym same) answer), tt, refl)
  extended (x ∷ []) from version (suc i) last at len are answer = absurd (omega (arith, len))
  extended (x ∷ y ∷ runs) from version zero last at len are answer = absurd (omega (arith, len))
  extended (x ∷ y ∷ runs) from version (suc i) last at len are answer = (
    are.0,
    are.1,
    are.2,
    differs_set x (y ∷ runs) i last version at are.3,
    extended (y ∷ runs) (x.to + 1) version i last at (omega (arith, len)) are.4 answer,
  )

-- runs don't end before they begin
up_to_le : (verdicts : ℕ → Verdict) (sent : List ℕ) (from next : ℕ) (runs : List Run) → AreRunsUpTo verdicts sent from next runs → from ≤ next
up_to_le verdicts sent from next [] are = omega (arith, are)
up_to_le verdicts sent from next (x ∷ runs) are = let rest = up_to_le verdicts sent (x.to + 1) next runs are.4 in omega (arith, are.1, rest)

-- by the same verdicts they are the same
pub same_runs : (one other : ℕ → Verdict) (sent : List ℕ) (from next : ℕ) (runs : List Run) → ((v : ℕ) → v < next → one v ≡ other v)
    → AreRunsUpTo one sent from next runs → AreRunsUpTo other sent from next runs
same_runs one other sent from next [] same are = are
same_runs one other sent from next (x ∷ runs) same are =
    let end : x.to + 1 ≤ next = up_to_le one sent (x.to + 1) next runs are.4 in (
      are.0,
      are.1,
      (λ v le ge. subst (λ w. IsAnswer w sent x.answer) (same v (omega (arith, ge, end))) (are.2 v le ge)),
      are.3,
      same_runs one other sent (x.to + 1) next runs same are.4,
    )

-- what is read at a place stands there
pub one_read : (runs : List Run) (i : ℕ) (run d : Run) → i < length runs → run ≡ get_or runs i d → slice_get runs i ≡ Some run
one_read runs i run d within is = slice_get-get_or runs i d within ∙ ap Some (sym is)

pub same_run : (one other : Run) → Some one ≡ Some other → one ≡ other
same_run one other is = cc is
