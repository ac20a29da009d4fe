-- What is found of a history is what its number and its line say.
use Rattle.std.proofs.Common.{◌≡◌, ◌∙◌, ◌⊎◌, ◌<◌, ℕ, ℤ, pos, Bool, true, false, ◌||◌, List, [], ◌∷◌, Ok, Vec, Global, length, refl, ap, sym, subst, inl, inr, arith, to_z, of_z, w32}
use Rattle.omci_msg.specs.declared.request.Request.{Request}
use Rattle.bench_history.specs.History.{history_of}
use Rattle.bench_history.specs.declared.event.Event.{Event}
use Rattle.bench_judge.specs.Deviations.{AreDeviations}
use Rattle.bench_judge.specs.Evidence.{IsEvidence, passes}
use Rattle.bench_judge.specs.Explained.{IsExplained}
use Rattle.bench_judge.specs.Judged.{IsJudgement}
use Rattle.bench_judge.specs.Terms.{ground_in}
use Rattle.bench_judge.specs.declared.judgement.Counts.{Counts}
use Rattle.bench_judge.specs.declared.judgement.Deviation.{Deviation}
use Rattle.bench_judge.specs.declared.judgement.Evidence.{Evidence}
use Rattle.bench_judge.specs.declared.judgement.Evidence.TheVariants.{Judged, NoFrame, Nothing}
use Rattle.bench_judge.specs.declared.judgement.Explanation.{Explanation}
use Rattle.bench_judge.specs.declared.judgement.Judgement.TheVariants.{Explained, Deviates}
use Rattle.bench_judge.specs.declared.judgement.Step.{Step}
use Rattle.bench_judge.specs.declared.settings.JudgeSettings.{JudgeSettings}
use Rattle.onu_texts.specs.Judging.{DeviatesAt, IsExplainedHistory, IsFoundIn, Says, first_line, number_of, said_of, upon}
use Rattle.onu_texts.specs.declared.judging.Found.{Found}
use Rattle.onu_texts.specs.declared.judging.Found.TheVariants.{First, Listed, Covered}

-- ---- explained

abbrev is_explained : (settings : JudgeSettings) (start : List Request) (history : List ℕ) (e : Explanation)
    → IsJudgement settings start history (Explained e) → IsExplainedHistory start history settings
is_explained settings start history e found = record { events = found.events; read = found.read; explained = found.found.explained }

pass_if : (u : Bool) (counts : Counts) (steps : Vec Step Global) (finished : Bool) (v : Evidence)
    → passes u (record { counts = counts; steps = steps; finished = finished; evidence = v }) ≡ true → (v ≡ Judged) × (finished || u ≡ true)
pass_if u counts steps finished Judged is = (refl, is)
pass_if u counts steps finished NoFrame is = absurd (cc is)
pass_if u counts steps finished Nothing is = absurd (cc is)

no_pass_if : (u : Bool) (counts : Counts) (steps : Vec Step Global) (finished : Bool) (v : Evidence)
    → passes u (record { counts = counts; steps = steps; finished = finished; evidence = v }) ≡ false
    → (v ≡ NoFrame) ⊎ (v ≡ Nothing) ⊎ (finished || u ≡ false)
no_pass_if u counts steps finished Judged is = inr (inr is)
no_pass_if u counts steps finished NoFrame is = inl refl
no_pass_if u counts steps finished Nothing is = inr (inl refl)

-- why an explanation is no pass
why_of : (settings : JudgeSettings) (start : List Request) (events : List Event) (u : Bool) (v : Evidence) (finished ended : Bool) → finished ≡ ended
    → IsEvidence (ground_in (upon start settings)) events v → (v ≡ NoFrame) ⊎ (v ≡ Nothing) ⊎ (finished || u ≡ false)
    → IsEvidence (ground_in (upon start settings)) events NoFrame ⊎ IsEvidence (ground_in (upon start settings)) events Nothing ⊎ (ended || u ≡ false)
why_of settings start events u v finished ended same evidence (inl is) = inl (subst (IsEvidence (ground_in (upon start settings)) events) is evidence)
why_of settings start events u v finished ended same evidence (inr (inl is)) =
    inr (inl (subst (IsEvidence (ground_in (upon start settings)) events) is evidence))
why_of settings start events u v finished ended same evidence (inr (inr is)) = inr (inr (ap (λ f. f || u) (sym same) ∙ is))

says_explained : (u passed : Bool) (settings : JudgeSettings) (start : List Request) (history : List ℕ) (e : Explanation) → passes u e ≡ passed
    → IsJudgement settings start history (Explained e) → Says u settings start history (number_of passed) 0
says_explained u true settings start history e is found =
    let passed = pass_if u e.counts e.steps e.finished e.evidence is in
    inl (
      refl,
      refl,
      record {
        so = is_explained settings start history e found;
        evidence = subst (IsEvidence (ground_in (upon start settings)) found.events) passed.0 found.found.evidence;
        finished = ap (λ f. f || u) (sym found.found.finished) ∙ passed.1;
      },
    )
says_explained u false settings start history e is found =
    let why = no_pass_if u e.counts e.steps e.finished e.evidence is in
    inr (inl (
      refl,
      refl,
      record {
        so = is_explained settings start history e found;
        why = why_of settings start found.events u e.evidence e.finished _ found.found.finished found.found.evidence why;
      },
    ))

-- ---- not explained

deviates : (settings : JudgeSettings) (start : List Request) (history : List ℕ) (d : Deviation) → IsJudgement settings start history (Deviates d)
    → DeviatesAt start history d.line settings
deviates settings start history d found =
    record { events = found.events; read = found.read; place = found.found.place; names = found.found.line; first = found.found.first }

-- some deviations of unexplained events, of which at least one was to be listed
listed : (settings : JudgeSettings) (start : List Request) (history : List ℕ) (events : List Event) (most : ℕ) (list : List Deviation) (more : Bool)
    → history_of history ≡ Ok events → 0 < most → ¬ (IsExplained (upon start settings) events)
    → AreDeviations (upon start settings) events list more → (more ≡ true → length list ≡ most)
    → DeviatesAt start history (first_line list) settings
listed settings start history events most [] true read some unexplained are cut =
    let none = cut refl in
    absurd (omega (arith, none, some))
listed settings start history events most [] false read some unexplained are cut = absurd (unexplained are)
listed settings start history events most (d ∷ rest) more read some unexplained are cut =
    record { events = events; read = read; place = are.0.place; names = are.0.line; first = are.0.first }

pub says_of : (u : Bool) (settings : JudgeSettings) (start : List Request) (history : List ℕ) (found : Found) → IsFoundIn settings start history found
    → Says u settings start history (said_of u found).0 (said_of u found).1
says_of u settings start history (First (Explained e)) is = says_explained u (passes u e) settings start history e refl is
says_of u settings start history (First (Deviates d)) is = inr (inr (refl, deviates settings start history d is))
says_of u settings start history (Covered (Explained e) stretches) is = says_explained u (passes u e) settings start history e refl is
says_of u settings start history (Covered (Deviates d) stretches) is = inr (inr (refl, deviates settings start history d is))
says_of u settings start history (Listed d) (most, some, found) =
    inr (inr (refl, listed settings start history found.events most d.list.items d.more found.read some found.found.unexplained found.found.deviations found.found.cut))

-- ---- as a number of 32 bits

pub says_kept : (u : Bool) (settings : JudgeSettings) (start : List Request) (history : List ℕ) (number : ℤ) (line : ℕ) → Says u settings start history number line
    → Says u settings start history (to_z w32 (of_z w32 number)) line
says_kept u settings start history number line (inl says) = inl (subst (λ n. to_z w32 (of_z w32 n) ≡ pos 1) (sym says.0) refl, says.1, says.2)
says_kept u settings start history number line (inr (inl says)) = inr (inl (subst (λ n. to_z w32 (of_z w32 n) ≡ pos 2) (sym says.0) refl, says.1, says.2))
says_kept u settings start history number line (inr (inr says)) = inr (inr (subst (λ n. to_z w32 (of_z w32 n) ≡ pos 0) (sym says.0) refl, says.1))

-- what is said of a finding, where this is what was asked
pub says_so : (u asked : Bool) (settings : JudgeSettings) (start : List Request) (history : List ℕ) (found : Found) (said : ℤ × ℕ)
    → said ≡ said_of asked found → asked ≡ u → IsFoundIn settings start history found
    → Says u settings start history (to_z w32 (of_z w32 said.0)) said.1
says_so u asked settings start history found said is same are =
    let all : said ≡ said_of u found = is ∙ ap (λ b. said_of b found) same in
    says_kept u settings start history said.0 said.1
    (subst (λ (p : ℤ × ℕ). Says u settings start history p.0 p.1) (sym all) (says_of u settings start history found are))
