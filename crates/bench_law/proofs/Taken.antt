-- What the judge takes replies for, and what they stand for.
use Rattle.std.proofs.Common.{◌≡◌, ◌≤◌, ◌+◌, ℕ, Bool, cond, List, [], ◌∷◌, ◌++◌, length, take, inl, inr, refl, sym, ap, ◌∙◌, arith, length-append}
use Rattle.std.specs.Prelude.{count_by}
use Rattle.std.proofs.lemmas.Bool.Decides.{leb_tells}
use Rattle.std.proofs.lemmas.List.{take-append-le, take_all}
use Rattle.bench_answers.specs.Standing.{is_repeat_of, reach, reached, start_reach, start_reached}
use Rattle.bench_answers.specs.declared.standing.Standing.{Standing}
use Rattle.bench_answers.proofs.Reaching.{reached_more, start_reached_more}
use Rattle.bench_answers.proofs.Steps.{count_more}

-- a reply is taken for what it stands for, or for the answer to an earlier request of the script
pub record IsTakenFor (taken meant : Standing) : Type 0 where
  pub reaches : reach taken ≡ reach meant
  pub repeats : (k : ℕ) → is_repeat_of k taken ≡ is_repeat_of k meant
  pub of_start : start_reach taken ≤ start_reach meant

pub record AreTakenFor (taken meant : List Standing) : Type 0 where
  pub count : length taken ≡ length meant
  pub reaches : reached taken ≡ reached meant
  pub fronts : (n : ℕ) → reached (take n taken) ≡ reached (take n meant)
  pub repeats : (k : ℕ) → count_by (is_repeat_of k) taken ≡ count_by (is_repeat_of k) meant
  pub of_start : start_reached taken ≤ start_reached meant

pub taken_itself : (s : Standing) → IsTakenFor s s
taken_itself s = record { reaches = refl; repeats = λ k. refl; of_start = omega arith }

pub none_taken : AreTakenFor [] []
none_taken = record { count = refl; reaches = refl; fronts = λ n. refl; repeats = λ k. refl; of_start = omega arith }

-- one more
pub more_taken : (taken meant : List Standing) (s t : Standing) → IsTakenFor s t → AreTakenFor taken meant
    → AreTakenFor (taken ++ s ∷ []) (meant ++ t ∷ [])
more_taken taken meant s t one all =
    let whole : reached (taken ++ s ∷ []) ≡ reached (meant ++ t ∷ []) =
    omega (arith, reached_more taken s, reached_more meant t, one.reaches, all.reaches) in
    record {
      count = omega (arith, length-append taken (s ∷ []), length-append meant (t ∷ []), all.count);
      reaches = whole;
      fronts = λ n.
          elim (leb_tells n (length taken)) [
            | inl few ↦
                ap (λ (ss : List Standing). reached ss) (take-append-le n taken (s ∷ []) few.1) ∙ all.fronts n
                ∙ ap (λ (ss : List Standing). reached ss) (sym (take-append-le n meant (t ∷ []) (omega (arith, few.1, all.count))))
            | inr many ↦
                ap (λ (ss : List Standing). reached ss) (take_all n (taken ++ s ∷ []) (omega (arith, many.1, length-append taken (s ∷ []))))
                ∙ whole
                ∙ ap (λ (ss : List Standing). reached ss)
                (sym (take_all n (meant ++ t ∷ []) (omega (arith, many.1, length-append meant (t ∷ []), all.count))))
          ];
      repeats = λ k.
          count_more (is_repeat_of k) taken s
          ∙ ap (λ (n : ℕ). n + cond (is_repeat_of k s) 1 0) (all.repeats k)
          ∙ ap (λ (b : Bool). count_by (is_repeat_of k) meant + cond b 1 0) (one.repeats k)
          ∙ sym (count_more (is_repeat_of k) meant t);
      of_start = omega (arith, start_reached_more taken s, start_reached_more meant t, one.of_start, all.of_start);
    }
