-- The least versions of all frames are a choice.
use Rattle.std.proofs.Common.{◌≤◌, subst, arith}
use Rattle.bench_judge.specs.Explained.{IsVersionOf}
use Rattle.bench_judge.specs.Laws.{FrontsAreExplained, LeastAreAChoice}
use Rattle.bench_judge.proofs.Fronts.{explained_front}

pub fronts_are_explained : FrontsAreExplained
fronts_are_explained terms events is place = explained_front terms place events is

pub least_are_a_choice : LeastAreAChoice
least_are_a_choice grounds padded unordered events versions least =
    record {
      each = λ f is. let l = least f is in subst (IsVersionOf grounds padded events f) l.has (l.choice.each f is);
      ordered = λ order f g is_f is_g port lt.
          let l = least f is_f in
          let m = least g is_g in
          let under : versions f.number ≤ m.versions f.number = l.least m.versions m.choice in
          let up : m.versions f.number ≤ m.versions g.number = m.choice.ordered order f g is_f is_g port lt in
          omega (arith, under, up, m.has);
    }
