use Rattle.std.proofs.Common.{◌≡◌, ◌-◌, ◌≤◌, ◌++◌, ℕ, List, [], ◌∷◌, length, map, take, drop, get_or, arith, ap, ap₂, append_assoc, ◌∙◌}
use Rattle.std.specs.Borrow.{Bor}
use Rattle.std.proofs.lemmas.List.{length-drop, take_all}
use Rattle.std.proofs.lemmas.Option.{slice_get-get_or}
use Rattle.mib_state.specs.Entities.{Entities}
use Rattle.frame_meaning.specs.declared.verdict.Verdict.{Verdict}
use Rattle.frame_meaning.specs.Meaning.{meaning}
use Rattle.port_plan.proofs.port_plan.PortPlan.push_all.Goals as goal

-- all behind the first
behind_first : (left : List (Bor (List ℕ))) → take (length left - 1) (drop 1 left) ≡ drop 1 left
behind_first left = take_all (length left - 1) (drop 1 left) (omega (arith, length-drop 1 left))

-- one frame more
one_more : (e : Entities) (port : ℕ) (left : List (Bor (List ℕ))) (d : Bor (List ℕ)) (before after all : List Verdict) → 1 ≤ length left
    → after ≡ before ++ meaning e port (get_or left 0 d).now ∷ [] → before ++ map (λ frame. meaning e port frame.now) left ≡ all
    → after ++ map (λ frame. meaning e port frame.now) (take (length left - 1) (drop 1 left)) ≡ all
one_more e port [] d before after all some is total = absurd (omega (arith, some))
one_more e port (x ∷ xs) d before after all some is total =
    let mean : Bor (List ℕ) → Verdict = λ frame. meaning e port frame.now in
    ap₂ (λ (verdicts : List Verdict) (left : List (Bor (List ℕ))). verdicts ++ map mean left) is (behind_first (x ∷ xs))
    ∙ append_assoc before (mean x ∷ []) (map mean xs) ∙ total

-- there is one verdict more, since it is appended
pub loop-left-preserved : goal.loop-left-preserved
loop-left-preserved c =
    let left = c.loop-left.left.now in
    record {
      len = omega (arith, c.push_foreseen.ensures.one, c.loop-left.invariant.len, c.in-len1-up.len_at_least, ap (λ (l : List (Bor (List ℕ))). length l) (behind_first left), length-drop 1 left);
      room = c.push_foreseen.ensures.room ∙ c.loop-left.invariant.room;
      foreseen = c.tags_ahead-next.ensures.foreseen;
      so_far = λ e port planned.
          one_more e port left _ c.loop-left.verdicts.items c.push_foreseen.new.verdicts.items _ c.in-len1-up.len_at_least
          (c.push_foreseen.ensures.verdict e port planned) (c.loop-left.invariant.so_far e port planned);
    }

-- the number was found for this frame
pub push_foreseen-requires-clause-foreseen : goal.push_foreseen-requires-clause-foreseen
push_foreseen-requires-clause-foreseen c =
    c.loop-left.invariant.foreseen _ (slice_get-get_or c.loop-left.left.now 0 _ (omega (arith, c.in-len1-up.len_at_least)))
