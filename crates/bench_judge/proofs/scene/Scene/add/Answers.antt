use Rattle.std.proofs.Common.{◌∙◌, ◌+◌, ℕ, Some, inl, inr, ap, sym, subst, refl, take}
use Rattle.bench_history.specs.declared.event.Event.{Event}
use Rattle.bench_history.specs.declared.event.Event.TheVariants.{Sent, Replied, Excused, Waited}
use Rattle.bench_answers.specs.Kept.{IsAnswersOf}
use Rattle.bench_answers.proofs.Results.{ok_more}
use Rattle.bench_judge.specs.Admitted.{IsAdmitted}
use Rattle.bench_judge.specs.Scene.{IsScene}
use Rattle.bench_judge.specs.Terms.{ground_in}
use Rattle.bench_judge.specs.declared.scene.Scene.{Scene}
use Rattle.bench_judge.proofs.OneOn.{IsEnd, IsQuiet, dropped_ends, ended_quiet, excused_no_frame, left_ends, lost_ends, nothing_quiet, one_of_quiet, replied_no_frame, scene_ended, scene_more, scene_quiet, sent_no_frame, stray_quiet, waited_no_frame}
use Rattle.bench_judge.proofs.scene.Scene.add.Goals as goal

pub returns-in-Sent : goal.returns-in-Sent
returns-in-Sent c = λ terms events at sound admitted is.
    let old : Scene = c.args.self.now in
    let new : Scene = record old { answers = c.send.new.self } in
    let here = at ∙ ap (λ (e : Event). Some e) c.in-Sent.is in
    ok_more c.send.result (λ _. IsAnswersOf (ground_in terms) events (c.args.place + 1) new.answers) (λ _. IsScene terms events (c.args.place + 1) new)
    (λ _ answers. scene_more terms events c.args.place (Sent c.in-Sent.message) old new here (sent_no_frame c.in-Sent.message) tt answers refl refl is)
    (c.send.ensures (ground_in terms) events here is.answers)

pub returns-in-Replied : goal.returns-in-Replied
returns-in-Replied c = λ terms events at sound admitted is.
    let old : Scene = c.args.self.now in
    let new : Scene = record old { answers = c.take.new.self } in
    let right = subst (λ (e : Event). IsAdmitted terms (take c.args.place events) e) c.in-Replied.is admitted in
    let here = at ∙ ap (λ (e : Event). Some e) c.in-Replied.is in
    ok_more c.take.result (λ _. IsAnswersOf (ground_in terms) events (c.args.place + 1) new.answers) (λ _. IsScene terms events (c.args.place + 1) new)
    (λ _ answers. scene_more terms events c.args.place (Replied c.in-Replied.reply) old new here (replied_no_frame c.in-Replied.reply) right answers refl refl is)
    (c.take.ensures (ground_in terms) events c.args.place here right is.answers)

pub returns-in-Excused : goal.returns-in-Excused
returns-in-Excused c = λ terms events at sound admitted is.
    let old : Scene = c.args.self.now in
    let new : Scene = record old { answers = c.excuse.new.self } in
    let here = at ∙ ap (λ (e : Event). Some e) c.in-Excused.is in
    ok_more c.excuse.result (λ _. IsAnswersOf (ground_in terms) events (c.args.place + 1) new.answers) (λ _. IsScene terms events (c.args.place + 1) new)
    (λ _ answers. scene_more terms events c.args.place (Excused c.in-Excused.reply) old new here (excused_no_frame c.in-Excused.reply) tt answers refl refl is)
    (c.excuse.ensures (ground_in terms) events c.args.place here is.answers)

pub returns-in-Waited : goal.returns-in-Waited
returns-in-Waited c = λ terms events at sound admitted is.
    let old : Scene = c.args.self.now in
    let new : Scene = record old { answers = c.wait.new.self } in
    let here = at ∙ ap (λ (e : Event). Some e) c.in-Waited.is in
    scene_more terms events c.args.place (Waited c.in-Waited.replies) old new here (waited_no_frame c.in-Waited.replies) tt
    (c.wait.ensures (ground_in terms) events c.args.place here is.answers) refl refl is

pub returns-in-Strayed : goal.returns-in-Strayed
returns-in-Strayed c = λ terms events at sound admitted is.
    let quiet : IsQuiet c.args.event.now =
    elim c.in-Strayed.is [
      | inl stray ↦ subst (λ (e : Event). IsQuiet e) (sym stray.3) (stray_quiet stray.0 stray.1 stray.2)
      | inr other ↦ elim other [
        | inl one ↦ subst (λ (e : Event). IsQuiet e) (sym one.3) (one_of_quiet one.0 one.1 one.2)
        | inr last ↦ elim last [
          | inl end ↦ subst (λ (e : Event). IsQuiet e) (sym end) ended_quiet
          | inr nothing ↦ subst (λ (e : Event). IsQuiet e) (sym nothing) nothing_quiet
        ]
      ]
    ] in
    scene_quiet terms events c.args.place c.args.event.now c.args.self.now at quiet admitted is

pub returns-in-Strayed-2 : goal.returns-in-Strayed-2
returns-in-Strayed-2 c = λ terms events at sound admitted is.
    let quiet : IsQuiet c.args.event.now =
    elim c.in-Strayed.is [
      | inl stray ↦ subst (λ (e : Event). IsQuiet e) (sym stray.3) (stray_quiet stray.0 stray.1 stray.2)
      | inr other ↦ elim other [
        | inl one ↦ subst (λ (e : Event). IsQuiet e) (sym one.3) (one_of_quiet one.0 one.1 one.2)
        | inr last ↦ elim last [
          | inl end ↦ subst (λ (e : Event). IsQuiet e) (sym end) ended_quiet
          | inr nothing ↦ subst (λ (e : Event). IsQuiet e) (sym nothing) nothing_quiet
        ]
      ]
    ] in
    scene_quiet terms events c.args.place c.args.event.now c.args.self.now at quiet admitted is

pub returns-in-Strayed-3 : goal.returns-in-Strayed-3
returns-in-Strayed-3 c = λ terms events at sound admitted is.
    let quiet : IsQuiet c.args.event.now =
    elim c.in-Strayed.is [
      | inl stray ↦ subst (λ (e : Event). IsQuiet e) (sym stray.3) (stray_quiet stray.0 stray.1 stray.2)
      | inr other ↦ elim other [
        | inl one ↦ subst (λ (e : Event). IsQuiet e) (sym one.3) (one_of_quiet one.0 one.1 one.2)
        | inr last ↦ elim last [
          | inl end ↦ subst (λ (e : Event). IsQuiet e) (sym end) ended_quiet
          | inr nothing ↦ subst (λ (e : Event). IsQuiet e) (sym nothing) nothing_quiet
        ]
      ]
    ] in
    scene_quiet terms events c.args.place c.args.event.now c.args.self.now at quiet admitted is

pub returns-in-Strayed-4 : goal.returns-in-Strayed-4
returns-in-Strayed-4 c = λ terms events at sound admitted is.
    let quiet : IsQuiet c.args.event.now =
    elim c.in-Strayed.is [
      | inl stray ↦ subst (λ (e : Event). IsQuiet e) (sym stray.3) (stray_quiet stray.0 stray.1 stray.2)
      | inr other ↦ elim other [
        | inl one ↦ subst (λ (e : Event). IsQuiet e) (sym one.3) (one_of_quiet one.0 one.1 one.2)
        | inr last ↦ elim last [
          | inl end ↦ subst (λ (e : Event). IsQuiet e) (sym end) ended_quiet
          | inr nothing ↦ subst (λ (e : Event). IsQuiet e) (sym nothing) nothing_quiet
        ]
      ]
    ] in
    scene_quiet terms events c.args.place c.args.event.now c.args.self.now at quiet admitted is

pub returns-in-Left : goal.returns-in-Left
returns-in-Left c = λ terms events at sound admitted is.
    let old : Scene = c.args.self.now in
    let new : Scene = record old { frames = c.end_frame.new.frames } in
    let number : ℕ = c.in-Left.number in
    let ends : IsEnd number c.args.event.now =
    elim c.in-Left.is [
      | inl left ↦ subst (λ (e : Event). IsEnd number e) (sym left.3) (left_ends left.0 left.1 number left.2)
      | inr other ↦ elim other [
        | inl dropped ↦ subst (λ (e : Event). IsEnd number e) (sym dropped) (dropped_ends number)
        | inr lost ↦ subst (λ (e : Event). IsEnd number e) (sym lost) (lost_ends number)
      ]
    ] in
    scene_ended terms events c.args.place number c.most-most.result c.args.event.now old new at ends sound refl refl
    (c.most-most.ensures (ground_in terms) events c.args.place is.answers) c.end_frame.ensures is
