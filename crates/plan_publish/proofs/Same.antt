-- Requests that are found to be the same.
use Rattle.std.proofs.Common.{◌≡◌, Bool, true, false, Some, refl, ap, sym, ◌∙◌}
use Rattle.std.specs.Prelude.{◌&&◌}
use Rattle.std.specs.Bool.{OnTrue}
use Rattle.std.specs.Cmp.{booleans_Decides}
use Rattle.std.specs.Cmp.Lexicographic.{same_text}
use Rattle.std.proofs.lemmas.Bool.Decides.{Decides-eqb}
use mathlib.Core.Bool.{true≢false}
use Rattle.omci_msg.specs.declared.Action.{Action}
use Rattle.omci_msg.specs.declared.Request.{Request}
use Rattle.omci_msg.specs.Message.{action_of, code_of}
use Rattle.omci_msg.proofs.Codes.{action_of-code_of}
use Rattle.plan_publish.specs.Requests.{is_same}

first_of : (a b : Bool) → (a && b) ≡ true → a ≡ true
first_of true b h = refl
first_of false b h = h

second_of : (a b : Bool) → (a && b) ≡ true → b ≡ true
second_of true b h = h
second_of false b h = absurd (true≢false (sym h))

same_action : (a b : Action) → code_of a ≡ code_of b → a ≡ b
same_action a b h =
    let some : Some a ≡ Some b = sym (action_of-code_of a) ∙ (ap action_of h ∙ action_of-code_of b) in cc some

one_same : (a b : Request) → is_same a b ≡ true → a ≡ b
one_same a b h =
    let h1 = first_of _ _ h in
    let h2 = first_of _ _ h1 in
    let h3 = first_of _ _ h2 in
    let h4 = first_of _ _ h3 in
    let tci : a.tci ≡ b.tci = (Decides-eqb a.tci b.tci).0 (first_of _ _ h4) in
    let action : a.action ≡ b.action = same_action a.action b.action ((Decides-eqb (code_of a.action) (code_of b.action)).0 (second_of _ _ h4)) in
    let wants : a.wants_answer ≡ b.wants_answer = (booleans_Decides a.wants_answer b.wants_answer).0 (second_of _ _ h3) in
    let class : a.class ≡ b.class = (Decides-eqb a.class b.class).0 (second_of _ _ h2) in
    let instance : a.instance ≡ b.instance = (Decides-eqb a.instance b.instance).0 (second_of _ _ h1) in
    let contents : a.contents ≡ b.contents = same_text a.contents b.contents (sym (second_of _ _ h)) in
    λ i. record { tci = tci i; action = action i; wants_answer = wants i; class = class i; instance = instance i; contents = contents i }

pub told_same : (a b : Request) (r : Bool) → r ≡ is_same a b → OnTrue r (Some a ≡ Some b)
told_same a b true h = ap Some (one_same a b (sym h))
told_same a b false h = tt
