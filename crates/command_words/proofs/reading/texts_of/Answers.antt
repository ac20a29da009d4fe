use Rattle.std.proofs.Common.{◌≡◌, ◌∙◌, ap, map, Ok, Err, Result, List}
use Rattle.std.specs.Prelude.{IfOk, Vec}
use Rattle.std.specs.Borrow.{Bor}
use Rattle.std.specs.declared.alloc.AllocError.{AllocError}
use Rattle.std.specs.declared.alloc.Global.{Global}
use Rattle.clap.specs.Words.{Text, found_of}
use Rattle.clap.proofs.WalkLemmas.{raw_values-rows}
use Rattle.command_words.specs.Asked.{texts_given}
use Rattle.command_words.proofs.reading.texts_of.Goals as goal

copied : (r : Result (Vec (Bor Text) Global) AllocError) (items : List (Bor Text)) (texts : List Text)
    → IfOk r (λ v. ((x y : Bor Text) → y ≡ x → y ≡ x) → v.items ≡ items) → map (λ (t : Bor Text). t.now) items ≡ texts
    → IfOk r (λ v. map (λ (t : Bor Text). t.now) v.items ≡ texts)
copied (Ok v) items texts same are = ap (map (λ (t : Bor Text). t.now)) (same (λ x y is. is)) ∙ are
copied (Err e) items texts same are = tt

pub returns-in-Some : goal.returns-in-Some
returns-in-Some c =
    copied c.to_vec.result c.in-Some.texts.now _ c.to_vec.ensures.items_if_clones_equal
    (ap texts_given (c.in-Some.ensures ∙ raw_values-rows (found_of c.args.given.now) c.args.name.now))

pub returns-in-None : goal.returns-in-None
returns-in-None c =
    ap (map (λ (t : Bor Text). t.now)) c.new.ensures.items
    ∙ ap texts_given (c.in-None.ensures ∙ raw_values-rows (found_of c.args.given.now) c.args.name.now)
