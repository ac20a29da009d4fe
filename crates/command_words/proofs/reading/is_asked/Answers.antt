use Rattle.std.proofs.Common.{◌∙◌, Option, sym, ap}
use Rattle.std.specs.Prelude.{option_map}
use Rattle.clap.specs.Words.{found_of}
use Rattle.clap.proofs.WalkLemmas.{first_value-rows}
use Rattle.command_words.specs.Asked.{is_true}
use Rattle.command_words.proofs.reading.is_asked.Goals as goal

pub returns-in-Some : goal.returns-in-Some
returns-in-Some c =
    let found = found_of c.args.given.now in
    let there = sym c.get_str.ensures ∙ ap (λ (t : Option _). option_map (λ s. s.now) t) c.in-Some.is in
    c.eq.ensures ∙ sym (ap is_true (sym (first_value-rows found c.args.name.now) ∙ there))

pub returns-in-None : goal.returns-in-None
returns-in-None c =
    let found = found_of c.args.given.now in
    let there = sym c.get_str.ensures ∙ ap (λ (t : Option _). option_map (λ s. s.now) t) c.in-None.is in
    sym (ap is_true (sym (first_value-rows found c.args.name.now) ∙ there))
