use Rattle.std.proofs.Common.{ℕ, List, ap, take, ◌∙◌}
use Rattle.std.proofs.lemmas.List.{take-map}
use Rattle.tag_view.specs.Tag.{TagFields}
use Rattle.tag_view.specs.Frame.{with_tags}
use Rattle.tag_view.specs.Word.{tag_of}
use Rattle.frame_meaning.proofs.out_frame.OutFrame.of_words.Goals as goal

pub returns : goal.returns
returns c =
    let tags = ap (λ (ts : List TagFields). take c.args.count ts) c.tags_of.ensures ∙ take-map tag_of c.args.count c.args.words in
    let bytes = c.args.bytes.now in
    ap (λ (n : ℕ). with_tags bytes n (take c.args.count c.tags_of.result)) c.from.ensures
    ∙ ap (λ (ts : List TagFields). with_tags bytes c.args.received ts) tags
